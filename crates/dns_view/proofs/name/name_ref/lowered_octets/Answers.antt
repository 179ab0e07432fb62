use Rattle.std.proofs.Common.{arith}
use Rattle.dns_view.proofs.NamesPut.{put_front}
use Rattle.dns_view.proofs.name.name_ref.lowered_octets.Goals as goal

pub returns-in-Some-clause-lowered : goal.returns-in-Some-clause-lowered
returns-in-Some-clause-lowered c = λ x q is. put_front x c.in-Some.ensures.some (omega (arith, c.in-Some.ensures.few, c.told-out)) is
