use Rattle.dns_view.proofs.NamesPut.{put_same}
use Rattle.dns_view.proofs.name.name_ref.NameRef.put.Goals as goal

pub returns-in-Some : goal.returns-in-Some
returns-in-Some c = λ x q is. put_same x c.in-Some.ensures.some is
