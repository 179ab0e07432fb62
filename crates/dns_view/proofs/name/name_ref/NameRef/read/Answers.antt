use Rattle.std.proofs.Common.{arith}
use Rattle.dns_fields.proofs.NameLaws.{name_inside}
use Rattle.dns_view.proofs.name.name_ref.NameRef.read.Goals as goal

-- src/name_ref.rt:77:13
pub returns-then-message-offset-clause-none : goal.returns-then-message-offset-clause-none
returns-then-message-offset-clause-none c = λ name end is. absurd (omega (arith, name_inside is, c.if-message-offset.true))
