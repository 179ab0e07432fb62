use Rattle.dns_fields.proofs.NameLaws.{name_same}
use Rattle.dns_view.proofs.name.name_ref.NameRef.to_name.Goals as goal

pub returns-in-Ok-read : goal.returns-in-Ok-read
returns-in-Ok-read c = λ x q is. (name_same (rw c.in-Ok.ensures.there at c.in-Ok-read.ensures.reads.1) is).0
