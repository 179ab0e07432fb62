use Rattle.dns_fields.proofs.NameLaws.{name_append}
use Rattle.dns_labels.proofs.laws.names_hold.Goals as goal

pub returns-clause-written : goal.returns-clause-written
returns-clause-written c = λ mode m octets more x w. name_append more w.stands
