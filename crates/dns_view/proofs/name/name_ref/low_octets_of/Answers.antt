use Rattle.dns_view.proofs.NamesShown.{low_shown}
use Rattle.dns_view.proofs.name.name_ref.low_octets_of.Goals as goal

pub returns-clause-octets : goal.returns-clause-octets
returns-clause-octets c = low_shown c.requires.named c.lowered_octets.ensures.lowered
