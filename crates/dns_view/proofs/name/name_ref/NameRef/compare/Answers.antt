use Rattle.dns_view.proofs.NamesShown.{low_compared}
use Rattle.dns_view.proofs.name.name_ref.NameRef.compare.Goals as goal

pub returns-clause-octets : goal.returns-clause-octets
returns-clause-octets c = low_compared c.args.self.now.named c.args.other.now.named c.compare_names.ensures
