use Rattle.dns_rdata.proofs.DataLaws.{tells_apart}
use Rattle.dns_rdata.proofs.record_data.RDataPartialEq.eq.Goals as goal

pub returns-clause-canonical : goal.returns-clause-canonical
returns-clause-canonical c = rw c.is_same.ensures (tells_apart c.args.self.now c.args.other.now)
