use Rattle.dns_rdata.proofs.OrderKeys.{keys_order}
use Rattle.dns_rdata_laws.proofs.keys_hold.Goals as goal

pub returns : goal.returns
returns c = keys_order
