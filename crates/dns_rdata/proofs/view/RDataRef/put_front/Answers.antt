use Rattle.dns_rdata.proofs.ViewOrder.{put_shown}
use Rattle.dns_rdata.proofs.view.RDataRef.put_front.Goals as goal

pub returns-clause-count : goal.returns-clause-count
returns-clause-count c = (put_shown c.args.self.now 1024 c.told-out c.put_canonical.ensures).0

pub returns-clause-front : goal.returns-clause-front
returns-clause-front c = (put_shown c.args.self.now 1024 c.told-out c.put_canonical.ensures).1
