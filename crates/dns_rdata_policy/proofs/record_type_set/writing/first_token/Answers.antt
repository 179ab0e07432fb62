use Rattle.std.proofs.Common.{arith}
use Rattle.dns_rdata_policy.proofs.Windows.{front_none}
use Rattle.dns_rdata_policy.proofs.record_type_set.writing.first_token.Goals as goal

pub loop-count-init : goal.loop-count-init
loop-count-init c = (front_none c.args.run.now _, omega arith)
