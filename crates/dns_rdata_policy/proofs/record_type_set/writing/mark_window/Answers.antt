use Rattle.dns_rdata_policy.proofs.Windows.{front_marks}
use Rattle.dns_rdata_policy.proofs.record_type_set.writing.mark_window.Goals as goal

pub loop-at-init : goal.loop-at-init
loop-at-init c =
    let f = c.first_token-token.ensures in
    front_marks _ _ c.first_token-token.result.0 _ (record { low = f.low; high = f.high }) c.put_token.ensures
