use Rattle.std.proofs.Common.{⊎_elim, rules}
use Rattle.dns_rdata.specs.Data.{EmitsData}
use Rattle.dns_rdata.proofs.record_data.RData.emit_by_type.Goals as goal

pub returns-in-Unknown : goal.returns-in-Unknown
unfolding EmitsData
returns-in-Unknown c = rw c.in-Unknown.is c.emit.ensures.emits

pub returns-in-Update0 : goal.returns-in-Update0
unfolding EmitsData
returns-in-Update0 c = ⊎_elim (λ h. rw h.1 (search rules)) (λ h. rw h (search rules)) c.in-Update0.is
