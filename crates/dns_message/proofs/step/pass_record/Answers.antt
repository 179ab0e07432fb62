use Rattle.std.proofs.Common.{refl, arith, inl, inr}
use Rattle.dns_message.proofs.Stops.{takes, exceeds, both_leave}
use Rattle.dns_message.proofs.step.pass_record.Goals as goal

pub returns-then-left-eq0-clause-stopped : goal.returns-then-left-eq0-clause-stopped
returns-then-left-eq0-clause-stopped c =
    inr (refl, exceeds (both_leave c.in-Ok.fields c.in-Ok.ensures.found c.in-Ok.ensures.within c.content_of-content.ensures.steps) c.if-left-eq0.true)

pub returns-else-left-eq0-clause-within : goal.returns-else-left-eq0-clause-within
returns-else-left-eq0-clause-within c =
    takes (both_leave c.in-Ok.fields c.in-Ok.ensures.found c.in-Ok.ensures.within c.content_of-content.ensures.steps) (omega arith)

pub returns-in-Err-clause-stopped : goal.returns-in-Err-clause-stopped
returns-in-Err-clause-stopped c = inl c.in-Err.ensures.stopped
