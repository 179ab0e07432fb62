use Rattle.std.proofs.Common.{arith}
use Rattle.dns_names_wire.proofs.NameSteps.{no_first, no_next, ends, going_first, going_next}
use Rattle.dns_names_wire.proofs.StepCounts.{chased_first, chased_next, chased_forward, chased_lost, chased_end}
use Rattle.dns_names_wire.proofs.name_ends.follow_name.Goals as goal

pub returns-in-None-clause-none : goal.returns-in-None-clause-none
returns-in-None-clause-none c = no_first (rw c.in-None.is at c.pass_run-passed.ensures.none)

pub runs-init : goal.runs-init
runs-init c =
    let some = rw c.in-Some.is at c.pass_run-passed.ensures.some in
    let end = rw c.in-Some.is at c.pass_run-passed.ensures.end in
    (going_first c.requires some, end.0, chased_first some c.pass_run-passed.ensures.labels end.1)

pub returns-then-target-offset-clause-steps : goal.returns-then-target-offset-clause-steps
returns-then-target-offset-clause-steps c = chased_forward (rw c.in-Some-next.is at c.runs.invariant.2) (omega arith)

pub returns-in-None-run-clause-none : goal.returns-in-None-run-clause-none
returns-in-None-run-clause-none c =
    no_next (rw c.in-Some-next.is at c.runs.invariant.0) (rw c.in-None-run.is at c.pass_run-passed-in-Some-next.ensures.none)

pub returns-in-None-run-clause-steps : goal.returns-in-None-run-clause-steps
returns-in-None-run-clause-steps c =
    let passed = c.pass_run-passed-in-Some-next.ensures in
    chased_lost (rw c.in-Some-next.is at c.runs.invariant.2) _ (omega arith) (rw c.in-None-run.is at passed.none) passed.labels

pub runs-preserved : goal.runs-preserved
runs-preserved c =
    let passed = c.pass_run-passed-in-Some-next.ensures in
    let some = rw c.in-Some-run.is at passed.some in
    let end = rw c.in-Some-run.is at passed.end in (
      going_next (rw c.in-Some-next.is at c.runs.invariant.0) (omega arith) some,
      c.runs.invariant.1,
      chased_next (rw c.in-Some-next.is at c.runs.invariant.2) _ (omega arith) some passed.labels end.1,
    )

pub returns-clause-some : goal.returns-clause-some
returns-clause-some c = ends (rw c.in_default.is at c.runs.invariant.0)

pub returns-clause-steps : goal.returns-clause-steps
returns-clause-steps c = chased_end (rw c.in_default.is at c.runs.invariant.2)
