use Rattle.dns_labels.proofs.ReadingRuns.{no_more, first_refused, next_refused}
use Rattle.dns_labels.proofs.reading.read_runs.Goals as goal

pub returns-in_err-first-clause-none : goal.returns-in_err-first-clause-none
returns-in_err-first-clause-none c = rw c.from_residual.ensures (first_refused c.requires.empty c.in_err-first.ensures.none)

pub returns-in_err-run-clause-none : goal.returns-in_err-run-clause-none
returns-in_err-run-clause-none c =
    rw c.from_residual-in_err-run.ensures (next_refused (rw c.in-Some.is at c.runs.invariant.0) c.in_err-run.ensures.none)

pub returns-clause-some : goal.returns-clause-some
returns-clause-some c = no_more (rw c.in_default.is at c.runs.invariant.0)
