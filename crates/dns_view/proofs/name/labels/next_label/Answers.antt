use Rattle.std.proofs.Common.{◌∙◌, arith, length-take}
use Rattle.dns_view.proofs.LabelSteps.{left_label, left_pointer}
use Rattle.dns_view.proofs.name.labels.next_label.Goals as goal

pub returns-then-size-lt64-clause-some : goal.returns-then-size-lt64-clause-some
returns-then-size-lt64-clause-some c =
    c.runs.invariant.0 ∙ left_label c.runs.region.now c.runs.first c.runs.at (omega arith) (omega arith) (omega arith) (omega arith)

pub runs-preserved : goal.runs-preserved
runs-preserved c =
    let n = length-take c.runs.first c.runs.region.now in (
      c.runs.invariant.0 ∙ left_pointer c.runs.region.now c.runs.first c.runs.at (omega arith) (omega arith) (omega arith),
      omega arith,
      omega arith,
    )
