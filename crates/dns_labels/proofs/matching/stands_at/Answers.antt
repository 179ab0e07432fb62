use Rattle.dns_labels.proofs.WritingSteps.{next_matched, is_matched}
use Rattle.std.proofs.{lemmas.List.take_rest, Common.arith}
use Rattle.dns_labels.proofs.matching.stands_at.Goals as goal

pub returns-in_default-stop : goal.returns-in_default-stop
returns-in_default-stop c = is_matched c.runs.invariant (rw (c.in_default-stop.is, take_rest c.args.octets.now c.runs.matched) at c.in-Some.ensures)

pub runs-preserved : goal.runs-preserved
runs-preserved c =
    next_matched c.runs.invariant (rw (c.in-Some-stop.is, take_rest c.args.octets.now c.runs.matched) at c.in-Some.ensures) (omega arith)
