use Rattle.std.proofs.Common.{◌==◌}
use Rattle.std.specs.{Cmp.Lexicographic.pointwise, Cmp.Lexicographic.pointwise_decides, Cmp.unsigned_Decides}
use Rattle.dns_types.proofs.Overlaps.{one_answer}
use Rattle.dns_types.proofs.strings.StringsPartialEq.eq.Goals as goal

pub returns-clause-value : goal.returns-clause-value
returns-clause-value c =
    one_answer c.same_strings.result (pointwise (pointwise ◌==◌) c.args.self.now c.args.other.now)
    (rw (← c.as_slice.ensures, ← c.as_slice-2.ensures) c.same_strings.ensures)
    (pointwise_decides (pointwise_decides unsigned_Decides) c.args.self.now c.args.other.now)
