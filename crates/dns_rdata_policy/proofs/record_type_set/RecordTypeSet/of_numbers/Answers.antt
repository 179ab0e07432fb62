use Rattle.std.proofs.{Common.arith, lemmas.List.Filters.dedup_is}
use Rattle.dns_rdata_policy.specs.RecordTypeSet.{IsSetOf}
use Rattle.dns_rdata_policy.proofs.Rising.{rising_set, sorted_set}
use Rattle.dns_rdata_policy.proofs.record_type_set.RecordTypeSet.of_numbers.Goals.{then-not-rises, else-not-rises}
use Rattle.dns_rdata_policy.proofs.record_type_set.RecordTypeSet.of_numbers.Goals as goal

set : (c : goal.Joined-not-rises) → IsSetOf c.args.numbers.items c.if-not-rises.numbers.items
set c = elim c.if-not-rises.branch [
  | then-not-rises w ↦ rw (w.numbers-is, dedup_is _ _ _ w.dedup.ensures.filtered)
      (sorted_set c.args.numbers.items w.sort_unstable.new.self.items (λ k d l. omega arith) w.sort_unstable.ensures.permutation
      w.sort_unstable.ensures.sorted)
  | else-not-rises w ↦ rw w.numbers-is (rising_set c.args.numbers.items (λ k d l. omega arith)
      (rw c.as_slice.ensures.value at (c.rises.ensures.0 w.if-not-rises.false)))
]

pub invariant_of-result : goal.invariant_of-result
invariant_of-result c = (set c).set

pub returns : goal.returns
returns c = set c
