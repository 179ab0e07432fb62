use Rattle.std.proofs.Common.{◌≡◌, ◌↔◌, ◌∙◌, sym, ap, Bool, true, IsTrue, List, count_by, subst}
use Rattle.std.specs.{Ordering.is_eq, Cmp.Lexicographic.pointwise_decides, List.Sorted.IsPermutation}
use Rattle.dns_fields.proofs.Multisets.{counts_decide}
use Rattle.dns_rdata_options.specs.{OPT.Pair, Order.pair_eq, Order.pair_cmp, Order.opt_eq}
use Rattle.dns_rdata_options.specs.OrderLaws.{pair_equiv, pair_total, pair_ties, opt_equiv, opt_ties}
use Rattle.dns_rdata_options.proofs.Values.{opt_permutes, pair_same}
use Rattle.dns_rdata_options.proofs.opt.OPTPartialEq.eq.Goals as goal

clauses : (a b : List Pair) (r : Bool) → r ≡ opt_eq a b
    → record { answer : r ≡ opt_eq a b; permutation : IsTrue r ↔ IsPermutation a b; multiset : IsTrue r ↔ ((p : Pair) → count_by (pair_eq p) a ≡ count_by (pair_eq p) b) }
clauses a b r e =
    let permutes = opt_permutes a b in
    record {
      answer = e;
      permutation = (λ t. permutes.0 (sym e ∙ t), λ p. e ∙ permutes.1 p);
      multiset = counts_decide pair_cmp pair_total pair_eq pair_ties a b r (e ∙ opt_ties a b);
    }

pub returns-then-eq : goal.returns-then-eq
returns-then-eq c =
    let x : c.as_slice.result.now ≡ c.args.self.now = c.as_slice.ensures.value ∙ c.self.view_is in
    let y : c.as_slice-2.result.now ≡ c.args.other.now = c.as_slice-2.ensures.value ∙ c.other.view_is in
    let same = (pointwise_decides (λ p q. (pair_same p q, λ e. subst (λ z. pair_eq p z ≡ true) e (pair_equiv.refl p))) c.as_slice.result.now c.as_slice-2.result.now).0
    (sym c.eq.ensures ∙ c.if-eq.true) in
    clauses c.args.self.now c.args.other.now _ (sym (opt_equiv.refl c.args.self.now) ∙ ap (opt_eq c.args.self.now) (sym x ∙ same ∙ y))

pub returns : goal.returns
returns c = clauses c.args.self.now c.args.other.now _ (c.is_eq.ensures ∙ ap is_eq c.cmp.ensures ∙ sym (opt_ties c.args.self.now c.args.other.now))
