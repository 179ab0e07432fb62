-- Records of options have a lawful equality and order.
use Rattle.std.specs.Prelude.{◌≡◌, List}
use Rattle.std.specs.{Cmp.Lexicographic.lists_equiv, Cmp.Lexicographic.lists_total, Cmp.Lexicographic.lists_ties, Ordering.is_eq}
use Rattle.std.specs.Cmp.{IsEquivalence, IsTotalOrder, on_equiv, and_equiv, on_total, then_total, both_tied}
use Rattle.dns_rdata_base.proofs.NumberedLaws.{numbered_equiv, numbered_total, numbered_ties}
use Rattle.dns_rdata_options.specs.{EdnsCode.edns_code_number, EdnsCode.edns_code_variant, OPT.Pair}
use Rattle.dns_rdata_options.specs.Order.{code_cmp, pair_eq, pair_cmp, risen, opt_eq, opt_cmp}
use Rattle.dns_rdata_options.specs.contracts.opt.option.EdnsOptionEq.TheImpl.Laws as equal_laws
use Rattle.dns_rdata_options.specs.contracts.opt.option.EdnsOptionOrd.TheImpl as ordered_options
use Rattle.dns_rdata_options.specs.contracts.opt.option.EdnsOptionOrd.TheImpl.Laws as ordered_laws

pub pair_equiv : IsEquivalence pair_eq
pair_equiv = and_equiv (on_equiv (λ (p : Pair). p.0) (numbered_equiv edns_code_number edns_code_variant))
    (on_equiv (λ (p : Pair). p.1) equal_laws.laws-law)

pub pair_total : IsTotalOrder pair_cmp
pair_total = then_total (on_total (λ (p : Pair). p.0) (numbered_total edns_code_number edns_code_variant))
    (on_total (λ (p : Pair). p.1) ordered_laws.total-law)

-- `==` of pairs holds exactly where their order returns Equal
pub pair_ties : (p q : Pair) → pair_eq p q ≡ is_eq (pair_cmp p q)
pair_ties p q = both_tied _ _ (code_cmp p.0 q.0) (ordered_options.ghosts.cmp p.1 q.1)
    (numbered_ties edns_code_number edns_code_variant p.0 q.0) (ordered_laws.matches_eq-law p.1 q.1)

pub opt_equiv : IsEquivalence opt_eq
opt_equiv = on_equiv risen (lists_equiv pair_equiv)

pub opt_total : IsTotalOrder opt_cmp
opt_total = on_total risen (lists_total pair_total)

pub opt_ties : (a b : List Pair) → opt_eq a b ≡ is_eq (opt_cmp a b)
opt_ties a b = lists_ties pair_cmp pair_ties (risen a) (risen b)
