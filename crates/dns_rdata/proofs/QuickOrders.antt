-- An order that the fields tell is that of RDATA.
use Rattle.std.proofs.Common.{◌≡◌, ◌≢◌, ◌&&◌, Bool, true, Option, Some, None, IfSome, List, refl, sym, ap, ◌∙◌}
use Rattle.std.specs.{Cmp.Lexicographic.slice_cmp, Ordering.nat_cmp, declared.cmp.Ordering.Ordering}
use Rattle.std.specs.declared.cmp.Ordering.TheVariants.{Less, Equal, Greater}
use Rattle.dns_fields.specs.{Fields.Values, Fields.all_emittable, Fields.canonical, declared.Kind.Kind}
use Rattle.dns_canonical.specs.Fronts.{canonical_cmp}
use Rattle.dns_canonical.proofs.Comparing.{then_kept}
use Rattle.dns_rdata_base.specs.Ordered.{IsOrder, IfSomeOrder}
use Rattle.dns_rdata.specs.{declared.record_data.RData.RData, Data.data_octets, Data.fields_of, Data.octets_of, Equal.equal, Order.rdata_cmp}
use Rattle.dns_rdata.specs.Ties.{equal_is, rdata_ties}

differs : (v w : RData) (s : List Kind) (a b : Values s) (o : Ordering) → fields_of v ≡ record { kinds = s; values = a }
    → fields_of w ≡ record { kinds = s; values = b } → o ≢ Equal → all_emittable s a ≡ true → all_emittable s b ≡ true → o ≡ canonical_cmp s a b
    → o ≡ rdata_cmp v w
differs v w s a b o f g n first second e =
    let left : data_octets v ≡ canonical s a = ap octets_of f ∙ rw first refl in
    let right : data_octets w ≡ canonical s b = ap octets_of g ∙ rw second refl in
    let d : o ≡ slice_cmp nat_cmp (data_octets v) (data_octets w) = e ∙ rw (left, right) refl in
    d ∙ then_kept (slice_cmp nat_cmp (data_octets v) (data_octets w)) _ (λ t. n (d ∙ t))

is_rdata_cmp : (v w : RData) (s : List Kind) (a b : Values s) (same : Bool) (o : Ordering) → fields_of v ≡ record { kinds = s; values = a }
    → fields_of w ≡ record { kinds = s; values = b } → (same ≡ true → equal v w ≡ true) → IsOrder s a b same o → o ≡ rdata_cmp v w
is_rdata_cmp v w s a b same Equal f g h k = sym (equal_is (rdata_cmp v w) (sym (rdata_ties v w) ∙ h (k.equal refl)))
is_rdata_cmp v w s a b same Less f g h k = let n : Less ≢ Equal = λ e. cc e in differs v w s a b Less f g n (k.first n) (k.second n) (k.octets n)
is_rdata_cmp v w s a b same Greater f g h k = let n : Greater ≢ Equal = λ e. cc e in differs v w s a b Greater f g n (k.first n) (k.second n) (k.octets n)

-- the order of two records is that of the values that hold them
pub in_values : (v w : RData) {s : List Kind} {a b : Values s} (same : Bool) (r : Option Ordering)
    → fields_of v ≡ record { kinds = s; values = a } → fields_of w ≡ record { kinds = s; values = b } → equal v w ≡ (same && true)
    → IfSomeOrder s a b same r → IfSome r (λ o. o ≡ rdata_cmp v w)
in_values v w same None f g h k = tt
in_values v w {s = s} {a = a} {b = b} same (Some o) f g h k = is_rdata_cmp v w s a b same o f g (λ t. h ∙ ap (λ (x : Bool). x && true) t) k
