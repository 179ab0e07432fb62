-- CAA: what ties is equal where the flags are the same.
use Rattle.std.proofs.Common.{◌≡◌, ◌≢◌, true, refl, ◌∙◌}
use Rattle.std.specs.{declared.cmp.Ordering.Ordering, declared.cmp.Ordering.TheVariants.Equal}
use Rattle.dns_fields.specs.{Equal.values_eq, Fields.all_emittable}
use Rattle.dns_fields.proofs.Equivalences.{values_equiv}
use Rattle.dns_canonical.specs.Fronts.{fields_cmp}
use Rattle.dns_canonical.proofs.Fronts.{fields_decide}
use Rattle.dns_rdata_base.specs.Ordered.{IsOrder}
use Rattle.dns_rdata_base.proofs.QuickOrders.{itself, orders, same_rest, same_text}
use Rattle.dns_rdata_policy.specs.{CAA.caa_shape, CAA.caa_fields, CAA.caa_key_shape, CAA.caa_keys, declared.caa.CAA.CAA}

pub caa_orders : (x y : CAA) (o : Ordering) → (o ≢ Equal → all_emittable caa_shape (caa_fields x) ≡ true)
    → (o ≢ Equal → all_emittable caa_shape (caa_fields y) ≡ true)
    → o ≡ fields_cmp Equal caa_shape (caa_fields x) (caa_fields y)
    → (o ≡ Equal → (x.issuer_critical ≡ y.issuer_critical) × (x.reserved_flags ≡ y.reserved_flags))
    → IsOrder caa_shape (caa_fields x) (caa_fields y) (values_eq caa_key_shape (caa_keys x) (caa_keys y)) o
caa_orders x y o f g e h =
    orders caa_shape (caa_fields x) (caa_fields y) _ o f g (tt, (tt, (tt, tt))) (e ∙ fields_decide caa_shape (caa_fields x) (caa_fields y) (tt, (tt, (tt, tt))))
    (λ z tied. let flags = h z in itself (caa_keys x) (caa_keys y) (values_equiv caa_key_shape)
    (rw (flags.0, flags.1, same_text x.tag y.tag tied.1.0, same_rest x.value y.value tied.1.1.0) refl))
