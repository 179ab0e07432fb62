use Rattle.std.proofs.Common.{◌∙◌, sym, ap}
use Rattle.std.specs.Ordering.{is_ne}
use Rattle.dns_canonical.specs.Fronts.{canonical_cmp}
use Rattle.dns_rdata_options.specs.{OPT.opt_shape, OPT.opt_fields, Steps.pairs_emittable, Order.opt_eq}
use Rattle.dns_rdata_options.proofs.order.opt_order.Goals.{then-is_ne-via-else-is_ne+else-same+then-eq, then-is_ne-via-then-is_ne}
use Rattle.dns_rdata_options.proofs.{TlvOrder.some_same, TlvOrder.by_tlvs, TlvOrder.same_equal, order.opt_order.Goals.then-is_ne-via-else-is_ne+then-same}
use Rattle.dns_rdata_options.proofs.order.opt_order.Goals as goal

pub returns-then-is_ne : goal.returns-then-is_ne
returns-then-is_ne c =
    let e = c.as_ref-options.ensures in
    let f = c.as_ref-others.ensures in
    record {
      order = c.cmp_in_order-order.ensures.order
          ∙ by_tlvs c.as_ref-options.result.now c.as_ref-others.result.now (ap pairs_emittable e ∙ c.requires.first) (ap pairs_emittable f ∙ c.requires.second)
          ∙ (λ k. canonical_cmp opt_shape (opt_fields (e k)) (opt_fields (f k)));
      equal = elim c.then-is_ne.branch [
        | then-is_ne-via-then-is_ne w ↦ λ h. cc (ap is_ne (some_same h), c.is_ne.ensures, w.if-is_ne.true)
        | then-is_ne-via-else-is_ne+then-same w ↦ λ _. (λ k. opt_eq (sym e k) (sym f k)) ∙ same_equal c.as_ref-options.result.now c.as_ref-others.result.now (c.cmp_in_order-order.ensures.same w.if-same.true)
        | then-is_ne-via-else-is_ne+else-same+then-eq w ↦ λ _. sym w.eq.ensures ∙ w.if-eq.true
      ];
    }
