use Rattle.std.proofs.Common.{sym, ◌∙◌, arith}
use Rattle.dns_canonical.proofs.Comparing.{cmp_shared, common_shared, order_told, goes_on, one_taken}
use Rattle.dns_canonical.proofs.Cursors.{chooses_both, chooses_kept, advances_one, advances_by, advances_both}
use Rattle.dns_canonical.proofs.cursor.Cursor.compare.Goals as goal

pub returns-in-Some-clause-order : goal.returns-in-Some-clause-order
returns-in-Some-clause-order g c = order_told c.next.result c.next-in-octets.result _ _ _ _ c.in-Some.order c.next.ensures.octets c.next-in-octets.ensures.octets c.in-Some.ensures ∙ c.octets.invariant.order

pub returns-in-Some-clause-self_taken : goal.returns-in-Some-clause-self_taken
returns-in-Some-clause-self_taken g c = omega (arith, c.octets.invariant.self_taken, c.next.ensures.few)

pub returns-in-Some-clause-other_taken : goal.returns-in-Some-clause-other_taken
returns-in-Some-clause-other_taken g c = omega (arith, c.octets.invariant.other_taken, c.next-in-octets.ensures.few)

pub returns-in-Some-clause-self_rest : goal.returns-in-Some-clause-self_rest
returns-in-Some-clause-self_rest g c = advances_both c.octets.invariant.self_rest (advances_one _ _ c.next.result c.next.ensures.octets c.next.ensures.taken)

pub returns-in-Some-clause-other_rest : goal.returns-in-Some-clause-other_rest
returns-in-Some-clause-other_rest g c =
    advances_both c.octets.invariant.other_rest (advances_one _ _ c.next-in-octets.result c.next-in-octets.ensures.octets c.next-in-octets.ensures.taken)

pub octets-preserved : goal.octets-preserved
octets-preserved g c =
    let shares = c.skip_common.ensures.shares in
    let k = common_shared shares in
    let g = goes_on c.next.result c.next-in-octets.result _ _ _ _ c.next.ensures.octets c.next-in-octets.ensures.octets c.in-None.ensures in
    let t = one_taken c.next.result _ _ g.first c.next.ensures.taken in
    let u = one_taken c.next-in-octets.result _ _ g.second c.next-in-octets.ensures.taken in
    record {
      order = sym (cmp_shared shares) ∙ g.order ∙ c.octets.invariant.order;
      self_taken = omega (arith, k, g.common, t, c.octets.invariant.self_taken, c.skip_common.ensures.taken);
      other_taken = omega (arith, k, g.common, u, c.octets.invariant.other_taken, c.skip_common.ensures.other_taken);
      self_rest = advances_both (advances_both c.octets.invariant.self_rest (advances_one _ c.next.new.self c.next.result c.next.ensures.octets c.next.ensures.taken))
          (advances_by _ _ shares.shared c.skip_common.ensures.n shares.count shares.left c.skip_common.ensures.taken);
      other_rest = advances_both (advances_both c.octets.invariant.other_rest (advances_one _ c.next-in-octets.new.self c.next-in-octets.result c.next-in-octets.ensures.octets c.next-in-octets.ensures.taken))
          (advances_by _ _ shares.shared c.skip_common.ensures.n shares.count shares.right c.skip_common.ensures.other_taken);
      self_choices = chooses_kept (chooses_both c.octets.invariant.self_choices c.next.ensures.choices) c.skip_common.ensures.choices c.skip_common.ensures.options c.skip_common.ensures.all;
      other_choices = chooses_kept (chooses_both c.octets.invariant.other_choices c.next-in-octets.ensures.choices) c.skip_common.ensures.other_choices c.skip_common.ensures.other_options c.skip_common.ensures.other_all;
      self_passes = omega (arith, c.octets.invariant.self_passes, c.skip_common.ensures.passes, c.skip_common.ensures.windows, c.next.ensures.passes);
      other_passes = omega (arith, c.octets.invariant.other_passes, c.skip_common.ensures.other_passes, c.skip_common.ensures.other_windows, c.next-in-octets.ensures.passes);
    }
