use Rattle.std.proofs.Common.{◌∙◌}
use Rattle.dns_rdata_policy.proofs.Rising.{found}
use Rattle.dns_rdata_policy.proofs.record_type_set.RecordTypeSet.contains.Goals as goal

pub returns : goal.returns
returns c =
    let p = rw (c.deref.ensures.value, c.from.ensures) at c.binary_search.ensures.position in
    rw (← c.self.view_is) (c.is_ok.ensures.value ∙ found _ _ _ c.self.invariant.rises p)
