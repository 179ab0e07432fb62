use Rattle.std.proofs.Common.{sym, ◌∙◌}
use Rattle.dns_view.proofs.OptionOwn.{by_heads, by_bodies}
use Rattle.dns_view.proofs.options.parts.compare_whole.Goals as goal

pub returns-in-Equal : goal.returns-in-Equal
returns-in-Equal c = by_bodies _ _ _ _ _ _ c.parts_of.ensures.octets c.parts_of-2.ensures.octets (c.parts_of.ensures.head ∙ sym c.parts_of-2.ensures.head) c.in-Equal.ensures
    c.octets_cmp-in-Equal.ensures

pub returns-in_default : goal.returns-in_default
returns-in_default c = by_heads _ _ _ _ _ _ c.parts_of.ensures.octets c.parts_of-2.ensures.octets (c.parts_of.ensures.head ∙ sym c.parts_of-2.ensures.head)
    c.octets_cmp.ensures c.in_default.not-Equal
