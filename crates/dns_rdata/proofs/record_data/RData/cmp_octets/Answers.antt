use Rattle.std.proofs.Common.{◌≡◌, true, refl, sym, ◌∙◌}
use Rattle.std.specs.{declared.cmp.Ordering.Ordering, Ordering.is_eq}
use Rattle.std.specs.declared.cmp.Ordering.TheVariants.{Less, Equal, Greater}
use Rattle.dns_rdata.specs.Ties.{rdata_ties}
use Rattle.dns_rdata.proofs.record_data.RData.cmp_octets.Goals as goal

is_equal : (r : Ordering) → is_eq r ≡ true → Equal ≡ r
is_equal Less h = cc h
is_equal Equal h = refl
is_equal Greater h = cc h

pub returns-then-eq : goal.returns-then-eq
returns-then-eq c = is_equal _ (sym (rdata_ties c.args.self.now c.args.other.now) ∙ sym c.eq.ensures ∙ c.if-eq.true)
