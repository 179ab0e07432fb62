use Rattle.std.proofs.Common.{ℕ, length, subst}
use Rattle.dns_registry.specs.FieldRules.{IsLong}
use Rattle.dns_registry.proofs.LongSteps.{long_one}
use Rattle.dns_registry.proofs.keys.is_key_and_other.Goals as goal

pub returns-in_default : goal.returns-in_default
returns-in_default c = (λ e. absurd cc, λ h. absurd (c.in_default.ensures.none h.middle h.key))

pub returns-in_default-long_end : goal.returns-in_default-long_end
returns-in_default-long_end c =
    let octets = c.args.octets.now in (
      λ e. absurd cc,
      λ h. absurd (c.in_default-long_end.ensures.none (length octets) (subst (λ (m : ℕ). IsLong octets m (length octets)) (long_one octets 0 h.middle
          c.in-Some.middle h.key c.in-Some.ensures.some) h.other)),
    )
