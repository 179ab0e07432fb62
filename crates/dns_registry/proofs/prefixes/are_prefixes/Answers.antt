use Rattle.std.proofs.Common.{arith, length, ◌-◌, take, drop, ◌++◌, ap, sym, ◌∙◌, List, ℕ}
use Rattle.dns_canonical.proofs.Sharing.{whole}
use Rattle.dns_fields.proofs.OctetLaws.{AreOctets-take, AreOctets-drop}
use Rattle.dns_registry.specs.FieldRules.{prefix_octets, IsAddressPrefix}
use Rattle.dns_registry.proofs.Chains.{after_one, no_item}
use Rattle.dns_registry.proofs.PrefixSteps.{some_octets, one_prefix}
use Rattle.dns_registry.proofs.prefixes.are_prefixes.Goals as goal

pub returns-in-None : goal.returns-in-None
returns-in-None c = (
  λ e. absurd cc,
  λ h. absurd (no_item prefix_octets IsAddressPrefix c.args.octets.now c.prefixes.rest.now c.prefixes.invariant (omega
      (arith, c.prefixes-test.true)) c.in-None.ensures.none.none h),
)

pub prefixes-preserved : goal.prefixes-preserved
prefixes-preserved c =
    let rest = c.prefixes.rest.now in
    let n = c.in-Some.count in
    let first = c.in-Some.ensures.some in
    after_one prefix_octets IsAddressPrefix some_octets one_prefix c.args.octets.now rest (take (length rest - n) (drop n rest)) first.first
    c.prefixes.invariant first.fits (first.spelled ∙ ap (λ (s : List ℕ). prefix_octets first.first ++ s) (sym (whole n rest)))
    (AreOctets-take (length rest - n) (drop n rest) (AreOctets-drop n rest c.prefixes.invariant.octets_are))
