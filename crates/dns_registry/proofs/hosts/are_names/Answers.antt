use Rattle.std.proofs.Common.{arith, length, ◌-◌, take, drop, ◌++◌, ap, sym, ◌∙◌, List, ℕ}
use Rattle.dns_canonical.proofs.Sharing.{whole}
use Rattle.dns_fields.proofs.OctetLaws.{AreOctets-take, AreOctets-drop}
use Rattle.dns_registry.specs.FieldRules.{name_octets, IsPlainName}
use Rattle.dns_registry.proofs.Chains.{after_one, no_item}
use Rattle.dns_registry.proofs.HostSteps.{some_octets, one_name}
use Rattle.dns_registry.proofs.hosts.are_names.Goals as goal

pub returns-in-None : goal.returns-in-None
returns-in-None c = (
  λ e. absurd cc,
  λ h. absurd (no_item name_octets IsPlainName c.args.octets.now c.names.rest.now c.names.invariant (omega
      (arith, c.names-test.true)) c.in-None.ensures.none.none h),
)

pub names-preserved : goal.names-preserved
names-preserved c =
    let rest = c.names.rest.now in
    let n = c.in-Some.count in
    let first = c.in-Some.ensures.some in
    after_one name_octets IsPlainName some_octets one_name c.args.octets.now rest (take (length rest - n) (drop n rest)) first.labels
    c.names.invariant first.fits (first.spelled ∙ ap (λ (s : List ℕ). name_octets first.labels ++ s) (sym (whole n rest)))
    (AreOctets-take (length rest - n) (drop n rest) (AreOctets-drop n rest c.names.invariant.octets_are))
