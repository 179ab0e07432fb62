use Rattle.std.proofs.Common.{arith, ◌+◌, sym, ◌∙◌, subst}
use Rattle.dns_canonical.proofs.Sharing.{whole}
use Rattle.dns_registry.specs.FieldRules.{ArePlainNames}
use Rattle.dns_registry.proofs.HostSteps.{hit_of, key_of, is_identity, servers_are}
use Rattle.dns_registry.proofs.hosts.is_host_identity.Goals as goal

pub returns : goal.returns
returns c =
    let octets = c.args.octets.now in
    let same = whole (4 + (hit_of octets + key_of octets)) octets in (
      λ e. is_identity octets (λ i. omega (arith, c.type_inv.octets i)) (omega (arith, c.if-octets-lt4.false)) (omega (arith, c.if-hit-eq0.false))
          (omega (arith, c.if-key-eq0.false)) c.if-octets-hit.false (subst ArePlainNames same (c.are_names.ensures.0 e)),
      λ h. c.are_names.ensures.1 (subst ArePlainNames (sym (same ∙ servers_are octets h)) h.names),
    )
