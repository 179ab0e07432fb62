use Rattle.std.proofs.Common.{◌∙◌, sym, subst, arith, ap, ℕ, List, ◌≡◌}
use Rattle.dns_labels.specs.Labels.{AreNameOctets, name_of}
use Rattle.dns_names_wire.proofs.Zones.{zone_more, zone_found}
use Rattle.dns_names_wire.proofs.name.Name.zone_of.Goals as goal

pub labels-preserved : goal.labels-preserved
labels-preserved c =
    let zone : AreNameOctets c.as_slice-zone.result.now = subst AreNameOctets (sym c.as_slice-zone.ensures.value) c.self.invariant.0 in
    zone_more c.args.name.now.labels c.as_slice-zone.result.now c.labels.rest.now c.without_first-rest.result.now zone c.labels.invariant (omega arith)
    c.without_first-rest.ensures.octets c.without_first-rest.ensures.labels

pub returns : goal.returns
returns c =
    let zone : AreNameOctets c.as_slice-zone.result.now = subst AreNameOctets (sym c.as_slice-zone.ensures.value) c.self.invariant.0 in
    let same : name_of c.as_slice-zone.result.now c.self.inside.is_fqdn ≡ c.args.self.now =
    ap (λ (x : List ℕ). name_of x c.self.inside.is_fqdn) c.as_slice-zone.ensures.value ∙ c.self.view_is in
    rw (← same) (zone_found c.args.name.now c.as_slice-zone.result.now c.labels.rest.now c.self.inside.is_fqdn c.equal_lowered.result zone
    c.labels.invariant (omega arith) c.equal_lowered.ensures)
