use Rattle.std.proofs.Common.{◌∙◌, ap, sym, List, ℕ, length}
use Rattle.dns_fields.specs.Labels.{DomainName}
use Rattle.dns_names_wire.proofs.Building.{vector_low}
use Rattle.dns_names_wire.proofs.name.Name.to_lowercase.Goals as goal

pub from_octets-requires : goal.from_octets-requires
from_octets-requires c = rw c.from_vec.ensures
    (vector_low c.self.inside.octets c.in_ok-octets.octets.items c.make_ascii_lowercase.new.self c.in_ok-octets.octets.len c.self.invariant.0
    (c.in_ok-octets.ensures.items ∙ c.as_slice.ensures.value)
    (sym c.as_mut_slice.ensures.len ∙ ap length c.as_mut_slice.ensures.value) (rw (← c.as_mut_slice.ensures.value) c.make_ascii_lowercase.ensures.after)).octets

pub returns : goal.returns
returns c =
    let low = vector_low c.self.inside.octets c.in_ok-octets.octets.items c.make_ascii_lowercase.new.self c.in_ok-octets.octets.len c.self.invariant.0
    (c.in_ok-octets.ensures.items ∙ c.as_slice.ensures.value)
    (sym c.as_mut_slice.ensures.len ∙ ap length c.as_mut_slice.ensures.value) (rw (← c.as_mut_slice.ensures.value) c.make_ascii_lowercase.ensures.after) in
    rw (← c.self.view_is) (c.from_octets.ensures
    ∙ rw (c.from_vec.ensures, c.get.ensures)
    (ap (λ (labels : List (List ℕ)). let name : DomainName = record { labels = labels; fully_qualified = c.self.inside.is_fqdn } in name) low.labels_are))
