-- The equality and the order of names, and what they feed a hasher.
use Rattle.std.specs.Prelude.{ℕ, Bool, List, ◌∷◌, ◌==◌}
use Rattle.std.specs.{Hash.bool, Bool.beq, Cmp.Lexicographic.slice_cmp, Cmp.Lexicographic.pointwise, declared.cmp.Ordering.Ordering}
use Rattle.std.specs.Ordering.{nat_cmp, bool_cmp, on, then_cmp, eq_of_both}
use Rattle.dns_fields.specs.Labels.{DomainName, lowname}

abbrev pub is_qualified : DomainName → Bool
is_qualified name = name.fully_qualified

-- by the first difference of the lowered octets, and then a relative name first
abbrev pub name_cmp : DomainName → DomainName → Ordering
name_cmp = then_cmp (on lowname (slice_cmp nat_cmp)) (on is_qualified bool_cmp)

-- the same lowered octets and the same mark
abbrev pub name_eq : DomainName → DomainName → Bool
name_eq = eq_of_both (on lowname (pointwise ◌==◌)) (on is_qualified beq)

-- the lowered octets at once, and then the mark
abbrev pub name_fed : DomainName → List (List ℕ)
name_fed name = lowname name ∷ bool name.fully_qualified
