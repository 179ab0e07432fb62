-- The numbers at the front of a row.
use Rattle.std.specs.Prelude.{◌≡◌, ◌-◌, ◌==◌, ◌&&◌, nat_le, ℕ, zero, suc, Bool, true, false, List, [], ◌∷◌}
use Rattle.dns_fields.specs.declared.Kind.{Kind, TheVariants.Number}
use Rattle.dns_rows.specs.declared.row.{Front.Front, Part.Part, Row.Row, Row.TheVariants.Fields, Rule.Rule}
use Rattle.dns_rows.specs.declared.row.Rule.TheVariants as rules

-- a number that nothing more is asked of
abbrev pub is_plain : Kind → Rule → Bool
is_plain (Number w) rules.KnownFlags = false
is_plain (Number w) rule = true
is_plain k rule = false

abbrev pub width_of : Kind → ℕ
width_of (Number w) = w
width_of k = 0

-- the row begins with so many plain numbers, of so many octets together
abbrev pub is_front : ℕ → ℕ → List Part → Bool
is_front zero octets row = octets == 0
is_front (suc n) octets [] = false
is_front (suc n) octets (p ∷ row) =
    is_plain p.kind p.rule && (nat_le (width_of p.kind) octets && is_front n (octets - width_of p.kind) row)

abbrev pub IsFront : List Part → Front → Type 0
IsFront row front = is_front front.count front.octets row ≡ true

abbrev pub HasFront : Row → Type 0
HasFront (Fields row front) = IsFront row.now front
HasFront row = Unit {0}
