-- Where a name in a message ends (RFC 1035, 3.1 and 4.1.4).
use Rattle.std.specs.Prelude.{◌≡◌, ℕ, ◌+◌, ◌≤◌, List, length, Option}
use Rattle.std.specs.{Cmp.Lexicographic.slice_cmp, Ordering.nat_cmp, declared.cmp.Ordering.Ordering}
use Rattle.dns_fields.specs.{Labels.DomainName, Labels.wire, Labels.lowname, Names.IsNameIn}
use Rattle.dns_labels.specs.Reading.{IsRun, IsNameAt}

-- labels and what ends them are there; the name has `after` octets with them, and `before` without
pub record SkipsRun (message : List ℕ) (offset : ℕ) (stop : Option ℕ) (end before after : ℕ) : Type 0 where
  pub front : List (List ℕ)
  pub run : IsRun message offset front stop end
  pub counted : after ≡ before + length (wire front)
  pub room : after ≤ 254

-- a name is encoded from the offset to the end
pub record NameEnds (message : List ℕ) (offset end : ℕ) : Type 0 where
  pub name : DomainName
  pub is : IsNameIn message offset name end

-- a name is encoded at the offset, and these are its octets without the 0 at its end
pub record IsPlainName (message : List ℕ) (offset : ℕ) (octets : List ℕ) : Type 0 where
  pub end : ℕ
  pub is : IsNameAt message offset octets end

-- a name is encoded at the offset
pub record IsNamed (message : List ℕ) (offset : ℕ) : Type 0 where
  pub name : DomainName
  pub end : ℕ
  pub is : IsNameIn message offset name end

-- this is the order of the names at two offsets by their canonical octets, and their encodings end there
pub record OrdersNames (a : List ℕ) (x : ℕ) (b : List ℕ) (y : ℕ) (o : Ordering) (p q : ℕ) : Type 0 where
  pub is : (u : DomainName) (i : ℕ) (v : DomainName) (j : ℕ) → IsNameIn a x u i → IsNameIn b y v j
      → (o ≡ slice_cmp nat_cmp (lowname u) (lowname v)) × (p ≡ i) × (q ≡ j)
