-- Domain names and their labels (RFC 1035, 3.1).
use Rattle.std.specs.Prelude.{ℕ, ◌+◌, ◌≤◌, List, [], ◌∷◌, ◌++◌, length, map, Bool, true}
use Rattle.std.specs.Char.{to_ascii_lowercase}

-- a domain name: its labels, and whether it is fully qualified
pub record DomainName : Type 0 where
  pub labels : List (List ℕ)
  pub fully_qualified : Bool

-- the name with the mark of a fully qualified one
abbrev pub full_name : DomainName → DomainName
full_name name = record { labels = name.labels; fully_qualified = true }

-- a label has 1 to 63 octets
abbrev pub IsLabel : List ℕ → Type 0
IsLabel label = (1 ≤ length label) × (length label ≤ 63)

abbrev pub AreLabels : List (List ℕ) → Type 0
AreLabels [] = Unit {0}
AreLabels (label ∷ labels) = IsLabel label × AreLabels labels

-- each label is its length and then its octets
abbrev pub wire : List (List ℕ) → List ℕ
wire [] = []
wire (label ∷ labels) = length label ∷ (label ++ wire labels)

-- the labels with their length octets, and one octet more, are at most 255 octets (RFC 1035, 3.1)
abbrev pub FitsName : List (List ℕ) → Type 0
FitsName labels = length (wire labels) + 1 ≤ 255

-- labels of 1 to 63 octets, not too many for a name
pub record IsName (name : DomainName) : Type 0 where
  pub labels : AreLabels name.labels
  pub fits : FitsName name.labels

-- A to Z lowered in each label
abbrev pub low_labels : List (List ℕ) → List (List ℕ)
low_labels labels = map (map to_ascii_lowercase) labels

-- each label's length and its octets with A to Z lowered, then 0
abbrev pub lowered : List (List ℕ) → List ℕ
lowered [] = 0 ∷ []
lowered (label ∷ labels) = length label ∷ (map to_ascii_lowercase label ++ lowered labels)

-- a name's canonical octets: uncompressed and in lower case (RFC 4034, 6.2)
abbrev pub lowname : DomainName → List ℕ
lowname name = lowered name.labels
