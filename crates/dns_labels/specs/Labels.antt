-- The octets of a domain name in one list: each label's length and its octets, without the 0 at the end
-- (RFC 1035, 3.1).
use Rattle.std.specs.Prelude.{◌≡◌, ℕ, zero, suc, ◌≤◌, Bool, List, [], ◌∷◌, length, take, drop}
use Rattle.dns_fields.specs.Labels.{DomainName, AreLabels, wire}

-- the labels that octets are, read from the left; at most so many of them
abbrev pub labels_in : ℕ → List ℕ → List (List ℕ)
labels_in zero octets = []
labels_in (suc more) [] = []
labels_in (suc more) (count ∷ octets) = take count octets ∷ labels_in more (drop count octets)

abbrev pub labels_of : List ℕ → List (List ℕ)
labels_of octets = labels_in (length octets) octets

-- the name of these octets
abbrev pub name_of : List ℕ → Bool → DomainName
name_of octets mark = record { labels = labels_of octets; fully_qualified = mark }

-- octets that are the labels of a name
pub record AreNameOctets (octets : List ℕ) : Type 0 where
  pub are : AreLabels (labels_of octets)
  pub same : octets ≡ wire (labels_of octets)
  pub room : length octets ≤ 254
