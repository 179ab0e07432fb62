-- What the emission of a name writes.
use Rattle.std.specs.Prelude.{◌≡◌, ℕ, ◌<◌, ◌≤◌, List, [], length, take, drop, Option, Some, None}
use Rattle.dns_fields.specs.{Labels.AreLabels, Labels.wire, Names.LabelsStand}

-- these octets are the labels of the name at that offset
pub record StandsFor (message : List ℕ) (offset : ℕ) (octets : List ℕ) : Type 0 where
  pub labels : List (List ℕ)
  pub end : ℕ
  pub stands : LabelsStand message offset labels end
  pub same : octets ≡ wire labels

-- no labels are left, or they are at that offset already
abbrev pub LeadsTo : List ℕ → Option ℕ → List (List ℕ) → Type 0
LeadsTo message None rest = rest ≡ []
LeadsTo message (Some target) rest = (target < 16384) × (1 ≤ length rest)
    × ((end : ℕ) × LabelsStand message target rest end)

-- the octets are labels up to the cut, and labels from there on
pub record CutAt (octets : List ℕ) (cut : ℕ) : Type 0 where
  pub front : List (List ℕ)
  pub rest : List (List ℕ)
  pub are_front : AreLabels front
  pub are_rest : AreLabels rest
  pub front_is : take cut octets ≡ wire front
  pub rest_is : drop cut octets ≡ wire rest
  pub within : cut ≤ length octets

-- a name's octets in two parts, of which the second need not be written
pub record IsNameCut (message octets : List ℕ) (at : ℕ) (target : Option ℕ) : Type 0 where
  pub cut : CutAt octets at
  pub leads : LeadsTo message target cut.rest
