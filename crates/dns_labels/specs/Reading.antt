-- Runs of labels, of which a name in a message is made (RFC 1035, 4.1.4).
use Rattle.std.specs.Prelude.{◌≡◌, ℕ, ◌+◌, ◌<◌, List, [], ◌∷◌, ◌++◌, length, drop, Option, Some, None, IfSome}
use Rattle.dns_fields.specs.{Labels.AreLabels, Labels.wire, Labels.FitsName, Names.LabelsStand, Names.pointer}

-- what ends a run of labels: an octet 0, or a pointer
abbrev pub stop_octets : Option ℕ → List ℕ
stop_octets None = 0 ∷ []
stop_octets (Some target) = pointer target

-- at this offset are labels and then what ends them, before end
pub record IsRun (message : List ℕ) (offset : ℕ) (front : List (List ℕ)) (stop : Option ℕ) (end : ℕ) : Type 0 where
  pub are : AreLabels front
  pub behind : List ℕ
  pub stands : drop offset message ≡ wire front ++ (stop_octets stop ++ behind)
  pub target : IfSome stop (λ q. q < 16384)
  pub ends : end ≡ offset + length (wire front) + length (stop_octets stop)

-- a run is there, and its labels are appended to the octets
pub record AddsRun (message : List ℕ) (offset : ℕ) (stop : Option ℕ) (end : ℕ) (old new : List ℕ) : Type 0 where
  pub front : List (List ℕ)
  pub run : IsRun message offset front stop end
  pub octets : new ≡ old ++ wire front

-- a name is there, and these are its octets without the last
pub record IsNameAt (message : List ℕ) (offset : ℕ) (octets : List ℕ) (end : ℕ) : Type 0 where
  pub labels : List (List ℕ)
  pub stands : LabelsStand message offset labels end
  pub fits : FitsName labels
  pub same : octets ≡ wire labels
