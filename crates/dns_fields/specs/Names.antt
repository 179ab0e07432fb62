-- Where domain names are in a message, and what writing one may leave (RFC 1035, section 4.1.4).
use Rattle.std.specs.Prelude.{◌≡◌, ◌≢◌, ℕ, ◌+◌, ◌/◌, ◌%◌, ◌<◌, ◌≤◌, List, [], ◌∷◌, ◌++◌, length, take, drop, true}
use Rattle.dns_fields.specs.{declared.RDataEncoding.RDataEncoding, declared.RDataEncoding.TheVariants.StandardRecord}
use Rattle.dns_fields.specs.Labels.{DomainName, full_name, AreLabels, wire, FitsName, IsName, lowname}

-- a compression pointer: two octets with the two highest bits set, whose other 14 bits are an offset
abbrev pub pointer : ℕ → List ℕ
pointer offset = (192 + offset / 256) ∷ (offset % 256) ∷ []

-- In the message these labels are at an offset, and their encoding ends before end.
pub data LabelsStand : List ℕ → ℕ → List (List ℕ) → ℕ → Type 0 where
  -- labels and an octet 0
  whole : {message : List ℕ} {offset end : ℕ} {labels : List (List ℕ)} (behind : List ℕ)
      → AreLabels labels
      → drop offset message ≡ wire labels ++ 0 ∷ behind
      → end ≡ offset + length (wire labels) + 1
      → LabelsStand message offset labels end
  -- labels and a compression pointer to an earlier offset, where the rest is, in the octets before this offset
  pointed : {message : List ℕ} {offset end : ℕ} {labels : List (List ℕ)} (front rest : List (List ℕ))
      (target rest_end : ℕ) (behind : List ℕ)
      → AreLabels front
      → drop offset message ≡ wire front ++ (pointer target ++ behind)
      → target < 16384
      → target < offset
      → LabelsStand (take offset message) target rest rest_end
      → labels ≡ front ++ rest
      → end ≡ offset + length (wire front) + 2
      → LabelsStand message offset labels end

-- The name is in the message at an offset, and its encoding ends before end.
pub record IsNameIn (message : List ℕ) (offset : ℕ) (name : DomainName) (end : ℕ) : Type 0 where
  pub stands : LabelsStand message offset name.labels end
  pub fits : FitsName name.labels
  pub qualified : name.fully_qualified ≡ true

-- equal but for ASCII case and the mark
pub record SameName (x y : DomainName) : Type 0 where
  pub low : lowname x ≡ lowname y

-- A name that was appended to the message: its octets, no more than the uncompressed ones, encode that very name, fully
-- qualified and with case preserved, whatever is before them. Only `StandardRecord` may write it compressed.
pub record NameWrote (mode : RDataEncoding) (message : List ℕ) (x : DomainName) (octets : List ℕ) : Type 0 where
  pub is_name : IsName x
  pub tail : List ℕ
  pub behind : octets ≡ message ++ tail
  pub shorter : length tail ≤ length (lowname x)
  pub stands : IsNameIn octets (length message) (full_name x) (length octets)
  pub whole : mode ≢ StandardRecord → octets ≡ message ++ (wire x.labels ++ 0 ∷ [])
