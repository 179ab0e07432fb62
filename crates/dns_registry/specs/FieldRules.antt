-- What an RFC asks of a field beyond its kind, as the field is encoded.
use Rattle.std.specs.Prelude.{◌≡◌, ◌≢◌, ℕ, ◌+◌, ◌*◌, ◌/◌, ◌%◌, ◌<◌, ◌≤◌, ◌⊎◌, get_or, true, List, [], ◌∷◌, ◌++◌, length, map}
use Rattle.std.specs.{Char.is_ascii_digit, List.list_all, List.flat_map, List.AllByRecursion}
use Rattle.dns_fields.specs.declared.Kind.{Kind}
use Rattle.dns_fields.specs.declared.Kind.TheVariants.{Number, Name, CharacterString, CharacterStrings, Rest, Bitmap}
use Rattle.dns_fields.specs.{Octets.At, Labels.wire, Labels.AreLabels, Labels.FitsName, Fields.Value, Bitmaps.Block, Bitmaps.block, Bitmaps.IsBlock, Bitmaps.Rises}
use Rattle.dns_rows.specs.Rules.{AreLetters}
use Rattle.dns_check.specs.Tlvs.{AreComplete}
use Rattle.dns_registry.specs.declared.rule.FieldRule.{FieldRule}
use Rattle.dns_registry.specs.declared.rule.FieldRule.TheVariants as rules

-- the last octet of a list is not 0
abbrev pub EndsInBit : List ℕ → Type 0
EndsInBit [] = ⊥
EndsInBit (x ∷ []) = x ≢ 0
EndsInBit (x ∷ (y ∷ octets)) = EndsInBit (y ∷ octets)

-- windows whose numbers rise, of which none ends with a zero octet
pub record AreShortest (windows : List Block) : Type 0 where
  pub fit : AllByRecursion IsBlock windows
  pub rise : Rises (map (λ w. w.0) windows)
  pub trimmed : AllByRecursion (λ w. EndsInBit w.1) windows

-- the octets are a bitmap in its shortest form (RFC 4034, 4.1.2)
pub record IsShortestBitmap (octets : List ℕ) : Type 0 where
  pub windows : List Block
  pub spelled : octets ≡ flat_map block windows
  pub shortest : AreShortest windows

-- one bit for each of the types 1 to 127, the first bit clear, without zero octets at the end (RFC 2535, 5.2)
pub record AreOldTypes (octets : List ℕ) : Type 0 where
  pub some : 1 ≤ length octets
  pub most : length octets ≤ 16
  pub first : get_or octets 0 0 < 128
  pub ends : EndsInBit octets

-- the octets are those of items, one after the other
pub record AreAll {X : Type 0} (item : X → List ℕ) (Fits : X → Type 0) (octets : List ℕ) : Type 0 where
  pub items : List X
  pub spelled : octets ≡ flat_map item items
  pub fit : AllByRecursion Fits items

-- an item of APL (RFC 3123, 4): a family, a prefix, whether it is negated (0 or 1), and octets of an address
pub record AddressPrefix : Type 0 where
  pub family : ℕ
  pub prefix : ℕ
  pub negated : ℕ
  pub part : List ℕ

-- the family in two octets, the prefix, one bit and the number of octets, the octets
abbrev pub prefix_octets : AddressPrefix → List ℕ
prefix_octets x = (x.family / 256) ∷ (x.family % 256) ∷ x.prefix ∷ (128 * x.negated + length x.part) ∷ x.part

-- a prefix of so many bits at most, and so many octets at most, of which the last one is not zero (RFC 3123, 4.1 and 4.2)
pub record IsWithinFamily (bits size prefix : ℕ) (part : List ℕ) : Type 0 where
  pub few_bits : prefix ≤ bits
  pub few_octets : length part ≤ size
  pub trimmed : 1 ≤ length part → EndsInBit part

-- the limits of family 1, IPv4, and of family 2, IPv6; other families have none
pub record IsOfFamily (family prefix : ℕ) (part : List ℕ) : Type 0 where
  pub ipv4 : family ≡ 1 → IsWithinFamily 32 4 prefix part
  pub ipv6 : family ≡ 2 → IsWithinFamily 128 16 prefix part

pub record IsAddressPrefix (x : AddressPrefix) : Type 0 where
  pub family : x.family < 65536
  pub prefix : x.prefix < 256
  pub negated : x.negated ≤ 1
  pub short : length x.part < 128
  pub limits : IsOfFamily x.family x.prefix x.part

-- address prefixes, one after the other (RFC 3123, 4)
abbrev pub ArePrefixes : List ℕ → Type 0
ArePrefixes octets = AreAll prefix_octets IsAddressPrefix octets

-- an uncompressed name: its labels, and an octet 0 (RFC 1035, 3.1)
abbrev pub name_octets : List (List ℕ) → List ℕ
name_octets labels = wire labels ++ 0 ∷ []

pub record IsPlainName (labels : List (List ℕ)) : Type 0 where
  pub are : AreLabels labels
  pub fits : FitsName labels

-- uncompressed names, one after the other
abbrev pub ArePlainNames : List ℕ → Type 0
ArePlainNames octets = AreAll name_octets IsPlainName octets

-- The RDATA of HIP (RFC 8005, 5): the length of the HIT, the algorithm of the key, the length of the key in two octets, the HIT, the
-- key, and the names of rendezvous servers.
pub record IsHostIdentity (octets : List ℕ) : Type 0 where
  pub algorithm : ℕ
  pub hit : List ℕ
  pub key : List ℕ
  pub servers : List ℕ
  pub spelled : octets ≡ length hit ∷ algorithm ∷ (length key / 256) ∷ (length key % 256) ∷ (hit ++ (key ++ servers))
  pub some_hit : 1 ≤ length hit
  pub some_key : 1 ≤ length key
  pub names : ArePlainNames servers

-- so many octets after their number in two octets
abbrev pub long_octets : List ℕ → List ℕ
long_octets s = (length s / 256) ∷ (length s % 256) ∷ s

-- such octets from p to q
pub record IsLong (octets : List ℕ) (p q : ℕ) : Type 0 where
  pub body : List ℕ
  pub short : length body < 65536
  pub at : At octets p (long_octets body) q

-- the end of TKEY (RFC 2930, 2): a key and other data, each after its length
pub record IsKeyAndOther (octets : List ℕ) : Type 0 where
  pub middle : ℕ
  pub key : IsLong octets 0 middle
  pub other : IsLong octets middle (length octets)

-- the end of TSIG (RFC 8945, 4.2): a MAC after its length, an id and an error of two octets each, and other data after its length
pub record IsMacAndOther (octets : List ℕ) : Type 0 where
  pub middle : ℕ
  pub mac : IsLong octets 0 middle
  pub other : IsLong octets (middle + 4) (length octets)

-- decimal digits of ASCII
abbrev pub AreDigits : List ℕ → Type 0
AreDigits octets = list_all is_ascii_digit octets ≡ true

-- a digit and a power of ten, each at most 9; a digit 0 has the power 0 (RFC 1876, 2)
pub record IsPrecision (n : ℕ) : Type 0 where
  pub digit : n / 16 ≤ 9
  pub power : n % 16 ≤ 9
  pub some : (1 ≤ n / 16) ⊎ (n % 16 ≡ 0)

-- The field, whose value is v, is encoded in the message m from p to q as its rule asks.
abbrev pub Passes : FieldRule → List ℕ → ℕ → (k : Kind) → Value k → ℕ → Type 0
Passes rules.Uncompressed m p Name x q = q ≡ p + length (wire x.labels) + 1
Passes rules.ShortestBitmap m p Bitmap v q = (octets : List ℕ) × At m p octets q × IsShortestBitmap octets
Passes rules.SomeTypes m p Bitmap v q = (octets : List ℕ) × At m p octets q × (1 ≤ length octets) × IsShortestBitmap octets
Passes rules.OldTypes m p Rest s q = AreOldTypes s
Passes rules.Options m p Rest s q = AreComplete s
Passes rules.Prefixes m p Rest s q = ArePrefixes s
Passes rules.KeyAndOther m p Rest s q = IsKeyAndOther s
Passes rules.MacAndOther m p Rest s q = IsMacAndOther s
Passes rules.HostIdentity m p Rest s q = IsHostIdentity s
Passes (rules.AtLeast n) m p CharacterString s q = n ≤ length s
Passes (rules.AtLeast n) m p Rest s q = n ≤ length s
Passes (rules.Within low high) m p (Number w) n q = (low ≤ n) × (n ≤ high)
Passes rules.Precision m p (Number w) n q = IsPrecision n
Passes (rules.Count low high) m p CharacterStrings ss q = (low ≤ length ss) × (length ss ≤ high)
Passes rules.Letters m p CharacterString s q = (1 ≤ length s) × AreLetters s
Passes rules.Digits m p CharacterString s q = (4 ≤ length s) × AreDigits s
Passes rule m p k v q = Unit {0}
