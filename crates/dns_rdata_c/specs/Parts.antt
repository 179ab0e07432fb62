-- The parts of RDATA: the options of OPT (RFC 6891, 6.1.2) and the parameters of a service binding (RFC 9460, 2.2).
-- What they are of octets, and what they are of a value that fills the octets.
use Rattle.std.specs.Prelude.{◌≡◌, ℕ, zero, suc, ◌+◌, ◌≤◌, ◌⊎◌, ◌==◌, nat_lt, if◌then◌else◌, Bool, true, false, Option, Some, None}
use Rattle.std.specs.Prelude.{List, [], ◌∷◌, ◌++◌, length, take, drop}
use Rattle.dns_fields.specs.{Tlvs.Numbered, Tlvs.tlv, Tlvs.tlvs, Tlvs.IsTlv, Tlvs.AreTlvs, Tlvs.IsTruncated}
use Rattle.dns_fields.specs.Tlvs.{AllHeld, OptionHeld, ParameterHeld}
use Rattle.dns_types.specs.declared.record_type.RecordType.{RecordType}
use Rattle.dns_types.specs.declared.record_type.RecordType.TheVariants as types
use Rattle.dns_rdata.specs.{declared.record_data.RData.RData, ViewLists.options_in, ViewLists.parameters_in}
use Rattle.dns_rdata_c.specs.declared.parts.PartsCursor.{PartsCursor}

-- ---- of octets

-- data of the type has no parts
abbrev pub is_partless : RecordType → Bool
is_partless types.OPT = false
is_partless types.HTTPS = false
is_partless types.SVCB = false
is_partless t = true

-- what follows one octet
abbrev pub after_first : List ℕ → Option (List ℕ)
after_first [] = None
after_first (octet ∷ rest) = Some rest

-- The octets after a name. First n octets are passed over; then labels come, and an octet 0 or a compression pointer of
-- two octets ends the name (RFC 1035, 3.1 and 4.1.4). There are none if the octets end before the name does, or if an
-- octet from 64 to 191 stands where a label begins.
abbrev pub after_name : ℕ → List ℕ → Option (List ℕ)
after_name n [] = None
after_name (suc n) (octet ∷ rest) = after_name n rest
after_name zero (size ∷ rest) =
    if size == 0 then Some rest else
    if nat_lt size 64 then after_name size rest else
    if nat_lt size 192 then None else
    after_first rest

-- the octets after what precedes the parts: nothing, or a priority of two octets and the name of the target
abbrev pub after_front : RecordType → List ℕ → Option (List ℕ)
after_front types.OPT s = Some s
after_front types.HTTPS s = after_name 2 s
after_front types.SVCB s = after_name 2 s
after_front t s = None

-- the octets do not begin with what precedes the parts
abbrev pub HasNoFront : RecordType → List ℕ → Type 0
HasNoFront t s = after_front t s ≡ None

-- after what precedes the parts, the octets are these parts: each its number, its length and its octets
pub record AreParts (t : RecordType) (s : List ℕ) (parts : List (Numbered (List ℕ))) : Type 0 where
  pub is : after_front t s ≡ Some (tlvs parts)
  pub are : AreTlvs parts

-- Truncated options: such RDATA has none.
pub record AreCutOptions (t : RecordType) (s : List ℕ) : Type 0 where
  pub is_opt : t ≡ types.OPT
  pub parts : List (Numbered (List ℕ))
  pub stub : List ℕ
  pub is : s ≡ tlvs parts ++ stub
  pub are : AreTlvs parts
  pub cut : IsTruncated (length s) stub

-- the octets are no parts
pub record AreNoParts (t : RecordType) (s : List ℕ) : Type 0 where
  pub none : (parts : List (Numbered (List ℕ))) → AreParts t s parts → ⊥
  pub uncut : AreCutOptions t s → ⊥

-- the octets are i parts at most
pub record AreFewParts (t : RecordType) (s : List ℕ) (i : ℕ) : Type 0 where
  pub parts : List (Numbered (List ℕ))
  pub all : AreParts t s parts
  pub few : length parts ≤ i

-- ---- of octets that end with the RDATA, which begins at p

-- the RDATA is parts, and from this offset on the octets are those from number i on
pub record AreLeft (s : List ℕ) (p : ℕ) (t : RecordType) (i at : ℕ) : Type 0 where
  pub before : List (Numbered (List ℕ))
  pub rest : List (Numbered (List ℕ))
  pub all : AreParts t (drop p s) (before ++ rest)
  pub many : length before ≡ i
  pub here : drop at s ≡ tlvs rest

-- a part of this number begins at the offset `at`, and its octets begin at the offset `begin` and are so many
pub record IsPartAt (s : List ℕ) (at number begin count : ℕ) : Type 0 where
  pub octets : List ℕ
  pub fits : IsTlv (number, octets)
  pub is : drop at s ≡ tlv (number, octets) ++ drop (begin + count) s
  pub begins : begin ≡ at + 4
  pub told : count ≡ length octets

-- the RDATA is parts, and part number i has this number, and its octets begin at this offset and are so many
pub record IsPartOf (s : List ℕ) (p : ℕ) (t : RecordType) (i number begin count : ℕ) : Type 0 where
  pub from : ℕ
  pub left : AreLeft s p t i from
  pub here : IsPartAt s from number begin count

-- from one offset to another there are parts (no exported call says this: the walk to a cursor's end does)
pub record AreBetween (s : List ℕ) (begin end : ℕ) : Type 0 where
  pub read : List (Numbered (List ℕ))
  pub are : AreTlvs read
  pub is : drop begin s ≡ tlvs read ++ drop end s

-- ---- of octets in a message

-- the n octets from p are parts, and part number i is there
pub record HasPart (m : List ℕ) (p n : ℕ) (t : RecordType) (i number begin count : ℕ) : Type 0 where
  pub within : p + n ≤ length m
  pub part : IsPartOf (take (p + n) m) p t i number begin count

-- there is a first part
pub record HasFirstPart (m : List ℕ) (p n : ℕ) (t : RecordType) : Type 0 where
  pub number : ℕ
  pub begin : ℕ
  pub count : ℕ
  pub part : HasPart m p n t 0 number begin count

-- RDATA of the type has no parts, or the n octets from p are at most i parts, or they are truncated options.
abbrev pub LacksPart : List ℕ → ℕ → ℕ → RecordType → ℕ → Type 0
LacksPart m p n t i =
    (is_partless t ≡ true)
    ⊎ ((p + n ≤ length m) × (AreFewParts t (drop p (take (p + n) m)) i ⊎ AreCutOptions t (drop p (take (p + n) m))))

-- A cursor before part number i of the n octets from p, which are parts: at the offset where that part begins, or at
-- their end if there are i, and with the offset where the octets end.
pub record IsBefore (m : List ℕ) (p n : ℕ) (t : RecordType) (i : ℕ) (cursor : PartsCursor) : Type 0 where
  pub within : p + n ≤ length m
  pub left : AreLeft (take (p + n) m) p t i cursor.next
  pub inside : cursor.next ≤ cursor.end
  pub ends : cursor.end ≡ p + n

-- ---- of a value

-- how many options or parameters a value of the type has
abbrev pub parts_in : RecordType → RData → ℕ
parts_in types.OPT v = length (options_in v)
parts_in types.HTTPS v = length (parameters_in v)
parts_in types.SVCB v = length (parameters_in v)
parts_in t v = 0

-- each option or parameter of a value of the type is held by the part of its index
abbrev pub HoldValue : RecordType → RData → List (Numbered (List ℕ)) → Type 0
HoldValue types.OPT v parts = AllHeld OptionHeld parts (options_in v)
HoldValue types.HTTPS v parts = AllHeld ParameterHeld parts (parameters_in v)
HoldValue types.SVCB v parts = AllHeld ParameterHeld parts (parameters_in v)
HoldValue t v parts = ⊥

-- Part number i of the n octets from p has this number, and its octets begin at this offset of the message and are so
-- many; and the parts hold the options or parameters of the value, each that of its index.
pub record IsPartIn (m : List ℕ) (p n : ℕ) (t : RecordType) (v : RData) (i number begin count : ℕ) : Type 0 where
  pub part : HasPart m p n t i number begin count
  pub hold : HoldValue t v (part.part.left.before ++ part.part.left.rest)
