-- The grammar of RDATA: each type is a list of kinds of fields.
use Rattle.dns_fields.specs.declared.Kind.{Kind}
use Rattle.dns_fields.specs.declared.Kind.TheVariants.{Number, Octets, Name, CharacterString, CharacterStrings, Rest}
use Rattle.dns_fields.specs.declared.Kind.TheVariants.{Options, Parameters, Bitmap}
use Rattle.std.specs.Prelude.{◌≡◌, Bool, true, nat_le, ◌&&◌, ℕ, ◌<◌, ◌^◌, List, [], ◌∷◌, ◌++◌, length, ◌-◌, ◌⊎◌, map}
use Rattle.std.specs.{Int.bytes_high_first, List.Sorted.IsPermutation, Ordering.nat_cmp, Cmp.Lexicographic.slice_cmp}
use Rattle.std.specs.List.{flat_map, list_all, AllByRecursion}
use Rattle.dns_fields.specs.{Octets.At, Sorting.sorted, declared.RDataEncoding.RDataEncoding, Labels.DomainName, Labels.IsName, Labels.lowname}
use Rattle.dns_fields.specs.{Names.IsNameIn, Names.NameWrote, Names.SameName, Bitmaps.block, Bitmaps.IsTypeSet, Bitmaps.BitmapAt, Bitmaps.minimal}
use Rattle.dns_fields.specs.Tlvs.{string, Numbered, tlv, tlvs, AreTlvs, AllHeld, as_tlv, HoldThemselves, OptionValue, option_octets}
use Rattle.dns_fields.specs.Tlvs.{OptionHeld, OptionFits, options_emittable, IsTruncated, ParameterValue, parameter_octets, ParameterHeld, ParameterFits}
use Rattle.dns_fields.specs.Tlvs.{Rising, parameters_emittable}

-- what a field of this kind holds
abbrev pub Value : Kind → Type 0
Value (Number w) = ℕ
Value (Octets n) = List ℕ
Value Name = DomainName
Value CharacterString = List ℕ
Value CharacterStrings = List (List ℕ)
Value Rest = List ℕ
Value Options = List (Numbered OptionValue)
Value Parameters = List (Numbered ParameterValue)
Value Bitmap = List ℕ

abbrev pub Values : List Kind → Type 0
Values [] = Unit {0}
Values (k ∷ kinds) = Value k × Values kinds

-- the tlvs of options and of parameters, as they are written
abbrev pub option_tlvs : List (Numbered OptionValue) → List (Numbered (List ℕ))
option_tlvs v = map (as_tlv option_octets) v

abbrev pub parameter_tlvs : List (Numbered ParameterValue) → List (Numbered (List ℕ))
parameter_tlvs v = map (as_tlv parameter_octets) v

-- the canonical octets of a field; those of options in rising order
unfoldable pub field_octets : (k : Kind) → Value k → List ℕ
field_octets (Number w) n = bytes_high_first w n
field_octets (Octets n) s = s
field_octets Name x = lowname x
field_octets CharacterString s = string s
field_octets CharacterStrings ss = flat_map string ss
field_octets Rest s = s
field_octets Options v = flat_map (λ x. x) (sorted (slice_cmp nat_cmp) (map tlv (option_tlvs v)))
field_octets Parameters v = tlvs (parameter_tlvs v)
field_octets Bitmap v = flat_map block (minimal v)

-- a field can hold the value
abbrev pub Fits : (k : Kind) → Value k → Type 0
Fits (Number w) n = n < 256 ^ w
Fits (Octets n) s = length s ≡ n
Fits Name x = IsName x
Fits CharacterString s = length s < 256
Fits CharacterStrings ss = AllByRecursion (λ s. length s < 256) ss
Fits Rest s = Unit {0}
Fits Options v = AllByRecursion OptionFits v
Fits Parameters v = AllByRecursion ParameterFits v × Rising v
Fits Bitmap v = IsTypeSet v

-- A field of a value that a caller built can be emitted: a string has at most 255 octets, and options and parameters
-- are as their forms ask. Numbers, names and sets of types are so by their own types.
abbrev pub is_emittable : (k : Kind) → Value k → Bool
is_emittable CharacterString s = nat_le (length s) 255
is_emittable CharacterStrings ss = list_all (λ s. nat_le (length s) 255) ss
is_emittable Options v = options_emittable v
is_emittable Parameters v = parameters_emittable v
is_emittable k v = true

-- a value that a reader can give: one with no parts that only a caller can make
abbrev pub Lawful : (k : Kind) → Value k → Type 0
Lawful Options v = HoldThemselves OptionHeld option_octets v
Lawful Parameters v = HoldThemselves ParameterHeld parameter_octets v
Lawful k v = Unit {0}

-- options from p to q that are all whole
pub record CompleteOptions (m : List ℕ) (p : ℕ) (v : List (Numbered OptionValue)) (q : ℕ) : Type 0 where
  pub read : List (Numbered (List ℕ))
  pub at : At m p (tlvs read) q
  pub fit : AreTlvs read
  pub held : AllHeld OptionHeld read v

-- whole options and a truncated one, in a record of n octets
pub record TruncatedOptions (m : List ℕ) (n p q : ℕ) : Type 0 where
  pub read : List (Numbered (List ℕ))
  pub dropped : List (Numbered OptionValue)
  pub stub : List ℕ
  pub at : At m p (tlvs read ++ stub) q
  pub fit : AreTlvs read
  pub held : AllHeld OptionHeld read dropped
  pub cut : IsTruncated n stub

-- parameters from p to q, their keys strictly rising
pub record ParametersAt (m : List ℕ) (p : ℕ) (v : List (Numbered ParameterValue)) (q : ℕ) : Type 0 where
  pub read : List (Numbered (List ℕ))
  pub at : At m p (tlvs read) q
  pub fit : AreTlvs read
  pub held : AllHeld ParameterHeld read v
  pub rising : Rising v

-- the value is encoded as a field of this kind from p to q
abbrev pub IsField : List ℕ → ℕ → (k : Kind) → Value k → ℕ → Type 0
IsField m p (Number w) n q = (n < 256 ^ w) × At m p (bytes_high_first w n) q
IsField m p (Octets n) s q = (length s ≡ n) × At m p s q
IsField m p Name x q = IsNameIn m p x q
IsField m p CharacterString s q = (length s < 256) × At m p (string s) q
IsField m p CharacterStrings ss q = AllByRecursion (λ s. length s < 256) ss × At m p (flat_map string ss) q
IsField m p Rest s q = At m p s q
IsField m p Options v q = CompleteOptions m p v q ⊎ ((v ≡ []) × TruncatedOptions m (q - p) p q)
IsField m p Parameters v q = ParametersAt m p v q
IsField m p Bitmap v q = BitmapAt m p v q

pub record Field (m : List ℕ) (p : ℕ) (k : Kind) (v : Value k) (q : ℕ) : Type 0 where
  pub is : IsField m p k v q

-- the values are encoded from p to e, each field between its neighbours
abbrev pub Stands : List ℕ → ℕ → (kinds : List Kind) → Values kinds → ℕ → Type 0
Stands m p [] vs e = p ≡ e
Stands m p (k ∷ kinds) vs e = (q : ℕ) × Field m p k vs.0 q × Stands m q kinds vs.1 e

-- the canonical octets
abbrev pub canonical : (kinds : List Kind) → Values kinds → List ℕ
canonical [] vs = []
canonical (k ∷ kinds) vs = field_octets k vs.0 ++ canonical kinds vs.1

abbrev pub AllFit : (kinds : List Kind) → Values kinds → Type 0
AllFit [] vs = Unit {0}
AllFit (k ∷ kinds) vs = Fits k vs.0 × AllFit kinds vs.1

abbrev pub all_emittable : (kinds : List Kind) → Values kinds → Bool
all_emittable [] vs = true
all_emittable (k ∷ kinds) vs = is_emittable k vs.0 && all_emittable kinds vs.1

abbrev pub AllLawful : (kinds : List Kind) → Values kinds → Type 0
AllLawful [] vs = Unit {0}
AllLawful (k ∷ kinds) vs = Lawful k vs.0 × AllLawful kinds vs.1

-- one field written after the octets m leaves the octets m', names in this mode
abbrev pub IsWrittenAs : RDataEncoding → List ℕ → (k : Kind) → Value k → List ℕ → Type 0
IsWrittenAs mode m (Number w) n m' = (n < 256 ^ w) × (m' ≡ m ++ bytes_high_first w n)
IsWrittenAs mode m (Octets n) s m' = (length s ≡ n) × (m' ≡ m ++ s)
IsWrittenAs mode m Name x m' = NameWrote mode m x m'
IsWrittenAs mode m CharacterString s m' = (length s < 256) × (m' ≡ m ++ string s)
IsWrittenAs mode m CharacterStrings ss m' = AllByRecursion (λ s. length s < 256) ss × (m' ≡ m ++ flat_map string ss)
IsWrittenAs mode m Rest s m' = m' ≡ m ++ s
IsWrittenAs mode m Options v m' = AllByRecursion OptionFits v × (m' ≡ m ++ tlvs (option_tlvs v))
IsWrittenAs mode m Parameters v m' = AllByRecursion ParameterFits v × Rising v × (m' ≡ m ++ tlvs (parameter_tlvs v))
IsWrittenAs mode m Bitmap v m' = IsTypeSet v × (m' ≡ m ++ flat_map block (minimal v))

pub record WroteField (mode : RDataEncoding) (m : List ℕ) (k : Kind) (v : Value k) (m' : List ℕ) : Type 0 where
  pub is : IsWrittenAs mode m k v m'

-- the fields written one after the other
abbrev pub Wrote : RDataEncoding → List ℕ → (kinds : List Kind) → Values kinds → List ℕ → Type 0
Wrote mode m [] vs m' = m' ≡ m
Wrote mode m (k ∷ kinds) vs m' = (between : List ℕ) × WroteField mode m k vs.0 between
    × Wrote mode between kinds vs.1 m'

-- the same value: names but for ASCII case, options in any order
abbrev pub IsSame : (k : Kind) → Value k → Value k → Type 0
IsSame Name a b = SameName a b
IsSame Options a b = IsPermutation a b
IsSame k a b = a ≡ b

pub record SameField (k : Kind) (a b : Value k) : Type 0 where
  pub is : IsSame k a b

abbrev pub Same : (kinds : List Kind) → Values kinds → Values kinds → Type 0
Same [] a b = Unit {0}
Same (k ∷ kinds) a b = SameField k a.0 b.0 × Same kinds a.1 b.1

-- a field that says itself where it ends
abbrev pub EndsItself : Kind → Type 0
EndsItself (Number w) = Unit {0}
EndsItself (Octets n) = Unit {0}
EndsItself Name = Unit {0}
EndsItself CharacterString = Unit {0}
EndsItself k = ⊥

-- a name is fully qualified
abbrev pub IsFull : (k : Kind) → Value k → Type 0
IsFull Name x = x.fully_qualified ≡ true
IsFull k v = Unit {0}

-- each name is fully qualified
abbrev pub AllFull : (kinds : List Kind) → Values kinds → Type 0
AllFull [] vs = Unit {0}
AllFull (k ∷ kinds) vs = IsFull k vs.0 × AllFull kinds vs.1
