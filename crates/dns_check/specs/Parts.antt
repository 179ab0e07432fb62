-- One field of a row in a message, and why it is rejected.
use Rattle.std.specs.Prelude.{◌≡◌, ◌≢◌, ℕ, ◌+◌, ◌*◌, ◌-◌, ◌/◌, ◌<◌, ◌≤◌, ◌⊎◌, List, length, max, bit_and, Result, Ok}
use Rattle.std.specs.Prelude.{Err}
use Rattle.dns_types.specs.declared.error.DecodeError.{DecodeError}
use Rattle.dns_types.specs.declared.error.DecodeError.TheVariants as decode
use Rattle.dns_fields.specs.declared.Kind.{Kind}
use Rattle.dns_fields.specs.declared.Kind.TheVariants.{Number, Octets, Name, CharacterString, CharacterStrings, Rest}
use Rattle.dns_fields.specs.declared.Kind.TheVariants.{Options, Parameters, Bitmap}
use Rattle.dns_fields.specs.{Fields.Value, Fields.Field}
use Rattle.dns_fields.specs.Bitmaps.{BitmapAt}
use Rattle.dns_names_wire.specs.{State.Reading, Terms.TookField, Terms.LacksField, Terms.LacksOctets, Terms.LacksText}
use Rattle.dns_names_wire.specs.{Terms.StaysBehind, Terms.StringsReach}
use Rattle.dns_rows.specs.declared.row.Rule.{Rule}
use Rattle.dns_rows.specs.declared.row.Rule.TheVariants as rules
use Rattle.dns_rows.specs.Rules.{AreLetters, also}
use Rattle.dns_check.specs.{Tags.TagFault, Parameters.IsParametersError, Options.IsOptionsError}

-- what a rule asks of a field
abbrev pub Asks : Rule → (k : Kind) → Value k → Type 0
Asks rule k v = also rule k v (Unit {0})

-- the rule asks nothing of a field of this kind
abbrev pub IsUnasked : Rule → Kind → Type 0
IsUnasked rules.Letters CharacterString = ⊥
IsUnasked rules.Tag CharacterString = ⊥
IsUnasked rules.KnownFlags (Number w) = ⊥
IsUnasked rules.Some Rest = ⊥
IsUnasked rules.Paths Parameters = ⊥
IsUnasked rule k = Unit {0}

-- a field that says itself where it ends must end within the RDATA, any other field ends with it
abbrev pub Reaches : Kind → ℕ → ℕ → Type 0
Reaches (Number w) end q = q ≤ end
Reaches (Octets n) end q = q ≤ end
Reaches Name end q = q ≤ end
Reaches CharacterString end q = q ≤ end
Reaches k end q = q ≡ end

-- a number has one, two or four octets
abbrev pub IsWidth : ℕ → Type 0
IsWidth w = (w ≡ 1) ⊎ (w ≡ 2) ⊎ (w ≡ 4)

-- The kinds that can be checked. Flags have two octets, and the path of DNS queries among parameters is UTF-8.
abbrev pub IsCovered : Kind → Rule → Type 0
IsCovered (Number w) rules.KnownFlags = w ≡ 2
IsCovered (Number w) r = IsWidth w
IsCovered Parameters rules.Paths = Unit {0}
IsCovered Parameters r = ⊥
IsCovered k r = Unit {0}

-- octets are taken by so many at a time
abbrev pub step_of : Rule → ℕ
step_of (rules.Steps n) = max 1 n
step_of r = 1

-- Where a field ends that was taken, if the RDATA ends at `end`: a tag within it; strings reach the end or pass it, and
-- the last one begins before it; parameters leave at most three octets; every other field that does not say itself where
-- it ends, with the RDATA.
abbrev pub Ends : (k : Kind) → Rule → ℕ → Value k → ℕ → Type 0
Ends CharacterString rules.Tag end v q = q ≤ end
Ends CharacterString r end v q = Unit {0}
Ends CharacterStrings r end v q = StringsReach end v q
Ends Parameters r end v q = (q ≤ end) × (end < q + 4)
Ends Rest r end v q = q ≡ end
Ends Options r end v q = q ≡ end
Ends Bitmap r end v q = q ≡ end
Ends k r end v q = Unit {0}

-- A field was taken: it is there and is as its rule asks, and any other way to read it ends at the same offset.
pub record Skipped (rule : Rule) (k : Kind) (end : ℕ) (old new : Reading) : Type 0 where
  pub value : Value k
  pub took : TookField old k value new
  pub asked : Asks rule k value
  pub one : (v : Value k) (q : ℕ) → Field old.message old.index k v q → Reaches k end q → q ≡ new.index
  pub ends : Ends k rule end value new.index

-- no field is there that is as its rule asks
pub record NoPart (rule : Rule) (k : Kind) (end : ℕ) (old : Reading) : Type 0 where
  pub none : (v : Value k) (q : ℕ) → Field old.message old.index k v q → Asks rule k v → Reaches k end q → ⊥

-- after some strings, before the end, the next string lacks octets
pub record LacksString (end : ℕ) (old new : Reading) : Type 0 where
  pub strings : List (List ℕ)
  pub between : Reading
  pub took : TookField old CharacterStrings strings between
  pub before : between.index < end
  pub lacks : LacksText between new

-- a string is taken, and has an octet that is no letter and no digit (NAPTR's flags: RFC 3403, 4.1)
pub record HasOther (old new : Reading) : Type 0 where
  pub string : List ℕ
  pub took : TookField old CharacterString string new
  pub bad : AreLetters string → ⊥

abbrev pub StringFault : Rule → ℕ → ℕ → Reading → DecodeError → Reading → Type 0
StringFault rules.Tag start n old e new = TagFault start n old e new
StringFault rules.Letters start n old e new =
    ((e ≡ decode.InsufficientBytes) × LacksText old new) ⊎ ((e ≡ decode.NaptrFlagsInvalid) × HasOther old new)
StringFault r start n old e new = (e ≡ decode.InsufficientBytes) × LacksText old new

-- flags are taken, and one of the bits 2 to 7 is set (CSYNC: RFC 7477, 2.1.1.2)
pub record UnknownFlags (w : ℕ) (old : Reading) (e : DecodeError) (new : Reading) : Type 0 where
  pub flags : ℕ
  pub error : e ≡ decode.UnrecognizedCsyncFlags flags
  pub took : TookField old (Number w) flags new
  pub unknown : bit_and flags 252 ≢ 0

-- the octets of a number are missing
abbrev pub LacksNumber : ℕ → Reading → DecodeError → Reading → Type 0
LacksNumber w old e new = (e ≡ decode.InsufficientBytes) × LacksOctets old w × (new ≡ old)

abbrev pub NumberFault : Rule → ℕ → Reading → DecodeError → Reading → Type 0
NumberFault rules.KnownFlags w old e new = LacksNumber w old e new ⊎ UnknownFlags w old e new
NumberFault r w old e new = LacksNumber w old e new

-- the fields before pass RDLENGTH, or octets up to the end are missing
abbrev pub EndFault : ℕ → ℕ → Reading → DecodeError → Type 0
EndFault start n old e =
    ((e ≡ decode.IncorrectRDataLengthRead (old.index - start) n) × (start + n < old.index))
    ⊎ ((e ≡ decode.InsufficientBytes) × LacksOctets old (n - (old.index - start)))

-- the same, or no octet is left where the rule asks for one
abbrev pub RestFault : Rule → ℕ → ℕ → Reading → DecodeError → Type 0
RestFault rules.Some start n old e = EndFault start n old e
    ⊎ ((e ≡ decode.IncorrectRDataLengthRead n (n + 1)) × (old.index ≡ start + n))
RestFault r start n old e = EndFault start n old e

-- the octets up to the end are there and taken, and they are no bitmap (RFC 4034, 4.1.2)
pub record WrongBitmap (end : ℕ) (old : Reading) (e : DecodeError) (new : Reading) : Type 0 where
  pub error : e ≡ decode.BitmapInvalid
  pub from : old.index ≤ end
  pub within : end ≤ length old.message
  pub none : (v : List ℕ) → BitmapAt old.message old.index v end → ⊥
  pub message : new.message ≡ old.message
  pub index : new.index ≡ end

-- Why a field is rejected of n octets of RDATA from start, and where the decoder is then.
abbrev pub KindFault : Rule → Kind → ℕ → ℕ → Reading → DecodeError → Reading → Type 0
KindFault r (Number w) start n old e new = NumberFault r w old e new
KindFault r (Octets w) start n old e new = (e ≡ decode.InsufficientBytes) × LacksOctets old w
    × (new.index ≡ old.index + (length old.message - old.index) / step_of r * step_of r)
KindFault r Name start n old e new = (e ≡ decode.NameInvalid) × LacksField old Name × (new ≡ old)
KindFault r CharacterString start n old e new = StringFault r start n old e new
KindFault r CharacterStrings start n old e new = (e ≡ decode.InsufficientBytes) × LacksString (start + n) old new
KindFault r Rest start n old e new = (new ≡ old) × RestFault r start n old e
KindFault r Bitmap start n old e new =
    ((new ≡ old) × EndFault start n old e) ⊎ WrongBitmap (start + n) old e new
KindFault r Parameters start n old e new =
    ((e ≡ decode.IncorrectRDataLengthRead (old.index - start) n) × (start + n < old.index) × (new ≡ old))
    ⊎ ((old.index ≤ start + n) × IsParametersError start n old e new)
KindFault r Options start n old e new =
    ((e ≡ decode.IncorrectRDataLengthRead (old.index - start) n) × (start + n < old.index) × (new ≡ old))
    ⊎ ((old.index ≤ start + n) × IsOptionsError (n - (old.index - start)) old e new)

pub record Refused (rule : Rule) (k : Kind) (start n : ℕ) (old : Reading) (e : DecodeError)
    (new : Reading) : Type 0 where
  pub behind : StaysBehind old new
  pub none : NoPart rule k (start + n) old
  pub fault : KindFault rule k start n old e new

abbrev pub SkipsAs : Rule → Kind → ℕ → ℕ → Result (Unit {0}) DecodeError → Reading → Reading → Type 0
SkipsAs rule k start n (Ok x) old new = Skipped rule k (start + n) old new
SkipsAs rule k start n (Err e) old new = Refused rule k start n old e new

-- takes a field exactly if one is there that is as its rule asks
pub record Skips (rule : Rule) (k : Kind) (start n : ℕ) (r : Result (Unit {0}) DecodeError)
    (old new : Reading) : Type 0 where
  pub is : SkipsAs rule k start n r old new
