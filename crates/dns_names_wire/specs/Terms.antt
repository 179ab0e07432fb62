-- What a reader and an emitter of fields do, exactly.
use Rattle.std.specs.Prelude.{◌≡◌, ◌≢◌, ℕ, ◌+◌, ◌<◌, ◌≤◌, ◌⊎◌, false, List, [], ◌∷◌, ◌++◌, length, Result, Ok, Err}
use Rattle.dns_types.specs.{declared.error.DecodeError.DecodeError, declared.error.ProtoError.ProtoError}
use Rattle.dns_types.specs.declared.error.DecodeError.TheVariants as decode
use Rattle.dns_types.specs.declared.error.ProtoError.TheVariants as proto
use Rattle.dns_fields.specs.{declared.RDataEncoding.RDataEncoding, Octets.AreOctets, Tlvs.string}
use Rattle.dns_fields.specs.Fields.{Value, Values, Field, Stands, WroteField, Wrote, is_emittable, all_emittable}
use Rattle.dns_fields.specs.Fields.{EndsItself}
use Rattle.dns_fields.specs.declared.Kind.{Kind, TheVariants.Number, TheVariants.Name}
use Rattle.dns_fields.specs.Fields.{canonical, field_octets}
use Rattle.dns_names_wire.specs.State.{Reading, Writing}

-- ---- reading

-- the value is encoded as one field from where the decoder was to where it is
pub record TookField (old : Reading) (k : Kind) (v : Value k) (new : Reading) : Type 0 where
  pub message : new.message ≡ old.message
  pub field : Field old.message old.index k v new.index

-- some value of the kind was taken
pub record TookSome (old : Reading) (k : Kind) (new : Reading) : Type 0 where
  pub value : Value k
  pub took : TookField old k value new

-- the decoder at another offset of its message
abbrev pub moved : Reading → ℕ → Reading
moved d index = record { message = d.message; index = index }

-- fewer than n octets are left
abbrev pub LacksOctets : Reading → ℕ → Type 0
LacksOctets d n = length d.message < d.index + n

-- no value of this kind is encoded there
pub record LacksField (d : Reading) (k : Kind) : Type 0 where
  pub none : (v : Value k) (q : ℕ) → Field d.message d.index k v q → ⊥

-- the values are encoded one after the other from where the decoder was to where it is
pub record Took (old : Reading) (kinds : List Kind) (vs : Values kinds) (new : Reading) : Type 0 where
  pub message : new.message ≡ old.message
  pub stands : Stands old.message old.index kinds vs new.index

-- no values are encoded there that meet a condition on them and on their end
pub record Lacks (d : Reading) (kinds : List Kind) (condition : Values kinds → ℕ → Type 0) : Type 0 where
  pub none : (vs : Values kinds) (e : ℕ) → Stands d.message d.index kinds vs e → condition vs e → ⊥

-- the error `Memory` says nothing
abbrev pub UnlessMemory : DecodeError → Type 0 → Type 0
UnlessMemory decode.Memory P = Unit {0}
UnlessMemory e P = P

-- on error the message is the same, and the index is not before where it was
pub record StaysBehind (old new : Reading) : Type 0 where
  pub message : new.message ≡ old.message
  pub index : old.index ≤ new.index

pub record RefusedField (e : DecodeError) (old : Reading) (k : Kind) (new : Reading) : Type 0 where
  pub behind : StaysBehind old new
  pub none : UnlessMemory e (LacksField old k)

pub record Refused (e : DecodeError) (old : Reading) (kinds : List Kind) (condition : Values kinds → ℕ → Type 0)
    (new : Reading) : Type 0 where
  pub behind : StaysBehind old new
  pub none : UnlessMemory e (Lacks old kinds condition)

-- reads a field exactly if one is encoded there
abbrev pub ReadsField : {T : Type 0} (k : Kind) → (T → Value k) → Result T DecodeError → Reading → Reading → Type 0
ReadsField k view (Ok x) old new = TookField old k (view x) new
ReadsField k view (Err e) old new = RefusedField e old k new

-- reads the fields exactly if they are encoded there and meet the condition
abbrev pub ReadsIf : {T : Type 0} (kinds : List Kind) → (Values kinds → ℕ → Type 0) → (T → Values kinds)
    → Result T DecodeError → Reading → Reading → Type 0
ReadsIf kinds condition view (Ok x) old new = Took old kinds (view x) new × condition (view x) new.index
ReadsIf kinds condition view (Err e) old new = Refused e old kinds condition new

abbrev pub Always : (kinds : List Kind) → Values kinds → ℕ → Type 0
Always kinds vs e = Unit {0}

-- A character string lacks octets: its length octet, or octets after it.
abbrev pub LacksText : Reading → Reading → Type 0
LacksText old new = ((new ≡ old) × LacksOctets old 1) ⊎ ((n : ℕ) × TookField old (Number 1) n new × LacksOctets new n)

-- Character strings end at an offset: they reach the end or pass it, and the last of them begins before it.
pub record StringsReach (end : ℕ) (strings : List (List ℕ)) (at : ℕ) : Type 0 where
  pub reach : end ≤ at
  pub last : (front : List (List ℕ)) (s : List ℕ) → strings ≡ front ++ s ∷ [] → at < end + length (string s)

-- rejected since fewer than n octets are left
abbrev pub IsTruncated : ℕ → Reading → DecodeError → Reading → Type 0
IsTruncated n old e new = (e ≡ decode.InsufficientBytes) × LacksOctets old n

-- memory ran out, or no name is encoded there
abbrev pub IsNoName : Reading → DecodeError → Reading → Type 0
IsNoName old e new = (e ≡ decode.Memory) ⊎ ((e ≡ decode.NameInvalid) × LacksField old Name)

-- reads a value exactly if one is encoded there, by a relation of message, offset, value and end
abbrev pub ReadsBy : {T : Type 0} → (List ℕ → ℕ → T → ℕ → Type 0) → Result T DecodeError → Reading → Reading → Type 0
ReadsBy stands (Ok x) old new = StaysBehind old new × stands old.message old.index x new.index
ReadsBy {T} stands (Err e) old new = StaysBehind old new
    × UnlessMemory e ((x : T) (end : ℕ) → stands old.message old.index x end → ⊥)

-- there is a field
abbrev pub IsLong : List Kind → Type 0
IsLong [] = ⊥
IsLong (k ∷ kinds) = Unit {0}

-- each field says itself where it ends
abbrev pub AllEnd : List Kind → Type 0
AllEnd [] = Unit {0}
AllEnd (k ∷ kinds) = EndsItself k × AllEnd kinds

-- ---- RDATA of a known length (RFC 1035, section 3.2.1)

-- the values fill the n octets from p, under a condition
pub record Region (m : List ℕ) (p n : ℕ) (kinds : List Kind) (condition : Values kinds → Type 0)
    (vs : Values kinds) : Type 0 where
  pub octets : AreOctets m
  pub short : n < 65536
  pub within : p + n ≤ length m
  pub stands : Stands m p kinds vs (p + n)
  pub holds : condition vs

pub record NoRegion (m : List ℕ) (p n : ℕ) (kinds : List Kind) (condition : Values kinds → Type 0) : Type 0 where
  pub none : (vs : Values kinds) → Region m p n kinds condition vs → ⊥

-- A reader that may stop at another end than the length: where it stops at the length, the values fill it, and where
-- it does not, none do.
pub record TookRegion (old : Reading) (n : ℕ) (kinds : List Kind) (condition : Values kinds → Type 0)
    (vs : Values kinds) (new : Reading) : Type 0 where
  pub behind : StaysBehind old new
  pub here : new.index ≡ old.index + n → Region old.message old.index n kinds condition vs
  pub elsewhere : new.index ≢ old.index + n → NoRegion old.message old.index n kinds condition

pub record RefusedRegion (e : DecodeError) (old : Reading) (n : ℕ) (kinds : List Kind)
    (condition : Values kinds → Type 0) (new : Reading) : Type 0 where
  pub behind : StaysBehind old new
  pub none : UnlessMemory e (NoRegion old.message old.index n kinds condition)

abbrev pub ReadsRegion : {T : Type 0} (kinds : List Kind) → (Values kinds → Type 0) → (T → Values kinds) → ℕ
    → Result T DecodeError → Reading → Reading → Type 0
ReadsRegion kinds condition view n (Ok x) old new = TookRegion old n kinds condition (view x) new
ReadsRegion kinds condition view n (Err e) old new = RefusedRegion e old n kinds condition new

-- ---- writing

-- no more octets than the limit, or than there were: any n that neither passes is not passed
abbrev pub WithinLimit : Writing → Writing → Type 0
WithinLimit old new = (n : ℕ) → length old.octets ≤ n → old.limit ≤ n → length new.octets ≤ n

-- the same octets before the message, limit, mode and vector, and no octet past the limit
pub record Keeps (old new : Writing) : Type 0 where
  pub before : new.before ≡ old.before
  pub limit : new.limit ≡ old.limit
  pub mode : new.mode ≡ old.mode
  pub target : new.target ≡ old.target
  pub room : WithinLimit old new

-- written in the encoder's mode
pub record AppendedField (old : Writing) (k : Kind) (v : Value k) (new : Writing) : Type 0 where
  pub keeps : Keeps old new
  pub field : WroteField old.mode old.octets k v new.octets

pub record Appended (mode : RDataEncoding) (old : Writing) (kinds : List Kind) (vs : Values kinds)
    (new : Writing) : Type 0 where
  pub keeps : Keeps old new
  pub fields : Wrote mode old.octets kinds vs new.octets

-- the octets that were there are unchanged
pub record Extends (old new : Writing) : Type 0 where
  pub keeps : Keeps old new
  pub tail : List ℕ
  pub octets : new.octets ≡ old.octets ++ tail

pub record NoRoomField (w : Writing) (k : Kind) (v : Value k) : Type 0 where
  pub full : w.limit < length w.octets + length (field_octets k v)

pub record NoRoom (w : Writing) (kinds : List Kind) (vs : Values kinds) : Type 0 where
  pub full : w.limit < length w.octets + length (canonical kinds vs)

pub record UnfitField (k : Kind) (v : Value k) : Type 0 where
  pub unfit : is_emittable k v ≡ false

pub record Unfit (kinds : List Kind) (vs : Values kinds) : Type 0 where
  pub unfit : all_emittable kinds vs ≡ false

abbrev pub IsMessage : ProtoError → Type 0
IsMessage (proto.Message text) = Unit {0}
IsMessage e = ⊥

-- why it was rejected
abbrev pub Because : ProtoError → Type 0 → Type 0 → Type 0
Because proto.Memory room unfit = Unit {0}
Because proto.MaxBufferSizeExceeded room unfit = room
Because (proto.Message text) room unfit = unfit
Because (proto.Decode e) room unfit = ⊥

pub record StoppedField (e : ProtoError) (old : Writing) (k : Kind) (v : Value k) (new : Writing) : Type 0 where
  pub extends : Extends old new
  pub why : Because e (NoRoomField old k v) (UnfitField k v)

pub record Stopped (e : ProtoError) (old : Writing) (kinds : List Kind) (vs : Values kinds)
    (new : Writing) : Type 0 where
  pub extends : Extends old new
  pub why : Because e (NoRoom old kinds vs) (Unfit kinds vs)

abbrev pub EmitsField : (k : Kind) → Value k → Result (Unit {0}) ProtoError → Writing → Writing → Type 0
EmitsField k v (Ok x) old new = AppendedField old k v new
EmitsField k v (Err e) old new = StoppedField e old k v new

-- emits the fields, the names in this mode
abbrev pub EmitsAs : RDataEncoding → (kinds : List Kind) → Values kinds → Result (Unit {0}) ProtoError → Writing
    → Writing → Type 0
EmitsAs mode kinds vs (Ok x) old new = Appended mode old kinds vs new
EmitsAs mode kinds vs (Err e) old new = Stopped e old kinds vs new

-- in the encoder's own mode
abbrev pub Emits : (kinds : List Kind) → Values kinds → Result (Unit {0}) ProtoError → Writing → Writing → Type 0
Emits kinds vs r old new = EmitsAs old.mode kinds vs r old new

-- these octets follow the earlier ones
pub record AppendedOctets (old : Writing) (s : List ℕ) (new : Writing) : Type 0 where
  pub keeps : Keeps old new
  pub octets : new.octets ≡ old.octets ++ s

-- there is no room for the octets, or what makes a value unfit holds
pub record StoppedOctets (e : ProtoError) (old : Writing) (unfit : Type 0) (s : List ℕ) (new : Writing) : Type 0 where
  pub extends : Extends old new
  pub why : Because e (old.limit < length old.octets + length s) unfit

-- appends these octets of a value that fits its format, and returns `Message` only for one that does not
abbrev pub EmitsOctets : (fits unfit : Type 0) → List ℕ → Result (Unit {0}) ProtoError → Writing → Writing → Type 0
EmitsOctets fits unfit s (Ok x) old new = fits × AppendedOctets old s new
EmitsOctets fits unfit s (Err e) old new = StoppedOctets e old unfit s new

-- the same where unfit is all that does not fit
abbrev pub EmitsFitting : Type 0 → List ℕ → Result (Unit {0}) ProtoError → Writing → Writing → Type 0
EmitsFitting fits s r old new = EmitsOctets fits (fits → ⊥) s r old new

-- reads the fields exactly where they fill so many octets under the condition
abbrev pub ReadsTo : {T : Type 0} (kinds : List Kind) → (Values kinds → Type 0) → ℕ → (T → Values kinds)
    → Result T DecodeError → Reading → Reading → Type 0
ReadsTo kinds condition n view r old new = ReadsIf kinds (λ vs e. (e ≡ old.index + n) × condition vs) view r old new
