-- A whole row in a message, and why it is rejected.
use Rattle.std.specs.Prelude.{◌≡◌, ◌≢◌, ℕ, ◌+◌, ◌<◌, ◌≤◌, ◌⊎◌, ◌==◌, ◌&&◌, ◌||◌, nat_le, Bool, true, false}
use Rattle.std.specs.Prelude.{List, [], ◌∷◌, length, Result, Ok, Err}
use Rattle.dns_types.specs.declared.error.DecodeError.{DecodeError}
use Rattle.dns_types.specs.declared.error.DecodeError.TheVariants as decode
use Rattle.dns_fields.specs.declared.Kind.{Kind}
use Rattle.dns_fields.specs.declared.Kind.TheVariants.{Number, Octets, Name, CharacterString, Rest}
use Rattle.dns_fields.specs.declared.Kind.TheVariants.{Parameters}
use Rattle.dns_fields.specs.Fields.{Value, Values, Stands, EndsItself}
use Rattle.dns_names_wire.specs.{State.Reading, Terms.TookField, Terms.StaysBehind}
use Rattle.dns_rows.specs.declared.row.{Part.Part, Rule.Rule}
use Rattle.dns_rows.specs.declared.row.Rule.TheVariants as rules
use Rattle.dns_rows.specs.{Table.kinds_of, Rules.MeetsRow}
use Rattle.dns_check.specs.Parts.{Asks, IsCovered, KindFault, Ends}

abbrev pub AreCovered : List Part → Type 0
AreCovered [] = Unit {0}
AreCovered (p ∷ row) = IsCovered p.kind p.rule × AreCovered row

-- each field but the last says itself where it ends
abbrev pub IsRow : List Part → Type 0
IsRow [] = Unit {0}
IsRow (p ∷ []) = Unit {0}
IsRow (p ∷ (l ∷ row)) = EndsItself p.kind × IsRow (l ∷ row)

-- how many octets the first field's rule asks of the RDATA, before anything is read
abbrev pub asked_of : Rule → ℕ
asked_of (rules.AtLeast n) = n
asked_of r = 0

abbrev pub asked_length : List Part → ℕ
asked_length [] = 0
asked_length (p ∷ row) = asked_of p.rule

-- how many octets a field has at least
abbrev pub fewest_of : Rule → Kind → ℕ
fewest_of r (Number w) = w
fewest_of r (Octets n) = n
fewest_of r Name = 1
fewest_of r CharacterString = 1
fewest_of rules.Some Rest = 1
fewest_of r k = 0

abbrev pub fewest : List Part → ℕ
fewest [] = 0
fewest (p ∷ row) = fewest_of p.rule p.kind + fewest row

-- a row that can be checked: a part that asks for a number of octets is first, and the fields have so many
pub record IsRowChecked (row : List Part) : Type 0 where
  pub covered : AreCovered row
  pub ordered : IsRow row
  pub few : length row ≤ 64
  pub least : asked_length row ≤ fewest row

-- the same as a test

abbrev pub is_width : ℕ → Bool
is_width w = w == 1 || (w == 2 || w == 4)

abbrev pub is_covered : Kind → Rule → Bool
is_covered (Number w) rules.KnownFlags = w == 2
is_covered (Number w) r = is_width w
is_covered Parameters rules.Paths = true
is_covered Parameters r = false
is_covered k r = true

abbrev pub are_covered : List Part → Bool
are_covered [] = true
are_covered (p ∷ row) = is_covered p.kind p.rule && are_covered row

abbrev pub ends_itself : Kind → Bool
ends_itself (Number w) = true
ends_itself (Octets n) = true
ends_itself Name = true
ends_itself CharacterString = true
ends_itself k = false

abbrev pub is_ordered : List Part → Bool
is_ordered [] = true
is_ordered (p ∷ []) = true
is_ordered (p ∷ (l ∷ row)) = ends_itself p.kind && is_ordered (l ∷ row)

abbrev pub is_row : List Part → Bool
is_row row = are_covered row && (is_ordered row && (nat_le (length row) 64 && nat_le (asked_length row) (fewest row)))

-- fields of the row are encoded from the offset to the end, each as its rule asks
pub record HasRow (m : List ℕ) (p : ℕ) (row : List Part) (end : ℕ) : Type 0 where
  pub values : Values (kinds_of row)
  pub stands : Stands m p (kinds_of row) values end
  pub meets : MeetsRow row values

pub record NoRow (m : List ℕ) (p : ℕ) (row : List Part) (end : ℕ) : Type 0 where
  pub none : HasRow m p row end → ⊥

-- after fields that are taken, a field is rejected
abbrev pub RowFault : List Part → ℕ → ℕ → Reading → DecodeError → Reading → Type 0
RowFault [] start n old e new = ⊥
RowFault (p ∷ row) start n old e new = KindFault p.rule p.kind start n old e new
    ⊎ ((v : Value p.kind) × (between : Reading) × TookField old p.kind v between × Asks p.rule p.kind v
    × Ends p.kind p.rule (start + n) v between.index × RowFault row start n between e new)

-- RDLENGTH is less than the row asks for, and nothing is taken
pub record ShortLength (row : List Part) (n : ℕ) (old : Reading) (e : DecodeError) (new : Reading) : Type 0 where
  pub error : e ≡ decode.IncorrectRDataLengthRead n (asked_length row)
  pub short : n < asked_length row
  pub unchanged : new ≡ old

-- why n octets of RDATA are rejected, and where the decoder is then
abbrev pub RowError : List Part → ℕ → Reading → DecodeError → Reading → Type 0
RowError row n old e new = ShortLength row n old e new ⊎ ((asked_length row ≤ n) × RowFault row old.index n old e new)

-- where the last field ends, if the RDATA ends at `end`
abbrev pub RowReached : (row : List Part) → ℕ → Values (kinds_of row) → ℕ → Type 0
RowReached [] end vs q = Unit {0}
RowReached (p ∷ []) end vs q = Ends p.kind p.rule end vs.0 q
RowReached (p ∷ (l ∷ row)) end vs q = RowReached (l ∷ row) end vs.1 q

-- The fields were taken. If they end with the RDATA, the row is there; if they do not, no row fills it.
pub record TookRow (row : List Part) (n : ℕ) (old new : Reading) : Type 0 where
  pub behind : StaysBehind old new
  pub fields : HasRow old.message old.index row new.index
  pub reached : RowReached row (old.index + n) fields.values new.index
  pub here : new.index ≡ old.index + n → HasRow old.message old.index row (old.index + n)
  pub elsewhere : new.index ≢ old.index + n → NoRow old.message old.index row (old.index + n)

pub record RefusedRow (row : List Part) (n : ℕ) (old : Reading) (e : DecodeError) (new : Reading) : Type 0 where
  pub behind : StaysBehind old new
  pub none : NoRow old.message old.index row (old.index + n)
  pub error : RowError row n old e new

abbrev pub SkipsRow : List Part → ℕ → Result (Unit {0}) DecodeError → Reading → Reading → Type 0
SkipsRow row n (Ok x) old new = TookRow row n old new
SkipsRow row n (Err e) old new = RefusedRow row n old e new
