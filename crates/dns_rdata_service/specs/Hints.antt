-- Values one after the other, each by the relations of its type.
use Rattle.std.specs.Prelude.{◌≡◌, ℕ, ◌<◌, ◌⊎◌, List, [], ◌∷◌, length, Option, Some, codes, Result, Ok, Err}
use Rattle.std.specs.Fmt.{◌++?◌}
use Rattle.dns_types.specs.{declared.error.DecodeError.DecodeError, declared.error.ProtoError.ProtoError}
use Rattle.dns_names_wire.specs.{State.Reading, State.Writing, Terms.StaysBehind, Terms.UnlessMemory}
pub use Rattle.dns_check.proofs.ParameterLists.{StandEach}

-- some are encoded, and after them, before the end of the message, none is
pub record StopsBefore {T : Type 0} (S : List ℕ → ℕ → T → ℕ → Type 0) (m : List ℕ) (p : ℕ) : Type 0 where
  pub items : List T
  pub offset : ℕ
  pub stand : StandEach S m p items offset
  pub before : offset < length m
  pub none : (x : T) (q : ℕ) → S m offset x q → ⊥

pub record StandToEnd {T : Type 0} (S : List ℕ → ℕ → T → ℕ → Type 0) (old : Reading) (items : List T)
    (new : Reading) : Type 0 where
  pub behind : StaysBehind old new
  pub ends : new.index ≡ length old.message
  pub stand : StandEach S old.message old.index items (length old.message)

-- reads the values that fill the message to its end
abbrev pub ReadsEach : {T X : Type 0} → (List ℕ → ℕ → T → ℕ → Type 0) → (X → List T) → Result X DecodeError → Reading
    → Reading → Type 0
ReadsEach S items (Ok x) old new = StandToEnd S old (items x) new
ReadsEach S items (Err e) old new = StaysBehind old new × UnlessMemory e (StopsBefore S old.message old.index)

-- Some are encoded one after the other; after them, before the end of the message, reading another fails so.
pub record RefusedBehind {T : Type 0} (S : List ℕ → ℕ → T → ℕ → Type 0) (R : Reading → DecodeError → Reading → Type 0)
    (old : Reading) (e : DecodeError)
    (new : Reading) : Type 0 where
  pub items : List T
  pub between : Reading
  pub message : between.message ≡ old.message
  pub stand : StandEach S old.message old.index items between.index
  pub before : between.index < length old.message
  pub refused : R between e new

-- emits the values one after the other; the first that fails stops it
abbrev pub EmitsEach : {T : Type 0} → (T → Result (Unit {0}) ProtoError → Writing → Writing → Type 0) → List T
    → Result (Unit {0}) ProtoError → Writing
    → Writing → Type 0
EmitsEach E [] (Ok x) old new = new ≡ old
EmitsEach E [] (Err e) old new = ⊥
EmitsEach E (x ∷ xs) r old new = ((between : Writing) × E x (Ok tt) old between × EmitsEach E xs r between new)
    ⊎ ((e : ProtoError) × (r ≡ Err e) × E x (Err e) old new)

-- the text of each value and a comma, if each has a known text
abbrev pub each_text : {T : Type 0} → (T → Option (List ℕ)) → List T → Option (List ℕ)
each_text text [] = Some []
each_text text (x ∷ xs) = text x ++? (Some (codes ",") ++? each_text text xs)
