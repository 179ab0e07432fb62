-- Reading fields one after the other.
use Rattle.std.proofs.Common.{◌≡◌, ℕ, ◌+◌, ◌≤◌, ◌<◌, List, [], ◌∷◌, length, refl, sym, ◌∙◌, arith, subst}
use Rattle.dns_names_wire.specs.State.{Reading}
use Rattle.dns_names_wire.specs.Terms.{TookField, LacksField, Took, Lacks, StaysBehind, UnlessMemory, RefusedField, Refused, IsLong}
use Rattle.dns_fields.specs.Fields.{Value, Values, Field, Stands, EndsItself}
use Rattle.dns_fields.specs.declared.Kind.{Kind, TheVariants.Number}
use Rattle.dns_types.specs.declared.error.DecodeError.{DecodeError}
use Rattle.dns_types.specs.declared.error.DecodeError.TheVariants as decode
use Rattle.dns_fields.proofs.{Numbers.length-bytes, FieldLaws.field_inside, FieldLaws.field_same, FieldLaws.field_end}

pub stands_inside : (m : List ℕ) (p : ℕ) (s : List Kind) (a : Values s) (e : ℕ) → Stands m p s a e → p ≤ e
stands_inside m p [] a e f = omega (arith, f)
stands_inside m p (k ∷ kinds) a e f = omega (arith, (field_inside f.1).0, stands_inside m f.0 kinds a.1 e f.2)

-- ---- several fields

pub took_last : (d : Reading) → Took d [] tt d
took_last d = record { message = refl; stands = refl }

pub took_then : {d b e : Reading} {k : Kind} {v : Value k} {kinds : List Kind} {vs : Values kinds} → TookField d k v b → Took b kinds vs e
    → Took d (k ∷ kinds) (v, vs) e
took_then {d} {b} {e} {k} {v} {kinds} {vs} f g = record {
  message = g.message ∙ f.message;
  stands = (b.index, f.field, subst (λ (m : List ℕ). Stands m b.index kinds vs e.index) f.message g.stands);
}

-- nothing stands where the first field does not
pub lacks_first : {d : Reading} {k : Kind} {kinds : List Kind} {condition : Values (k ∷ kinds) → ℕ → Type 0} → LacksField d k → Lacks d (k ∷ kinds) condition
lacks_first l = record { none = λ vs e s _. l.none vs.0 s.0 s.1 }

-- or where nothing stands behind the first field
pub lacks_then : {d b : Reading} {k : Kind} {v : Value k} {kinds : List Kind} {condition : Values (k ∷ kinds) → ℕ → Type 0} → EndsItself k
    → TookField d k v b → Lacks b kinds (λ vs e. condition (v, vs) e) → Lacks d (k ∷ kinds) condition
lacks_then {d} {b} {k} {v} {kinds} {condition} ends f l = record {
  none = λ vs e s c.
      let there : s.0 ≡ b.index = field_end ends s.1 f.field in
      let x : Field d.message d.index k vs.0 b.index = rw (← there) s.1 in
      let first : vs.0 ≡ v = field_same x f.field in
      let rest : Stands b.message b.index kinds vs.1 e = subst (λ (m : List ℕ). Stands m b.index kinds vs.1 e) (sym f.message)
      (subst (λ (q : ℕ). Stands d.message q kinds vs.1 e) there s.2) in
      l.none vs.1 e rest (subst (λ (w : Value k). condition (w, vs.1) e) first c);
}

-- or if the end is before the offset
pub lacks_past : {d : Reading} {kinds : List Kind} {condition : Values kinds → ℕ → Type 0} → ((vs : Values kinds) (e : ℕ) → condition vs e → e < d.index)
    → Lacks d kinds condition
lacks_past {d} {kinds} past = record { none = λ vs e s c. let h = past vs e c in let i = stands_inside d.message d.index kinds vs e s in omega arith }

pub stays : (d : Reading) → StaysBehind d d
stays d = record { message = refl; index = omega arith }

pub took_stays : {d b e : Reading} {k : Kind} {v : Value k} → TookField d k v b → StaysBehind b e → StaysBehind d e
took_stays {d} {b} {e} f g = record { message = g.message ∙ f.message; index = omega (arith, (field_inside f.field).0, g.index) }

pub unless_map : (e : DecodeError) (P Q : Type 0) → (P → Q) → UnlessMemory e P → UnlessMemory e Q
unless_map decode.Memory P Q f h = tt
unless_map e P Q f h = f h

pub unless_all : (e : DecodeError) {P : Type 0} → P → UnlessMemory e P
unless_all decode.Memory h = tt
unless_all e h = h

-- ---- an error on the way

pub refused_first : {e : DecodeError} {d n : Reading} {k : Kind} {kinds : List Kind} {condition : Values (k ∷ kinds) → ℕ → Type 0} → RefusedField e d k n
    → Refused e d (k ∷ kinds) condition n
refused_first {e} r = record { behind = r.behind; none = unless_map e _ _ lacks_first r.none }

pub refused_then : {e : DecodeError} {d b n : Reading} {k : Kind} {v : Value k} {kinds : List Kind} {condition : Values (k ∷ kinds) → ℕ → Type 0}
    → TookField d k v b → EndsItself k → Refused e b kinds (λ vs q. condition (v, vs) q) n → Refused e d (k ∷ kinds) condition n
refused_then {e} f ends r = record { behind = took_stays f r.behind; none = unless_map e _ _ (lacks_then ends f) r.none }

pub stands_within : (m : List ℕ) (p : ℕ) (s : List Kind) (a : Values s) (e : ℕ) → IsLong s → Stands m p s a e → e ≤ length m
stands_within m p [] a e h f = elim h [ ]
stands_within m p (k ∷ []) a e h f = omega (arith, (field_inside f.1).1, f.2)
stands_within m p (k ∷ l ∷ kinds) a e h f = stands_within m f.0 (l ∷ kinds) a.1 e tt f.2

-- an end before the offset
pub refused_past : {e : DecodeError} (d : Reading) {kinds : List Kind} {condition : Values kinds → ℕ → Type 0}
    → ((vs : Values kinds) (q : ℕ) → condition vs q → q < d.index) → Refused e d kinds condition d
refused_past {e} d f = record { behind = stays d; none = unless_all e (lacks_past f) }

pub took_number : {d b : Reading} {w v : ℕ} → TookField d (Number w) v b → b.index ≡ d.index + w
took_number {d} {b} {w} {v} f = omega (arith, f.field.is.1.ends, length-bytes w v)

pub ruleset reading = (took_last, took_then)
