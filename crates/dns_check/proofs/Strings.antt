-- Character strings that are gone over one after the other (as dns_rdata_base's TextLists).
use Rattle.std.proofs.Common.{◌≡◌, ℕ, ◌+◌, ◌≤◌, ◌<◌, List, [], ◌∷◌, ◌++◌, length, refl, sym, ap, ◌∙◌, arith, subst, Ok, Err}
use Rattle.std.specs.List.{flat_map, AllByRecursion}
use Rattle.std.proofs.lemmas.{List.append-nil, List.length-append, List.same_from_push, List.Concat.flat_map-cons, Grind.flat_map-append}
use Rattle.dns_types.specs.declared.error.DecodeError.{DecodeError}
use Rattle.dns_types.specs.declared.error.DecodeError.TheVariants as decode
use Rattle.dns_fields.specs.declared.Kind.TheVariants.{CharacterString, CharacterStrings}
use Rattle.dns_fields.specs.{Octets.At, Fields.Field, Tlvs.string}
use Rattle.dns_fields.proofs.FieldLaws.{field_inside, field_end}
use Rattle.dns_names_wire.specs.{State.Reading, Terms.TookField, Terms.RefusedField, Terms.LacksText}
use Rattle.dns_names_wire.proofs.Strings.{at_front, at_rest, at_then}
use Rattle.dns_rows.specs.declared.row.Rule.{Rule}
use Rattle.dns_rows.specs.declared.row.Rule.TheVariants as rules
use Rattle.dns_check.specs.Parts.{IsUnasked, Skips}
use Rattle.dns_check.proofs.{Skips.lacks_of, Asked.unasked}

pub joined : (xs : List (List ℕ)) (s : List ℕ) (ys : List (List ℕ))
    → flat_map string (xs ++ s ∷ ys) ≡ flat_map string xs ++ (string s ++ flat_map string ys)
joined xs s ys = flat_map-append string xs (s ∷ ys) ∙ ap (λ (t : List ℕ). flat_map string xs ++ t) (flat_map-cons string s ys)

fits_push : (xs : List (List ℕ)) (s : List ℕ) → AllByRecursion (λ s. length s < 256) xs → length s < 256 → AllByRecursion (λ s. length s < 256) (xs ++ s ∷ [])
fits_push [] s a h = (h, tt)
fits_push (x ∷ xs) s a h = (a.0, fits_push xs s a.1 h)

pub strings_push : {m : List ℕ} {p q r : ℕ} {xs : List (List ℕ)} {s : List ℕ} → Field m p CharacterStrings xs q → Field m q CharacterString s r
    → Field m p CharacterStrings (xs ++ s ∷ []) r
strings_push {m} {p} {q} {r} {xs} {s} f g = record { is = (fits_push xs s f.is.0 g.is.0, rw (joined xs s [], append-nil (string s)) (at_then f.is.1 g.is.1)) }

-- the first string
pub next_string : (m : List ℕ) (q e : ℕ) (vs : List (List ℕ)) → q < e → Field m q CharacterStrings vs e
    → (s : List ℕ) × (ws : List (List ℕ)) × Field m q CharacterString s (q + length (string s)) × Field m (q + length (string s)) CharacterStrings ws e
    × (vs ≡ s ∷ ws)
next_string m q e [] lt f = absurd (omega (arith, f.is.1.ends))
next_string m q e (s ∷ ws) lt f =
    let whole : At m q (string s ++ flat_map string ws) e = rw (← flat_map-cons string s ws) f.is.1 in
    let first : Field m q CharacterString s (q + length (string s)) = record { is = (f.is.0.0, at_front (string s) (flat_map string ws) whole) } in
    (s, ws, first, record { is = (f.is.0.1, at_rest (string s) (flat_map string ws) whole) }, refl)

-- what was gone over of the strings up to the end, and what is left of any way to fill it
pub record On (old : Reading) (end : ℕ) (d : Reading) : Type 0 where
  pub message : d.message ≡ old.message
  pub behind : old.index ≤ d.index
  pub strings : List (List ℕ)
  pub took : Field old.message old.index CharacterStrings strings d.index
  pub last : (front : List (List ℕ)) (s : List ℕ) → strings ≡ front ++ s ∷ [] → d.index < end + length (string s)
  pub rest : (ws : List (List ℕ)) → Field old.message old.index CharacterStrings ws end → (vs : List (List ℕ))
      × Field old.message d.index CharacterStrings vs end

no_strings : (m : List ℕ) (p : ℕ) → p ≤ length m → Field m p CharacterStrings [] p
no_strings m p h = record { is = (tt, record { ends = omega arith; within = h; same = refl }) }

pub on_none : {old : Reading} (end : ℕ) → old.index ≤ length old.message → On old end old
on_none {old} end h = record {
  message = refl;
  behind = omega arith;
  strings = [];
  took = no_strings old.message old.index h;
  last = λ front s e. absurd (omega (arith, ap length e, length-append front (s ∷ [])));
  rest = λ ws f. (ws, f);
}

pub on_more : {old d b : Reading} {end : ℕ} {s : List ℕ} → On old end d → TookField d CharacterString s b → d.index < end → On old end b
on_more {old} {d} {b} {end} {s} r f lt =
    let g : Field old.message d.index CharacterString s b.index = subst (λ (m : List ℕ). Field m d.index CharacterString s b.index) r.message f.field in
    record {
      message = f.message ∙ r.message;
      behind = omega (arith, r.behind, (field_inside g).0);
      strings = r.strings ++ s ∷ [];
      took = strings_push r.took g;
      last = λ front t e. omega (arith, lt, g.is.1.ends, ap length (same_from_push r.strings front s t e).1);
      rest = λ ws h.
          let vs = r.rest ws h in
          let x = next_string old.message d.index end vs.0 lt vs.1 in
          let there : d.index + length (string x.0) ≡ b.index = field_end {k = CharacterString} tt x.2 g in
          (x.1, subst (λ (q : ℕ). Field old.message q CharacterStrings x.1 end) there x.3);
    }

-- so many were gone over
pub record Counted (old : Reading) (end count : ℕ) (d : Reading) : Type 0 where
  pub on : On old end d
  pub number : count ≡ length on.strings
  pub few : old.index + count ≤ d.index

pub counted_none : {old : Reading} (end : ℕ) → old.index ≤ length old.message → Counted old end 0 old
unfolding on_none
counted_none {old} end within = record { on = on_none end within; number = refl; few = omega arith }

one_more : (xs : List (List ℕ)) (s : List ℕ) (n : ℕ) → n ≡ length xs → n + 1 ≡ length (xs ++ s ∷ [])
one_more xs s n e = omega (arith, e, length-append xs (s ∷ []))

pub counted_more : {old d b : Reading} {end count : ℕ} {s : List ℕ} → Counted old end count d → TookField d CharacterString s b → d.index < end
    → Counted old end (count + 1) b
unfolding on_more
counted_more {count = count} {s = s} c f lt = record {
  on = on_more c.on f lt;
  number = one_more c.on.strings s count c.number;
  few = omega (arith, c.few, f.field.is.1.ends);
}

any_strings : (rule : Rule) → IsUnasked rule CharacterStrings
any_strings rules.Letters = tt
any_strings r = tt

-- the strings reach the end, or pass it
pub strings_skip : {rule : Rule} {start n : ℕ} {old d : Reading} → On old (start + n) d → start + n ≤ d.index
    → Skips rule CharacterStrings start n (Ok tt) old d
strings_skip {rule} {start = start} {n} {old} {d} r past = record {
  is = record {
    value = r.strings;
    took = record { message = r.message; field = r.took };
    asked = unasked rule CharacterStrings r.strings (any_strings rule);
    one = λ v q f e.
        let vs = r.rest v (subst (λ (x : ℕ). Field old.message old.index CharacterStrings v x) e f) in
        omega (arith, (field_inside vs.1).0, e);
    ends = record { reach = past; last = r.last };
  };
}

-- a string is missing
pub strings_refused : {rule : Rule} {start n : ℕ} {e : DecodeError} {old d b : Reading} → On old (start + n) d → RefusedField e d CharacterString b
    → d.index < start + n
    → e ≡ decode.InsufficientBytes → LacksText d b → Skips rule CharacterStrings start n (Err e) old b
strings_refused {start = start} {n} {e} {old} {d} {b} r f lt why l =
    let none = lacks_of why f in
    record {
      is = record {
        behind = record { message = f.behind.message ∙ r.message; index = omega (arith, r.behind, f.behind.index) };
        none = record {
          none = λ v q g a to.
              let vs = r.rest v (subst (λ (x : ℕ). Field old.message old.index CharacterStrings v x) to g) in
              let x = next_string old.message d.index (start + n) vs.0 lt vs.1 in
              none.none x.0 (d.index + length (string x.0)) (subst (λ (m : List ℕ). Field m d.index CharacterString x.0 (d.index + length (string x.0)))
              (sym r.message) x.2);
        };
        fault = (why, record { strings = r.strings; between = d; took = record { message = r.message; field = r.took }; before = lt; lacks = l });
      };
    }
