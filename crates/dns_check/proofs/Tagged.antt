-- A tag that is gone over (as CaaValues of dns_rdata_policy).
use Rattle.std.proofs.Common.{◌≡◌, ℕ, ◌+◌, ◌-◌, ◌%◌, ◌≤◌, ◌<◌, min, inl, inr, Bool, true, false, List, [], ◌∷◌, ◌++◌, length, take, drop, get_or, refl, sym, ap}
use Rattle.std.proofs.Common.{◌∙◌, arith, subst, Ok, Err, length-append}
use Rattle.std.specs.{Char.is_ascii_alphanumeric, List.list_all}
use Rattle.std.proofs.lemmas.List.{take_all, get_or-take, get_or-append_right, take_more, length-take, length-drop, take-take}
use Rattle.std.proofs.{lemmas.List.Folds.list_all_at, Math.Nat.mod-eq_of_lt}
use Rattle.dns_types.specs.declared.error.DecodeError.{DecodeError}
use Rattle.dns_types.specs.declared.error.DecodeError.TheVariants as decode
use Rattle.dns_fields.specs.declared.Kind.TheVariants.{Number, Octets, CharacterString}
use Rattle.dns_fields.specs.{Octets.At, Fields.Field}
use Rattle.dns_fields.proofs.{NameOffsets.At-same_head, FieldLaws.field_inside}
use Rattle.dns_names_wire.specs.{State.Reading, Terms.TookField, Terms.StaysBehind}
use Rattle.dns_names_wire.proofs.{Strings.at_rest, Strings.text_taken}
use Rattle.dns_rows.specs.declared.row.Rule.TheVariants as rules
use Rattle.dns_rows.specs.Rules.{AreLetters, IsTag}
use Rattle.dns_check.specs.{Tags.IsTagError, Parts.Skips}
use Rattle.dns_check.proofs.Skips.{skipped_itself}

no_both : (b : Bool) → b ≡ false → b ≡ true → ⊥
no_both b f t = absurd cc

-- no tag stands where an octet is bad
bad_octet : {m : List ℕ} {p q r : ℕ} (s front : List ℕ) (octet : ℕ) → At m p s q → At m p (front ++ octet ∷ []) r → length front < length s
    → is_ascii_alphanumeric octet ≡ false → AreLetters s → ⊥
bad_octet {m} {p} s front octet a b within bad letters =
    let k : ℕ = length front in
    let first : get_or s k 0 ≡ get_or (drop p m) k 0 = ap (λ (l : List ℕ). get_or l k 0) (sym a.same)
    ∙ get_or-take (length s) (drop p m) k 0 within in
    let none : k - k ≡ 0 = omega arith in
    let second : octet ≡ get_or (drop p m) k 0 =
    sym (get_or-append_right front (octet ∷ []) k k 0 refl (omega arith) ∙ rw none refl)
    ∙ ap (λ (l : List ℕ). get_or l k 0) (sym b.same)
    ∙ get_or-take (length (front ++ octet ∷ [])) (drop p m) k 0 (omega (arith, length-append front (octet ∷ []))) in
    no_both (list_all is_ascii_alphanumeric s) (list_all_at is_ascii_alphanumeric s k 0 within (rw (first, ← second) bad)) letters

octet_at : {m : List ℕ} {p n q : ℕ} → Field m p (Number 1) n q → At m p (n ∷ []) q
octet_at {m} {p} {n} {q} f = let e : n % 256 ≡ n = mod-eq_of_lt f.is.0 in subst (λ (k : ℕ). At m p (k ∷ []) q) e f.is.1

-- the octets of a string behind its length octet
string_behind : {d b : Reading} {t : ℕ} {s : List ℕ} {q : ℕ} → TookField d (Number 1) t b → Field d.message d.index CharacterString s q
    → (length s ≡ t) × At b.message b.index s q
string_behind {d} {b} {t} {s} {q} f g =
    let len : t ≡ length s = At-same_head (octet_at f.field) g.is.1 in
    let offset : d.index + 1 ≡ b.index = omega (arith, (octet_at f.field).ends) in
    let here : At d.message (d.index + 1) s q = at_rest (length s ∷ []) s g.is.1 in
    (sym len, subst (λ (m : List ℕ). At m b.index s q) (sym f.message) (subst (λ (p : ℕ). At d.message p s q) offset here))

tag_none : (start n t : ℕ) (d b new : Reading) (e : DecodeError) → start ≤ d.index → TookField d (Number 1) t b → IsTagError (b.index - start) n t b e new
    → (v : List ℕ) (p : ℕ) → Field d.message d.index CharacterString v p → IsTag v → p ≤ start + n → ⊥
tag_none start n t d b new e offset f (inl r) v p g tag on =
    let x = string_behind f g in
    omega (arith, x.0, x.1.ends, on, r.passed, (octet_at f.field).ends)
tag_none start n t d b new e offset f (inr (inl r)) v p g tag on =
    let x = string_behind f g in
    grind (arith, r.length, x.0, tag.some, tag.short)
tag_none start n t d b new e offset f (inr (inr (inl r))) v p g tag on =
    let x = string_behind f g in
    let within : length r.front < length v = omega (arith, r.within, x.0) in
    bad_octet v r.front r.octet x.1 r.took.field.is.1 within r.bad tag.letters
tag_none start n t d b new e offset f (inr (inr (inr r))) v p g tag on =
    let x = string_behind f g in
    omega (arith, x.0, x.1.ends, x.1.within, r.lacks)

-- the tag is refused
pub tag_refused : {start n t : ℕ} {e : DecodeError} {d b new : Reading} → TookField d (Number 1) t b → IsTagError (b.index - start) n t b e new
    → start ≤ d.index
    → StaysBehind b new → Skips rules.Tag CharacterString start n (Err e) d new
tag_refused {start} {n} {t} {e} {d} {b} {new} f r offset behind = record {
  is = record {
    behind = record { message = behind.message ∙ f.message; index = omega (arith, behind.index, (field_inside f.field).0) };
    none = record { none = λ v q g a on. tag_none start n t d b new e offset f r v q g a.0 on };
    fault = inr (record { size = t; between = b; took = f; refused = r });
  };
}

pub tag_skips : {start n t : ℕ} {s : List ℕ} {d b new : Reading} → TookField d (Number 1) t b → TookField b (Octets t) s new → IsTag s → new.index ≤ start + n
    → Skips rules.Tag CharacterString start n (Ok tt) d new
tag_skips f g tag within = record { is = skipped_itself tt (text_taken f g) (tag, tt) within }

-- ---- the octets of a tag

-- the octets that were taken are those that stood next
taken_is : {b new : Reading} {t : ℕ} {s D : List ℕ} → TookField b (Octets t) s new → D ≡ drop b.index b.message → take t D ≡ s
taken_is {b} {new} {t} {s} {D} f is = ap (take t) is ∙ ap (λ (n : ℕ). take n (drop b.index b.message)) (sym f.field.is.0) ∙ f.field.is.1.same

pub tag_whole : {b new : Reading} {t c k : ℕ} {s D : List ℕ} → TookField b (Octets t) s new → D ≡ drop b.index b.message → c ≡ min t (length D)
    → AreLetters (take k (take c D)) → length (take c D) ≤ k → 1 ≤ t → t ≤ 15 → IsTag s
tag_whole {b} {new} {t} {c} {k} {s} {D} f is least letters past some short =
    let room : t ≤ length D = omega (arith, ap length is, length-drop b.index b.message, f.field.is.0, f.field.is.1.ends, f.field.is.1.within) in
    let all : c ≡ t = omega arith in
    let whole : take k (take c D) ≡ s = take_all k (take c D) past ∙ ap (λ (n : ℕ). take n D) all ∙ taken_is f is in
    record { some = omega (arith, f.field.is.0); short = omega (arith, f.field.is.0); letters = subst AreLetters whole letters }

pub tag_bad : {b new : Reading} {t c k used n : ℕ} {s D : List ℕ} → TookField b (Octets (k + 1)) s new → D ≡ drop b.index b.message → c ≡ min t (length D)
    → k < length (take c D) → AreLetters (take k (take c D)) → is_ascii_alphanumeric (get_or (take c D) k 0) ≡ false → t + used ≤ n → t ≤ 15
    → IsTagError used n t b decode.CaaTagInvalid new
tag_bad {b} {new} {t} {c} {k} {used} {n} {s} {D} f is least inside letters bad fits short =
    let below : k < c = omega (arith, length-take c D) in
    let within : k < length D = omega (arith, length-take c D) in
    let front : take k (take c D) ≡ take k D = take-take k c D (omega arith) in
    let last : get_or (take c D) k 0 ≡ get_or D k 0 = get_or-take c D k 0 below in
    let long : length (take k (take c D)) ≡ k = omega (arith, length-take k (take c D)) in
    let all : take k (take c D) ++ get_or (take c D) k 0 ∷ [] ≡ s =
    rw (front, last) (sym (take_more D k 0 within) ∙ taken_is f is) in
    let size : length (take k (take c D)) + 1 ≡ k + 1 = omega arith in
    inr (inr (inl (record {
      error = refl;
      fits = fits;
      short = short;
      front = take k (take c D);
      octet = get_or (take c D) k 0;
      within = omega (arith, long, length-take c D);
      letters = letters;
      bad = bad;
      took = subst (λ (m : ℕ). TookField b (Octets m) (take k (take c D) ++ get_or (take c D) k 0 ∷ []) new) (sym size)
          (subst (λ (x : List ℕ). TookField b (Octets (k + 1)) x new) (sym all) f);
    })))
