-- Character strings, read, written and given one after the other.
use Rattle.std.proofs.lemmas.List.{append-nil, length-append, drop_more, take-append-drop, Concat.flat_map-cons}
use Rattle.std.proofs.{Common.subst, Common.nat_le, Common.false, lemmas.Grind.flat_map-append, Math.Bool.and-false}
use Rattle.std.proofs.Common.{◌≡◌, ℕ, suc, min, ◌+◌, ◌-◌, ◌≤◌, ◌<◌, append_assoc, List, [], ◌∷◌, ◌++◌, length, take, drop, get_or, drop-cons, refl, sym, ap, ◌∙◌, arith}
use Rattle.std.specs.List.{flat_map, AllByRecursion, list_all}
use Rattle.dns_types.specs.declared.error.ProtoError.{ProtoError}
use Rattle.dns_fields.specs.{declared.Kind.TheVariants.CharacterString, declared.Kind.TheVariants.CharacterStrings, Fields.Field, Fields.Values, Fields.field_octets}
use Rattle.dns_fields.specs.{Tlvs.string, Octets.At}
use Rattle.dns_names_wire.specs.Terms.{TookField, StringsReach, AppendedField, StoppedField, NoRoomField, UnfitField}
use Rattle.dns_names_wire.specs.State.{Reading, Writing}
use Rattle.dns_names_wire.proofs.{Strings.at_rest, FieldWrites.extends_then, FieldWrites.because_map}
use Rattle.dns_rows.specs.declared.row.TheConstants as rows
use Rattle.dns_check.specs.ByRow.{RowThere}
use Rattle.dns_check.proofs.{Alone.between_is, Alone.strings_alone, Strings.next_string}
use Rattle.dns_rdata_base.specs.{Steps.texts_left, TXT.txt_fields, TXT.txt_shape, declared.txt.TXT.TXT}
use Rattle.dns_canonical.specs.Steps.{StepAt}

pub joined : (xs : List (List ℕ)) (s : List ℕ) (ys : List (List ℕ))
    → flat_map string (xs ++ s ∷ ys) ≡ flat_map string xs ++ (string s ++ flat_map string ys)
joined xs s ys = flat_map-append string xs (s ∷ ys) ∙ ap (λ (t : List ℕ). flat_map string xs ++ t) (flat_map-cons string s ys)

-- none is at the end
no_text : (m : List ℕ) (q e : ℕ) (vs : List (List ℕ)) → e ≤ q → Field m q CharacterStrings vs e → vs ≡ []
no_text m q e [] past f = refl
no_text m q e (s ∷ ws) past f =
    let whole : At m q (string s ++ flat_map string ws) e = rw (← flat_map-cons string s ws) f.is.1 in
    absurd (omega (arith, whole.ends, length-append (string s) (flat_map string ws), past))

-- what is left of any strings that fill the octets, after those that were made
pub record Made (octets : List ℕ) (offset : ℕ) (xs : List (List ℕ)) : Type 0 where
  pub inside : offset ≤ length octets
  pub rest : (v : List (List ℕ)) → Field octets 0 CharacterStrings v (length octets)
      → (ws : List (List ℕ)) × (v ≡ xs ++ ws) × Field octets offset CharacterStrings ws (length octets)

pub made_none : (octets : List ℕ) → Made octets 0 []
made_none octets = record { inside = omega arith; rest = λ v f. (v, refl, f) }

-- the length octet of a string
first_octet : {m : List ℕ} {q r : ℕ} {s : List ℕ} → q < length m → Field m q CharacterString s r → get_or m q 0 ≡ length s
first_octet {m} {q} {r} {s} lt f =
    let whole : take (suc (length s)) (get_or m q 0 ∷ drop (suc q) m) ≡ length s ∷ s =
    ap (λ (d : List ℕ). take (suc (length s)) d) (sym (drop-cons m q 0 lt)) ∙ f.is.1.same in
    cc

-- one string more
pub made_more : {octets text : List ℕ} {offset end : ℕ} {xs ys : List (List ℕ)} → Made octets offset xs → offset < length octets
    → end ≡ min (length octets) (offset + 1 + get_or octets offset 0) → text ≡ take (end - (offset + 1)) (drop (offset + 1) octets) → ys ≡ xs ++ text ∷ []
    → Made octets end ys
made_more {octets} {text} {offset} {end} {xs} {ys} m lt is taken pushed = record {
  inside = omega (arith, is);
  rest = λ v f.
      let r = m.rest v f in
      let x = next_string octets offset (length octets) r.0 lt r.2 in
      let s = x.0 in
      let after : At octets (offset + 1) s (offset + length (string s)) = at_rest (length s ∷ []) s x.2.is.1 in
      let there : end ≡ offset + length (string s) = omega (arith, is, first_octet lt x.2, after.within) in
      let same : text ≡ s = taken ∙ ap (λ (q : ℕ). take (q - (offset + 1)) (drop (offset + 1) octets)) there ∙ between_is after in (
        x.1,
        r.1 ∙ ap (λ (l : List (List ℕ)). xs ++ l) (x.4 ∙ ap (λ (t : List ℕ). t ∷ x.1) (sym same)) ∙ sym (append_assoc xs (text ∷ []) x.1)
            ∙ ap (λ (l : List (List ℕ)). l ++ x.1) (sym pushed),
        subst (λ (q : ℕ). Field octets q CharacterStrings x.1 (length octets)) (sym there) x.3,
      );
}

-- all of them
pub made_all : {octets : List ℕ} {offset : ℕ} {xs : List (List ℕ)} → Made octets offset xs → length octets ≤ offset → (v : List (List ℕ))
    → Field octets 0 CharacterStrings v (length octets) → xs ≡ v
made_all {octets} {offset} {xs} m past v f =
    let r = m.rest v f in
    let none : r.0 ≡ [] = no_text octets offset (length octets) r.0 past r.2 in
    sym (r.1 ∙ ap (λ (l : List (List ℕ)). xs ++ l) none ∙ append-nil xs)

-- the strings of the octets of a row
pub txt_row : {octets : List ℕ} {x : TXT} {n : ℕ} {old new : Reading} (h : RowThere rows.TXT n old new)
    → octets ≡ take (new.index - old.index) (drop old.index old.message)
    → ((v : List (List ℕ)) → Field octets 0 CharacterStrings v (length octets) → x.txt_data ≡ v) → txt_fields x ≡ h.took.fields.values
txt_row {old = old} {new} h slice made =
    let s = h.took.fields.stands in
    let v = h.took.fields.values.0 in
    let f : Field old.message old.index CharacterStrings v new.index = subst (λ (q : ℕ). Field old.message old.index CharacterStrings v q) s.2 s.1 in
    ap (λ (l : List (List ℕ)). (l, tt)) (made v (strings_alone v slice f))

pub txt_after : {x : TXT} {n : ℕ} {old new : Reading} (h : RowThere rows.TXT n old new) → txt_fields x ≡ h.took.fields.values
    → TookField old CharacterStrings x.txt_data new × StringsReach (old.index + n) x.txt_data new.index
txt_after {x} {n} {old} {new} h same =
    let s = h.took.fields.stands in
    let v = h.took.fields.values.0 in
    let one : v ≡ x.txt_data = ap (λ (vs : Values txt_shape). vs.0) (sym same) in (
      record {
        message = h.took.behind.message;
        field = subst (λ (l : List (List ℕ)). Field old.message old.index CharacterStrings l new.index) one
            (subst (λ (q : ℕ). Field old.message old.index CharacterStrings v q) s.2 s.1);
      },
      subst (λ (l : List (List ℕ)). StringsReach (old.index + n) l new.index) one h.took.reached,
    )

-- ---- strings that are written one after the other

long_inner : (xs : List (List ℕ)) (s : List ℕ) (ys : List (List ℕ)) → nat_le (length s) 255 ≡ false
    → list_all (λ s. nat_le (length s) 255) (xs ++ s ∷ ys) ≡ false
long_inner [] s ys e = rw e refl
long_inner (x ∷ xs) s ys e = rw (long_inner xs s ys e) (and-false (nat_le (length x) 255))

-- a string is refused behind others
pub stopped_strings : {e : ProtoError} {w b n : Writing} (xs : List (List ℕ)) (s : List ℕ) (ys : List (List ℕ)) → AppendedField w CharacterStrings xs b
    → StoppedField e b CharacterString s n → StoppedField e w CharacterStrings (xs ++ s ∷ ys) n
unfolding field_octets
stopped_strings {e} {w} {b} {n} xs s ys f g = record {
  extends = extends_then f g.extends;
  why = because_map e _ _ _ _ (λ (r : NoRoomField b CharacterString s). record { full = full r.full })
      (λ (u : UnfitField CharacterString s). record { unfit = long_inner xs s ys u.unfit }) g.why;
}
  where
    full : b.limit < length b.octets + length (string s) → w.limit < length w.octets + length (flat_map string (xs ++ s ∷ ys))
    full r =
        let before = ap length f.field.is.1 ∙ length-append w.octets (flat_map string xs) in
        let whole = ap length (joined xs s ys) ∙ length-append (flat_map string xs) (string s ++ flat_map string ys) in
        omega (arith, r, f.keeps.limit, before, whole, length-append (string s) (flat_map string ys))

-- a list, taken apart at one of its indices
pub list_at : (i : ℕ) (xs : List (List ℕ)) (x : List ℕ) → x ≡ get_or xs i x → i < length xs → take i xs ++ x ∷ drop (i + 1) xs ≡ xs
list_at i xs x is lt = ap (λ (y : List ℕ). take i xs ++ y ∷ drop (i + 1) xs) is
    ∙ ap (λ (t : List (List ℕ)). take i xs ++ t) (sym (drop_more xs i x lt))
    ∙ take-append-drop i xs

-- ---- strings that are given one after the other

pub text_given : (ss : List (List ℕ)) (i j : ℕ) (s head tail : List ℕ) → i < length ss → s ≡ get_or ss i s → head ++ tail ≡ field_octets CharacterString s
    → StepAt (texts_left ss) 0 i j head (record { tail = tail; step = 0; part = i + 1; item = 0 })
unfolding field_octets
text_given ss i j s head tail h e r =
    let m : flat_map string (drop i ss) ≡ string s ++ flat_map string (drop (i + 1) ss) =
    ap (flat_map string) (drop_more ss i s h ∙ ap (λ (x : List ℕ). x ∷ drop (i + 1) ss) (sym e)) in
    record {
      octets = m ∙ ap (λ (x : List ℕ). x ++ flat_map string (drop (i + 1) ss)) (sym r);
      after = omega arith;
      more = omega (arith, ap length r);
      few = omega arith;
    }
