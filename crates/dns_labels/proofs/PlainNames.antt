-- The steps of the reader of a name without escapes, whose text is copied before its labels are looked at.
use Rattle.std.proofs.Common.{◌≡◌, ℕ, ◌+◌, ◌-◌, ◌<◌, ◌≤◌, true, false, List, [], ◌∷◌, ◌++◌, length, take, drop, get_or, refl, sym, ◌∙◌, ap, subst, append_assoc, arith}
use Rattle.std.proofs.{Common.length-append, Common.length-drop, Math.Seq.set-append_seam}
use Rattle.std.proofs.lemmas.List.{append-nil, drop_all, drop_more, take_at}
use Rattle.std.specs.Prelude.{slice_set}
use Rattle.dns_labels.specs.{Text.LabelText, Text.AddsOctets, Text.AddsLabel, Text.IsNameText, Labels.AreNameOctets, Labels.name_of}
use Rattle.dns_labels.proofs.NameSteps.{NameSoFar, name_none, name_ends, name_dotted, name_more}
use Rattle.dns_labels.proofs.Octets.{cut_off}

-- the labels before an offset of the text were read; an octet for the length of the next one and the rest of the text follow them
pub record PlainSoFar (text : List ℕ) (at : ℕ) (octets : List ℕ) : Type 0 where
  pub old : List ℕ
  pub place : ℕ
  pub is : octets ≡ old ++ place ∷ drop at text
  pub size : length old ≡ at
  pub read : NameSoFar text at old

-- a label whose length was put before it
record Placed (text : List ℕ) (at count : ℕ) (old octets : List ℕ) : Type 0 where
  new : List ℕ
  adds : AddsLabel (drop at text) count old new
  is : octets ≡ new ++ drop (at + count) text
  size : length new ≡ at + count + 1

placed : {text before octets label : List ℕ} {at count : ℕ} (s : PlainSoFar text at before) → label ≡ take (length label) (drop at text)
    → ((old : List ℕ) → AddsOctets (drop at text) (length label) old (old ++ label)) → count ≡ length label → 1 ≤ count → count ≤ 63
    → octets ≡ slice_set before at count → Placed text at count s.old octets
placed {text} {before} {octets} {label} {at} {count} s front adds size some few set =
    let a = adds [] in
    let same : label ≡ a.label = a.octets in
    let rest = drop (at + count) text in
    let old = s.old in
    let body : drop at text ≡ label ++ rest = cut_off text at count (ap (λ (n : ℕ). take n (drop at text)) size ∙ sym front) in
    let put : octets ≡ old ++ count ∷ drop at text = set ∙ ap (λ (o : List ℕ). slice_set o at count) s.is
    ∙ ap (λ (i : ℕ). slice_set (old ++ s.place ∷ drop at text) i count) (sym s.size) ∙ set-append_seam old s.place (drop at text) count in
    record {
      new = old ++ count ∷ label;
      adds = record {
        label = label;
        is_label = (omega (arith, size, some), omega (arith, size, few));
        reads = subst (λ (l : List ℕ). LabelText l (take count (drop at text))) (sym same) (rw size a.reads);
        within = omega (arith, size, a.within);
        ends = rw size a.ends;
        octets = ap (λ (n : ℕ). old ++ n ∷ label) size;
      };
      is = put ∙ ap (λ (o : List ℕ). old ++ count ∷ o) body ∙ sym (append_assoc old (count ∷ label) rest);
      size = omega (arith, length-append old (count ∷ label), s.size, size);
    }

module _ {text before octets label : List ℕ} {at count : ℕ} (s : PlainSoFar text at before) (front : label ≡ take (length label) (drop at text))
    (adds : (old : List ℕ) → AddsOctets (drop at text) (length label) old (old ++ label)) (size : count ≡ length label) (some : 1 ≤ count) (few : count ≤ 63)
    (set : octets ≡ slice_set before at count) (short : length text < 254) where
  -- the label ends the text
  pub plain_ends : at + count ≡ length text → AreNameOctets octets × IsNameText (name_of octets false) text
  plain_ends done =
      let w = placed s front adds size some few set in
      let all : octets ≡ w.new = w.is ∙ ap (λ (o : List ℕ). w.new ++ o) (drop_all (at + count) text (omega (arith, done))) ∙ append-nil w.new in
      rw all (name_ends s.read w.adds (omega (arith, w.size, done, short)) done)

  -- a dot after the label ends the text, and its octet is taken away
  pub plain_dotted : (last : List ℕ) → at + count < length text → at + count + 1 ≡ length text → last ≡ take (length octets - 1) octets
      → AreNameOctets last × IsNameText (name_of last true) text
  plain_dotted last more done cut =
      let w = placed s front adds size some few set in
      let long : length octets - 1 ≡ length w.new =
      omega (arith, ap length w.is, length-append w.new (drop (at + count) text), length-drop (at + count) text, done) in
      let all : last ≡ w.new = cut ∙ ap (λ (n : ℕ). take n octets) long ∙ ap (λ (o : List ℕ). take (length w.new) o) w.is
      ∙ take_at w.new (drop (at + count) text) (length w.new) refl in
      rw all (name_dotted s.read w.adds (omega (arith, w.size, done, short)) more done)

  -- another label follows the dot
  pub plain_more : at + count + 1 < length text → PlainSoFar text (at + count + 1) octets
  plain_more more =
      let w = placed s front adds size some few set in record {
        old = w.new;
        place = get_or text (at + count) 0;
        is = w.is ∙ ap (λ (o : List ℕ). w.new ++ o) (drop_more text (at + count) 0 (omega (arith, more)));
        size = w.size;
        read = name_more s.read w.adds (omega (arith, w.size, more, short)) more;
      }
