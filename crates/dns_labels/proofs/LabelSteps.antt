-- The steps of the reader of a label's text.
use Rattle.std.proofs.lemmas.{List.append-nil, List.append_cancel_left, List.get_or-drop, List.drop_more, List.take-append-drop, Grind.common_steps}
use Rattle.std.proofs.{Common.length-append, Common.length-drop, Math.Seq.take-add}
use Rattle.std.proofs.Common.{◌≡◌, ◌≢◌, ℕ, ◌+◌, ◌<◌, ◌≤◌, List, [], ◌∷◌, ◌++◌, length, take, drop, get_or, refl, sym, ◌∙◌, ap, append_assoc, arith}
use Rattle.dns_labels.specs.Text.{OctetText, LabelText, IsLabelEnd, AddsOctets, LabelText.no_octet, LabelText.octet}
use Rattle.dns_labels.specs.TextFaults.{GoesOn}
use Rattle.dns_labels.proofs.Octets.{cut_off}

-- octets of a label that are still to be read
pub record LabelLeft (label front text rest : List ℕ) : Type 0 where
  pub others : List ℕ
  pub others_text : List ℕ
  pub joined : label ≡ front ++ others
  pub reads : LabelText others others_text
  pub stands : text ≡ others_text ++ rest

pub record LabelSoFar (text : List ℕ) (at : ℕ) (old new : List ℕ) : Type 0 where
  pub front : List ℕ
  pub octets : new ≡ old ++ front
  pub within : at ≤ length text
  pub sound : (label t : List ℕ) → LabelText label t → LabelText (front ++ label) (take at text ++ t)
  pub complete : (label t rest : List ℕ) → LabelText label t → text ≡ t ++ rest → IsLabelEnd rest → LabelLeft label front (drop at text) rest

-- no octet's text begins another's
pub one_octet : (m n : ℕ) (s t a b : List ℕ) → OctetText m s → OctetText n t → s ++ a ≡ t ++ b → (m ≡ n) × (s ≡ t)
one_octet m n s t a b h k e = grind (arith, common_steps)

pub label_done : {text : List ℕ} {at : ℕ} {old new : List ℕ} → LabelSoFar text at old new → IsLabelEnd (drop at text) → AddsOctets text at old new
label_done {text} {at} s end =
    let r = s.sound [] [] no_octet in
    record { label = s.front; reads = rw (append-nil s.front, append-nil (take at text)) at r; within = s.within; ends = end; octets = s.octets }

pub at_dot : (text : List ℕ) (at : ℕ) → at < length text → get_or text at 0 ≡ 46 → IsLabelEnd (drop at text)
at_dot text at h e = rw (drop_more text at 0 h) e

-- a label's octets, of which one is next in the text
record NextOctet (others text rest : List ℕ) : Type 0 where
  n : ℕ
  label : List ℕ
  front : List ℕ
  back : List ℕ
  joined : others ≡ n ∷ label
  octet_reads : OctetText n front
  reads : LabelText label back
  stands : text ≡ front ++ (back ++ rest)

module _ {text : List ℕ} {at : ℕ} {old new : List ℕ} (s : LabelSoFar text at old new) (h : at < length text) (ne : get_or text at 0 ≢ 46) where
  not_ended : (rest : List ℕ) → drop at text ≡ rest → IsLabelEnd rest → ⊥
  not_ended [] e end = omega (arith, ap length e, length-drop at text)
  not_ended (c ∷ rest) e end =
      let first : get_or text at 0 ≡ c = ap (λ (i : ℕ). get_or text i 0) (omega arith) ∙ sym (get_or-drop at text 0 0) ∙ ap (λ (x : List ℕ). get_or x 0 0) e in
      ne (first ∙ end)

  next_octet : {others others_text rest : List ℕ} → LabelText others others_text → drop at text ≡ others_text ++ rest → IsLabelEnd rest
      → NextOctet others (drop at text) rest
  next_octet {rest} no_octet e end = absurd (not_ended rest e end)
  next_octet {rest} (octet {n = n} {label = label} f r ot lt w) e end = record {
    n = n;
    label = label;
    front = f;
    back = r;
    joined = refl;
    octet_reads = ot;
    reads = lt;
    stands = e ∙ ap (λ (x : List ℕ). x ++ rest) w ∙ append_assoc f r rest;
  }

  pub label_refused : ((n : ℕ) (t r : List ℕ) → OctetText n t → drop at text ≡ t ++ r → ⊥) → (label t rest : List ℕ) → LabelText label t → text ≡ t ++ rest
      → IsLabelEnd rest → ⊥
  label_refused none label t rest lt e end =
      let k = s.complete label t rest lt e end in
      let x = next_octet k.reads k.stands end in
      none x.n x.front (x.back ++ rest) x.octet_reads x.stands

  -- the label has more octets than were read
  pub label_full : (label t rest : List ℕ) → LabelText label t → text ≡ t ++ rest → IsLabelEnd rest → length new < length old + length label
  label_full label t rest lt e end =
      let k = s.complete label t rest lt e end in
      let x = next_octet k.reads k.stands end in
      omega (arith, ap length k.joined, length-append s.front k.others, ap length x.joined, ap length s.octets, length-append old s.front)

  pub label_more : (taken n : ℕ) → taken ≤ length (drop at text) → OctetText n (take taken (drop at text)) → LabelSoFar text (at + taken) old (new ++ n ∷ [])
  label_more taken n fits ot =
      let part = take taken (drop at text) in
      let more = drop (at + taken) text in
      let split : drop at text ≡ part ++ more = cut_off text at taken refl in
      record {
        front = s.front ++ n ∷ [];
        octets = ap (λ (x : List ℕ). x ++ n ∷ []) s.octets ∙ append_assoc old s.front (n ∷ []);
        within = omega (arith, s.within, length-drop at text);
        sound = λ label u lt.
            let r = s.sound (n ∷ label) (part ++ u) (octet part u ot lt refl) in
            rw (append_assoc s.front (n ∷ []) label, take-add at taken text, append_assoc (take at text) part u) r;
        complete = λ label u rest lt e end.
            let k = s.complete label u rest lt e end in
            let x = next_octet k.reads k.stands end in
            let d : part ++ more ≡ x.front ++ (x.back ++ rest) = sym split ∙ x.stands in
            let one = one_octet n x.n part x.front more (x.back ++ rest) ot x.octet_reads d in
            record {
              others = x.label;
              others_text = x.back;
              joined = k.joined ∙ ap (λ (l : List ℕ). s.front ++ l) (x.joined ∙ ap (λ (m : ℕ). m ∷ x.label) (sym one.0))
                  ∙ sym (append_assoc s.front (n ∷ []) x.label);
              reads = x.reads;
              stands = append_cancel_left part more (x.back ++ rest) (d ∙ ap (λ (l : List ℕ). l ++ (x.back ++ rest)) (sym one.1));
            };
      }

  -- the label goes on where no more octets are read
  pub goes_on : {size : ℕ} → length old ≡ size + 1 → length new ≤ length old + 63 → length new ≤ 254 → GoesOn size text s.front (drop at text)
  goes_on {size} begun short room =
      let long : length new ≡ length old + length s.front = ap length s.octets ∙ length-append old s.front in
      let r = s.sound [] [] no_octet in
      record {
        front = take at text;
        split = sym (take-append-drop at text);
        reads = rw (append-nil s.front, append-nil (take at text)) at r;
        short = omega (arith, long);
        room = omega (arith, long, begun);
        on = not_ended (drop at text) refl;
      }

pub front_long : {text : List ℕ} {at : ℕ} {old new : List ℕ} (s : LabelSoFar text at old new) → length new ≡ length old + length s.front
front_long {old} s = ap length s.octets ∙ length-append old s.front

pub label_none : {text old : List ℕ} → LabelSoFar text 0 old old
label_none {old} = record {
  front = [];
  octets = sym (append-nil old);
  within = omega arith;
  sound = λ label t lt. lt;
  complete = λ label t rest lt e end. record { others = label; others_text = t; joined = refl; reads = lt; stands = e };
}
