-- The steps of the reader of a name's text.
use Rattle.std.proofs.lemmas.List.{append-nil, append_cancel_left, drop-drop, drop_all, drop_more, take-append-drop}
use Rattle.std.proofs.{Common.append_assoc, Common.arith, Common.length-append, Common.length-drop, Math.Seq.set-append_seam}
use Rattle.std.proofs.Common.{◌≡◌, ◌≢◌, ℕ, ◌+◌, ◌-◌, ◌<◌, ◌≤◌, Bool, true, false, List, [], ◌∷◌, ◌++◌, length, take, drop, get_or, refl, sym, ◌∙◌, ap, subst}
use Rattle.std.specs.Prelude.{slice_set}
use Rattle.dns_fields.specs.Labels.{DomainName, IsLabel, AreLabels, wire, FitsName}
use Rattle.dns_fields.proofs.Runs.{wire-append, AreLabels-append}
use Rattle.dns_labels.specs.Text.{LabelText, LabelsText, MarkedText, IsNameText, IsLabelEnd, AddsOctets, AddsLabel}
use Rattle.dns_labels.specs.{Text.MarkedText.root, Text.MarkedText.nothing, Text.MarkedText.labelled, Labels.AreNameOctets, Labels.labels_of, Labels.name_of}
use Rattle.dns_labels.specs.Text.LabelText.{no_octet, octet}
use Rattle.dns_labels.specs.TextFaults.{ReadsUpTo, ReadsUpTo.begin}
use Rattle.dns_labels.specs.Text.LabelsText.{last, dotted, joined}
use Rattle.dns_labels.proofs.{Octets.cut_off, Octets.wire_length, Octets.second_is, Octets.labels_from, Octets.are_name_octets, NameTexts.BackText.at_dot}
use Rattle.dns_labels.proofs.NameTexts.{one_label, first_text, BackText, back_ends, BackText.further}

-- the length octet is written in front of the label
pub label_set : {text : List ℕ} {taken : ℕ} {old begun new : List ℕ} {start count : ℕ} → begun ≡ old ++ 0 ∷ [] → AddsOctets text taken begun new
    → start ≡ length old → count ≡ length new - start - 1 → 1 ≤ count → length new ≤ length begun + 63 → AddsLabel text taken old (slice_set new start count)
label_set {old} {begun} {new} {start} {count} b a s n some few =
    let e : new ≡ old ++ 0 ∷ a.label = a.octets ∙ ap (λ (x : List ℕ). x ++ a.label) b ∙ append_assoc old (0 ∷ []) a.label in
    let size : length new ≡ length old + (length a.label + 1) = ap length e ∙ length-append old (0 ∷ a.label) ∙ omega arith in
    let k : count ≡ length a.label = omega arith in
    let f : slice_set new start count ≡ old ++ length a.label ∷ a.label = ap (λ (x : List ℕ). slice_set x start count) e
    ∙ ap (λ (i : ℕ). slice_set (old ++ 0 ∷ a.label) i count) s ∙ ap (λ (i : ℕ). slice_set (old ++ 0 ∷ a.label) (length old) i) k
    ∙ set-append_seam old 0 a.label (length a.label) in
    record {
      label = a.label;
      is_label = (omega arith, omega (arith, ap length b, length-append old (0 ∷ [])));
      reads = a.reads;
      within = a.within;
      ends =
          a.ends;
      octets = f;
    }

-- a label without octets was read, so no label stands there
pub label_empty : (old rest : List ℕ) {text : List ℕ} {taken : ℕ} {begun new : List ℕ} {start count : ℕ} → begun ≡ old ++ 0 ∷ []
    → AddsOctets text taken begun new
    → start ≡ length old → count ≡ length new - start - 1 → count ≡ 0 → {label t : List ℕ} → LabelText label t → text ≡ t ++ rest → IsLabelEnd rest
    → IsLabel label → ⊥
label_empty old rest {text} {taken} {begun} b a s n none {label} {t} lt e end is =
    let u = one_label (drop taken text) rest a.reads lt (take-append-drop taken text ∙ e) a.ends end in
    let u0 : a.label ≡ label = u.0 in
    omega (arith, ap length a.octets, length-append begun a.label, ap length b, length-append old (0 ∷ []), ap length u0, is.0)

no_text : {label t : List ℕ} → LabelText label t → length label ≡ 0 → t ≡ []
no_text no_octet h = refl
no_text (octet f r ot lt w) h = absurd (omega arith)

-- and its text ends at once
pub empty_ends : {text : List ℕ} {taken : ℕ} {begun new : List ℕ} → AddsOctets text taken begun new → length new ≤ length begun → IsLabelEnd text
empty_ends {text} {taken} {begun} a few =
    let none : take taken text ≡ [] = no_text a.reads (omega (arith, ap length a.octets, length-append begun a.label)) in
    subst IsLabelEnd (ap (λ (t : List ℕ). t ++ drop taken text) (sym none) ∙ take-append-drop taken text) a.ends

pub reads_begun : {text octets : List ℕ} → octets ≡ [] → ReadsUpTo text 0 octets
reads_begun {text} e = subst (λ (o : List ℕ). ReadsUpTo text 0 o) (sym e) begin

-- labels of which the first were read
pub record NameLeft (labels : List (List ℕ)) (mark : Bool) (front : List (List ℕ)) (text : List ℕ) : Type 0 where
  pub rest : List (List ℕ)
  pub joined : labels ≡ front ++ rest
  pub reads : LabelsText rest mark text

pub record NameSoFar (text : List ℕ) (at : ℕ) (octets : List ℕ) : Type 0 where
  pub front : List (List ℕ)
  pub are : AreLabels front
  pub same : octets ≡ wire front
  pub within : at ≤ length text
  pub room : length octets ≤ 254
  pub sound : (rest : List (List ℕ)) (mark : Bool) → LabelsText rest mark (drop at text) → LabelsText (front ++ rest) mark text
  pub complete : (labels : List (List ℕ)) (mark : Bool) → AreLabels labels → LabelsText labels mark text → NameLeft labels mark front (drop at text)

pub name_none : {text octets : List ℕ} → octets ≡ [] → NameSoFar text 0 octets
name_none e = record {
  front = [];
  are = tt;
  same = e;
  within = omega arith;
  room = omega (arith, ap length e);
  sound = λ rest mark ls. ls;
  complete = λ labels mark are ls. record { rest = labels; joined = refl; reads = ls };
}

read_as : {text octets : List ℕ} {mark : Bool} (labels : List (List ℕ)) → AreLabels labels → octets ≡ wire labels → length octets ≤ 254
    → MarkedText labels mark text → AreNameOctets octets × IsNameText (name_of octets mark) text
read_as {octets} labels are same room m =
    let fits : FitsName labels = omega (arith, ap length same) in
    let l : labels_of octets ≡ labels = labels_from octets labels same in
    (are_name_octets octets labels are fits same, record { is_name = record { labels = rw l are; fits = rw l fits }; reads = rw l m })

-- no text or a dot alone
pub reads_nothing : {text octets : List ℕ} → octets ≡ [] → length text ≡ 0 → AreNameOctets octets × IsNameText (name_of octets false) text
reads_nothing {text} e n =
    let none : text ≡ [] = drop_all 0 text (omega arith) in
    read_as [] tt e (omega (arith, ap length e)) (rw none nothing)

pub reads_root : {text octets : List ℕ} → octets ≡ [] → length text ≡ 1 → get_or text 0 0 ≡ 46 → AreNameOctets octets × IsNameText (name_of octets true) text
reads_root {text} e n d =
    let dot : text ≡ 46 ∷ [] =
    drop_more text 0 0 (omega arith) ∙ ap (λ (c : ℕ). c ∷ drop 1 text) d ∙ ap (λ (x : List ℕ). 46 ∷ x) (drop_all 1 text (omega arith)) in
    read_as [] tt e (omega (arith, ap length e)) (rw dot root)

next_left : {label part more text : List ℕ} {labels rest : List (List ℕ)} {mark : Bool} (front : List (List ℕ)) → LabelText label part
    → text ≡ part ++ 46 ∷ more → 1 ≤ length more → labels ≡ front ++ rest → LabelsText rest mark text → NameLeft labels mark (front ++ label ∷ []) more
next_left {label} {part} {more} {labels} front lt e some j ls =
    let f = first_text ls in
    let z : part ++ 46 ∷ more ≡ f.front ++ f.back = sym e ∙ f.stands in
    let u = one_label (46 ∷ more) f.back lt f.reads z refl (back_ends f.behind) in
    let back : f.back ≡ 46 ∷ more = sym (append_cancel_left part (46 ∷ more) f.back (z ∙ ap (λ (i : List ℕ). i ++ f.back) (sym u.1))) in
    let split : labels ≡ (front ++ label ∷ []) ++ f.others = j ∙ ap (λ (l : List (List ℕ)). front ++ l) (f.split ∙ ap (λ (l : List ℕ). l ∷ f.others) (sym u.0))
    ∙ sym (append_assoc front (label ∷ []) f.others) in
    record { rest = f.others; joined = split; reads = behind_dot (rw back at f.behind) some }
  where
    behind_dot : {others : List (List ℕ)} {m : Bool} {b : List ℕ} → BackText others m (46 ∷ b) → 1 ≤ length b → LabelsText others m b
    behind_dot at_dot h = absurd (omega arith)
    behind_dot (further ls) h = ls

module _ {text : List ℕ} {at taken : ℕ} {old new : List ℕ} (s : NameSoFar text at old) (a : AddsLabel (drop at text) taken old new) where
  labels_are : AreLabels (s.front ++ a.label ∷ [])
  labels_are = AreLabels-append s.front (a.label ∷ []) s.are (a.is_label, tt)

  octets_are : new ≡ wire (s.front ++ a.label ∷ [])
  octets_are = a.octets ∙ sym (wire-append s.front (a.label ∷ []) ∙ rw (← s.same, append-nil a.label) refl)

  parts : drop at text ≡ take taken (drop at text) ++ drop (at + taken) text
  parts = cut_off text at taken refl

  last_read : {mark : Bool} → length new ≤ 254 → LabelsText (a.label ∷ []) mark (drop at text) → AreNameOctets new × IsNameText (name_of new mark) text
  last_read {mark} room ls = read_as (s.front ++ a.label ∷ []) labels_are octets_are room (labelled (s.sound (a.label ∷ []) mark ls))

  -- the last label ends the text
  pub name_ends : length new ≤ 254 → at + taken ≡ length text → AreNameOctets new × IsNameText (name_of new false) text
  name_ends room done =
      let whole : take taken (drop at text) ≡ drop at text = sym (parts ∙ ap (λ (x : List ℕ). take taken (drop at text) ++ x)
      (drop_all (at + taken) text (omega arith)) ∙ append-nil (take taken (drop at text))) in
      last_read room (last (rw whole at a.reads))

  dot_next : at + taken < length text → drop at text ≡ take taken (drop at text) ++ 46 ∷ drop (at + taken + 1) text
  dot_next more =
      let d : drop (at + taken) text ≡ get_or text (at + taken) 0 ∷ drop (at + taken + 1) text = drop_more text (at + taken) 0 more in
      let dot : get_or text (at + taken) 0 ≡ 46 = subst IsLabelEnd (drop-drop taken at text ∙ d) a.ends in
      parts ∙ ap (λ (x : List ℕ). take taken (drop at text) ++ x) (d ∙ ap (λ (c : ℕ). c ∷ drop (at + taken + 1) text) dot)

  -- a dot behind the last label ends the text
  pub name_dotted : length new ≤ 254 → at + taken < length text → at + taken + 1 ≡ length text → AreNameOctets new × IsNameText (name_of new true) text
  name_dotted room more done = last_read room (dotted (take taken (drop at text)) a.reads
      (dot_next more ∙ ap (λ (x : List ℕ). take taken (drop at text) ++ 46 ∷ x) (drop_all (at + taken + 1) text (omega arith))))

  -- a further label stands behind a dot
  pub name_more : length new ≤ 254 → at + taken + 1 < length text → NameSoFar text (at + taken + 1) new
  name_more room more = record {
    front = s.front ++ a.label ∷ [];
    are = labels_are;
    same = octets_are;
    within = omega arith;
    room = room;
    sound = λ rest mark ls. subst (λ (x : List (List ℕ)). LabelsText x mark text) (sym (append_assoc s.front (a.label ∷ []) rest))
        (s.sound (a.label ∷ rest) mark (joined (take taken (drop at text)) (drop (at + taken + 1) text) a.reads ls (dot_next (omega arith))));
    complete = λ labels mark are ls.
        let k = s.complete labels mark are ls in
        next_left s.front a.reads (dot_next (omega arith)) (omega (arith, length-drop (at + taken + 1) text)) k.joined k.reads;
  }

-- a text of labels, if it is neither empty nor a dot
marked_labels : {labels : List (List ℕ)} {mark : Bool} {text : List ℕ} → 1 ≤ length text → (length text ≡ 1 → get_or text 0 0 ≢ 46)
    → MarkedText labels mark text → LabelsText labels mark text
marked_labels some no_dot root = absurd (no_dot refl refl)
marked_labels some no_dot nothing = absurd (omega arith)
marked_labels some no_dot (labelled ls) = ls

-- no label stands there, so the text is that of no name
pub name_refused : {text : List ℕ} {at : ℕ} {octets : List ℕ} → NameSoFar text at octets → 1 ≤ length text → (length text ≡ 1 → get_or text 0 0 ≢ 46)
    → ((label t rest : List ℕ) → LabelText label t → drop at text ≡ t ++ rest → IsLabelEnd rest → IsLabel label → length octets + (1 + length label) ≤ 254
    → ⊥) → (name : DomainName) → IsNameText name text → ⊥
name_refused s some no_dot none name n =
    let k = s.complete name.labels name.fully_qualified n.is_name.labels (marked_labels some no_dot n.reads) in
    let f = first_text k.reads in
    let j : name.labels ≡ s.front ++ (f.label ∷ f.others) = k.joined ∙ ap (λ (x : List (List ℕ)). s.front ++ x) f.split in
    none f.label f.front f.back f.reads f.stands (back_ends f.behind) (second_is s.front f.label f.others (subst AreLabels j n.is_name.labels))
    (omega (arith, n.is_name.fits, ap length s.same, wire_length s.front (f.label ∷ f.others) j, length-append f.label (wire f.others)))
