-- A text is that of one name, and what is printed of a name is a text of it.
use Rattle.std.proofs.Common.{◌≡◌, ℕ, zero, suc, ◌<◌, ◌≤◌, Bool, true, false, List, [], ◌∷◌, ◌++◌, All, length, take, drop, refl, sym, ◌∙◌, ap, subst, append_assoc, length-take-le, arith}
use Rattle.std.proofs.lemmas.List.{Elements.All-head, Elements.All-tail, append-nil, append_cancel_left}
use Rattle.std.specs.Prelude.{flat_map, if◌then◌else◌}
use Rattle.dns_fields.proofs.OctetLaws.{AreOctets-take}
use Rattle.dns_fields.specs.{Labels.DomainName, Labels.AreLabels, Labels.IsName, Octets.AreOctets}
use Rattle.dns_labels.specs.Text.{OctetText, LabelText, LabelsText, MarkedText, IsNameText, IsLabelEnd, AddsOctets, HasOctets, printed, label_text, joined_text, name_text}
use Rattle.dns_labels.specs.Text.{MarkedText.root, MarkedText.nothing, MarkedText.labelled, LabelText.no_octet, LabelText.octet, OctetText.plain}
use Rattle.dns_labels.specs.Text.{LabelsText.last, LabelsText.dotted, LabelsText.joined, OctetText.decimal, OctetText.quoted}
use Rattle.dns_labels.proofs.{TextSteps.printed_text, LabelSteps.one_octet}
use Rattle.dns_fields.proofs.NameLaws.{made}

-- no label ends where an octet's text begins
octet_no_end : (n : ℕ) (f z : List ℕ) → OctetText n f → IsLabelEnd (f ++ z) → ⊥
octet_no_end n f z (plain g a b) e = a e
octet_no_end n f z (decimal h t o dh dt do' v low) e = absurd (omega arith)
octet_no_end n f z (quoted g k) e = absurd (omega arith)

label_no_end : {label front : List ℕ} (back : List ℕ) → LabelText label front → 1 ≤ length label → IsLabelEnd (front ++ back) → ⊥
label_no_end back no_octet h e = absurd (omega arith)
label_no_end back (octet {n = n} f r ot lt w) h e =
    octet_no_end n f (r ++ back) ot (subst IsLabelEnd (ap (λ (u : List ℕ). u ++ back) w ∙ append_assoc f r back) e)

-- up to its end a text is that of one label
pub one_label : {a b s t : List ℕ} (x y : List ℕ) → LabelText a s → LabelText b t → s ++ x ≡ t ++ y → IsLabelEnd x → IsLabelEnd y → (a ≡ b) × (s ≡ t)
one_label x y no_octet no_octet e ex ey = (refl, refl)
one_label x y no_octet (octet f r ot lt w) e ex ey = absurd (label_no_end y (octet f r ot lt w) (omega arith) (subst IsLabelEnd e ex))
one_label x y (octet f r ot lt w) no_octet e ex ey = absurd (label_no_end x (octet f r ot lt w) (omega arith) (subst IsLabelEnd (sym e) ey))
one_label x y (octet {n = n} {label = a} f r ot lt w) (octet {n = m} {label = b} g q pt kt v) e ex ey =
    let z : f ++ (r ++ x) ≡ g ++ (q ++ y) = sym (ap (λ (u : List ℕ). u ++ x) w ∙ append_assoc f r x) ∙ e ∙ ap (λ (u : List ℕ). u ++ y) v ∙ append_assoc g q y in
    let u = one_octet n m f g (r ++ x) (q ++ y) ot pt z in
    let u0 : n ≡ m = u.0 in
    let u1 : f ≡ g = u.1 in
    let rest : r ++ x ≡ q ++ y = append_cancel_left f (r ++ x) (q ++ y) (z ∙ ap (λ (i : List ℕ). i ++ (q ++ y)) (sym u1)) in
    let k = one_label x y lt kt rest ex ey in
    let k0 : a ≡ b = k.0 in
    let k1 : r ≡ q = k.1 in
    (cc, cc)

-- what may stand behind a label
pub data BackText : List (List ℕ) → Bool → List ℕ → Type 0 where
  at_end : BackText [] false []
  at_dot : BackText [] true (46 ∷ [])
  further : {others : List (List ℕ)} {mark : Bool} {rest : List ℕ} → LabelsText others mark rest → BackText others mark (46 ∷ rest)

-- the first label, and what is behind it
pub record FirstText (labels : List (List ℕ)) (mark : Bool) (text : List ℕ) : Type 0 where
  pub label : List ℕ
  pub others : List (List ℕ)
  pub front : List ℕ
  pub back : List ℕ
  pub split : labels ≡ label ∷ others
  pub reads : LabelText label front
  pub stands : text ≡ front ++ back
  pub behind : BackText others mark back

pub first_text : {labels : List (List ℕ)} {mark : Bool} {text : List ℕ} → LabelsText labels mark text → FirstText labels mark text
first_text (last {label = label} {text = text} lt) =
    record { label = label; others = []; front = text; back = []; split = refl; reads = lt; stands = sym (append-nil text); behind = at_end }
first_text (dotted {label = label} front lt e) =
    record { label = label; others = []; front = front; back = 46 ∷ []; split = refl; reads = lt; stands = e; behind = at_dot }
first_text (joined {label = label} {labels = labels} front rest lt ls e) =
    record { label = label; others = labels; front = front; back = 46 ∷ rest; split = refl; reads = lt; stands = e; behind = further ls }

pub back_ends : {others : List (List ℕ)} {mark : Bool} {back : List ℕ} → BackText others mark back → IsLabelEnd back
back_ends at_end = tt
back_ends at_dot = refl
back_ends (further ls) = refl

-- no text of labels begins with a label's end
pub labels_no_end : {labels : List (List ℕ)} {mark : Bool} {text : List ℕ} → LabelsText labels mark text → AreLabels labels → IsLabelEnd text → ⊥
labels_no_end {labels} {mark} {text} ls are e =
    let k = first_text ls in
    let a : AreLabels (k.label ∷ k.others) = subst AreLabels k.split are in
    label_no_end k.back k.reads a.0.0 (subst IsLabelEnd k.stands e)

one_back : {a b : List (List ℕ)} {m n : Bool} {x : List ℕ} → BackText a m x → BackText b n x → AreLabels a → AreLabels b
    → ((rest : List ℕ) → LabelsText a m rest → LabelsText b n rest → (a ≡ b) × (m ≡ n)) → (a ≡ b) × (m ≡ n)
one_back at_end at_end h k same = (refl, refl)
one_back at_dot at_dot h k same = (refl, refl)
one_back at_dot (further ls) h k same = absurd (labels_no_end ls k tt)
one_back (further ls) at_dot h k same = absurd (labels_no_end ls h tt)
one_back (further {rest} ls) (further ks) h k same = same rest ls ks

-- a text is that of one list of labels, with one mark
one_labels : (more : ℕ) {a b : List (List ℕ)} {m n : Bool} {s : List ℕ} → length a ≤ more → LabelsText a m s → LabelsText b n s → AreLabels a → AreLabels b
    → (a ≡ b) × (m ≡ n)
one_labels zero {a} {b} {m} {n} {s} size ls ks h k = let f = first_text ls in absurd (omega (arith, ap length f.split))
one_labels (suc more) {a} {b} {m} {n} {s} size ls ks h k =
    let f = first_text ls in
    let g = first_text ks in
    let ha : AreLabels (f.label ∷ f.others) = subst AreLabels f.split h in
    let ka : AreLabels (g.label ∷ g.others) = subst AreLabels g.split k in
    let e : f.front ++ f.back ≡ g.front ++ g.back = sym f.stands ∙ g.stands in
    let u = one_label f.back g.back f.reads g.reads e (back_ends f.behind) (back_ends g.behind) in
    let u0 : f.label ≡ g.label = u.0 in
    let u1 : f.front ≡ g.front = u.1 in
    let back : g.back ≡ f.back = sym (append_cancel_left f.front f.back g.back (e ∙ ap (λ (i : List ℕ). i ++ g.back) (sym u1))) in
    let bg : BackText g.others n f.back = subst (λ (x : List ℕ). BackText g.others n x) back g.behind in
    let fs : a ≡ f.label ∷ f.others = f.split in
    let gs : b ≡ g.label ∷ g.others = g.split in
    let r = one_back f.behind bg ha.1 ka.1 (λ rest x y. one_labels more (omega (arith, ap length f.split)) x y ha.1 ka.1) in
    let r0 : f.others ≡ g.others = r.0 in
    (cc, r.1)

one_marked : {a b : List (List ℕ)} {m n : Bool} {s : List ℕ} → MarkedText a m s → MarkedText b n s → AreLabels a → AreLabels b → (a ≡ b) × (m ≡ n)
one_marked root root h k = (refl, refl)
one_marked root (labelled ls) h k = absurd (labels_no_end ls k refl)
one_marked nothing nothing h k = (refl, refl)
one_marked nothing (labelled ls) h k = absurd (labels_no_end ls k tt)
one_marked (labelled ls) root h k = absurd (labels_no_end ls h refl)
one_marked (labelled ls) nothing h k = absurd (labels_no_end ls h tt)
one_marked {a} {b} (labelled ls) (labelled ks) h k = one_labels (length a) (omega arith) ls ks h k

pub one_name : (text : List ℕ) (x y : DomainName) → IsNameText x text → IsNameText y text → x ≡ y
one_name text x y a b = let u = one_marked a.reads b.reads a.is_name.labels b.is_name.labels in made x y u.0 u.1

head_label : (label : List ℕ) (labels : List (List ℕ)) → All AreOctets (label ∷ labels) → AreOctets label
head_label label labels h = All-head AreOctets label labels h

pub label_reads : (label : List ℕ) → AreOctets label → LabelText label (label_text label)
label_reads [] h = no_octet
label_reads (c ∷ label) h = octet (printed c) (label_text label) (printed_text c (All-head (λ (x : ℕ). x < 256) c label h))
    (label_reads label (All-tail (λ (x : ℕ). x < 256) c label h)) refl

-- a label whose octets are written as they are
pub label_as_is : (text : List ℕ) (n : ℕ) → n ≤ length text → label_text (take n text) ≡ take n text → AreOctets text → IsLabelEnd (drop n text)
    → (old : List ℕ) → AddsOctets text (length (take n text)) old (old ++ take n text)
label_as_is text n within same octets ends old = rw (length-take-le n text within) (record {
  label = take n text;
  reads = subst (λ (t : List ℕ). LabelText (take n text) t) same (label_reads (take n text) (AreOctets-take n text octets));
  within = within;
  ends = ends;
  octets = refl;
})

labels_read : (label : List ℕ) (labels : List (List ℕ)) (mark : Bool) → All AreOctets (label ∷ labels)
    → LabelsText (label ∷ labels) mark (name_text (record { labels = label ∷ labels; fully_qualified = mark }))
labels_read label [] true h = dotted (label_text label) (label_reads label (head_label label [] h))
    (ap (λ (t : List ℕ). t ++ 46 ∷ []) (append-nil (label_text label)))
labels_read label [] false h =
    rw (append-nil (joined_text (label ∷ []))) (rw (append-nil (label_text label)) (last (label_reads label (head_label label [] h))))
labels_read label (next ∷ labels) mark h = joined (label_text label) (name_text (record { labels = next ∷ labels; fully_qualified = mark }))
    (label_reads label (head_label label (next ∷ labels) h)) (labels_read next labels mark (All-tail AreOctets label (next ∷ labels) h))
    (append_assoc (label_text label) (46 ∷ joined_text (next ∷ labels)) (if mark then 46 ∷ [] else []))

marked_reads : (labels : List (List ℕ)) (mark : Bool) → All AreOctets labels
    → MarkedText labels mark (name_text (record { labels = labels; fully_qualified = mark }))
marked_reads [] true h = root
marked_reads [] false h = nothing
marked_reads (label ∷ labels) mark h = labelled (labels_read label labels mark h)

-- what is printed of a name is a text of it
pub name_reads : (x : DomainName) → IsName x → HasOctets x → IsNameText x (name_text x)
name_reads x is h = record { is_name = is; reads = marked_reads x.labels x.fully_qualified h }

-- one label more was written behind a dot
pub joined_more : (text label : List ℕ) (old rest : List (List ℕ)) (whole : List ℕ) → old ≡ label ∷ rest
    → text ++ flat_map (λ other. 46 ∷ label_text other) old ≡ whole
    → ((text ++ 46 ∷ []) ++ label_text label) ++ flat_map (λ other. 46 ∷ label_text other) rest ≡ whole
joined_more text label old rest whole e w =
    let dots : List (List ℕ) → List ℕ = λ labels. flat_map (λ other. 46 ∷ label_text other) labels in
    append_assoc (text ++ 46 ∷ []) (label_text label) (dots rest) ∙ append_assoc text (46 ∷ []) (label_text label ++ dots rest)
    ∙ ap (λ (l : List (List ℕ)). text ++ dots l) (sym e) ∙ w

-- no label is left
pub joined_all : (text : List ℕ) (old : List (List ℕ)) (whole : List ℕ) → old ≡ [] → text ++ flat_map (λ other. 46 ∷ label_text other) old ≡ whole
    → text ≡ whole
joined_all text old whole e w = sym (append-nil text) ∙ ap (λ (l : List (List ℕ)). text ++ flat_map (λ other. 46 ∷ label_text other) l) (sym e) ∙ w
