-- Labels of names, one by one.
use Rattle.std.proofs.Common.{◌≡◌, ◌≢◌, ℕ, zero, suc, get_or, take, drop, length-drop, ◌-◌, ◌+◌, ◌*◌, ◌<◌, ◌≤◌, Bool, true, false, cond, List, [], ◌∷◌}
use Rattle.std.proofs.Common.{◌++◌, length, refl, sym, ◌∙◌, ap, subst, arith, append_assoc, ◌⊎◌, inl, inr, Option, Some, None}
use Rattle.std.specs.Prelude.{◌==◌}
use Rattle.std.proofs.lemmas.Bool.Decides.{nat_tests}
use Rattle.std.proofs.lemmas.List.{append-nil, nil_from_length, length-append, get_or-drop, take_all, take-append-drop}
use Rattle.dns_fields.specs.Labels.{DomainName, IsLabel, AreLabels, IsName, wire}
use Rattle.dns_fields.proofs.Runs.{wire-append, AreLabels-append}
use Rattle.dns_types.specs.declared.error.ParseError.{ParseError}
use Rattle.dns_types.specs.declared.error.ParseError.TheVariants as parse
use Rattle.dns_zone_tokens.specs.{Tokens.Token, ZoneReads.NoValueOf, Views.BeginsWith, declared.field.NameField.NameField}
use Rattle.dns_zone_tokens.specs.Letters.{Letter, plain, kept, letters, octet_of, stands_for, escapes_stand, is_digit, letters_from, BeginsWithNone}
use Rattle.dns_zone_tokens.specs.Letters.{between, backslash, one_digit, two_digits}
use Rattle.dns_zone_tokens.specs.NameTokens.{parts_from, name_of_parts, with_label, labelled, is_alone, name, IsLongName, LabelsFault, PartFault, ReadTo, BeginsWithDot, EndsPart}
use Rattle.dns_zone_tokens.specs.NameSteps.{ReadSoFar, LabelsRead, NoLabels, NotClosed}
use Rattle.dns_names_wire.specs.NameValues.{root_name, joined_name, completed}
use Rattle.dns_zone_tokens.proofs.LetterSteps.{from_offset, begins as begins_with, letters_more, stand_more}

-- ---- parts and labels

-- the parts from the front of one on: it begins with that front
pub record PartsFrom (front : List ℕ) (xs : List Letter) : Type 0 where
  pub first : List ℕ
  pub others : List (List ℕ)
  pub are : parts_from front xs ≡ first ∷ others
  pub longer : length front ≤ length first

parts_by : (b : Bool) (front : List ℕ) (x : Letter) (xs : List Letter) → stands_for 46 x ≡ b → PartsFrom (front ++ octet_of x ∷ []) xs
    → PartsFrom front (x ∷ xs)
parts_by true front x xs h more = record { first = front; others = parts_from [] xs; are = rw h refl; longer = omega arith }
parts_by false front x xs h more = record {
  first = more.first;
  others = more.others;
  are = rw h more.are;
  longer = omega (arith, more.longer, length-append front (octet_of x ∷ []));
}

pub parts_are : (front : List ℕ) (xs : List Letter) → PartsFrom front xs
parts_are front [] = record { first = front; others = []; are = refl; longer = omega arith }
parts_are front (x ∷ xs) = parts_by (stands_for 46 x) front x xs refl (parts_are (front ++ octet_of x ∷ []) xs)

abbrev pub with_labels : List (List ℕ) → DomainName → DomainName
with_labels [] name = name
with_labels (label ∷ labels) name = with_label label (with_labels labels name)

name_behind : (labels parts : List (List ℕ)) → AreLabels labels → name_of_parts (labels ++ parts) ≡ with_labels labels (name_of_parts parts)
name_behind [] parts are = refl
name_behind ([] ∷ labels) parts are = absurd (omega (arith, are.0.0))
name_behind ((c ∷ label) ∷ labels) parts are = ap (with_label (c ∷ label)) (name_behind labels parts are.1)

mark_behind : (labels : List (List ℕ)) (name : DomainName)
    → with_labels labels name ≡ record { labels = labels ++ name.labels; fully_qualified = name.fully_qualified }
mark_behind [] name = refl
mark_behind (label ∷ labels) name = ap (with_label label) (mark_behind labels name)

-- ---- labels read so far

wire_more : (labels : List (List ℕ)) (label : List ℕ) → wire (labels ++ label ∷ []) ≡ wire labels ++ length label ∷ label
wire_more labels label = wire-append labels (label ∷ []) ∙ ap (λ (x : List ℕ). wire labels ++ length label ∷ x) (append-nil label)

dot_ends : (front : List ℕ) (x : Letter) (xs : List Letter) → stands_for 46 x ≡ true → parts_from front (x ∷ xs) ≡ front ∷ parts_from [] xs
dot_ends front x xs h = rw h refl

octet_more : (front : List ℕ) (x : Letter) (xs : List Letter) → stands_for 46 x ≡ false → parts_from front (x ∷ xs) ≡ parts_from (front ++ octet_of x ∷ []) xs
octet_more front x xs h = rw h refl

-- the parts after a letter
parts_behind : (text rest more octets front : List ℕ) (x : Letter) (so : ReadSoFar text rest octets front) → BeginsWith x rest more
    → parts_from [] (letters text) ≡ so.labels ++ parts_from front (x ∷ letters more)
parts_behind text rest more octets front x so begins = so.parts ∙ ap (λ (xs : List Letter). so.labels ++ parts_from front xs) begins.first

-- parts of letters, and of those after them
parts_more_by : (b : Bool) (front : List ℕ) (x : Letter) (xs ys : List Letter) (labels : List (List ℕ)) (last : List ℕ) → stands_for 46 x ≡ b
    → ((others : List (List ℕ)) → parts_from [] xs ≡ others ++ last ∷ [] → parts_from [] (xs ++ ys) ≡ others ++ parts_from last ys)
    → (parts_from (front ++ octet_of x ∷ []) xs ≡ labels ++ last ∷ [] → parts_from (front ++ octet_of x ∷ []) (xs ++ ys) ≡ labels ++ parts_from last ys)
    → parts_from front (x ∷ xs) ≡ labels ++ last ∷ [] → parts_from front (x ∷ (xs ++ ys)) ≡ labels ++ parts_from last ys
parts_more_by true front x xs ys [] last h dot octet e =
    let next = parts_are [] xs in
    let all : front ∷ (next.first ∷ next.others) ≡ last ∷ [] = ap (λ (ps : List (List ℕ)). front ∷ ps) (sym next.are) ∙ sym (dot_ends front x xs h) ∙ e in
    absurd (cc)
parts_more_by true front x xs ys (label ∷ labels) last h dot octet e =
    let all : front ∷ parts_from [] xs ≡ label ∷ (labels ++ last ∷ []) = sym (dot_ends front x xs h) ∙ e in
    let same : front ≡ label = cc in
    let later : parts_from [] xs ≡ labels ++ last ∷ [] = cc in
    dot_ends front x (xs ++ ys) h ∙ ap (λ (f : List ℕ). f ∷ parts_from [] (xs ++ ys)) same ∙ ap (λ (ps : List (List ℕ)). label ∷ ps) (dot labels later)
parts_more_by false front x xs ys labels last h dot octet e =
    octet_more front x (xs ++ ys) h ∙ octet (sym (octet_more front x xs h) ∙ e)

parts_more : (front : List ℕ) (xs ys : List Letter) (labels : List (List ℕ)) (last : List ℕ) → parts_from front xs ≡ labels ++ last ∷ []
    → parts_from front (xs ++ ys) ≡ labels ++ parts_from last ys
parts_more front [] ys [] last e = let same : front ≡ last = cc in ap (λ (f : List ℕ). parts_from f ys) same
parts_more front [] ys (label ∷ []) last e = absurd (cc)
parts_more front [] ys (label ∷ next ∷ labels) last e = absurd (cc)
parts_more front (x ∷ xs) ys labels last e =
    parts_more_by (stands_for 46 x) front x xs ys labels last refl (λ others. parts_more [] xs ys others last)
    (parts_more (front ++ octet_of x ∷ []) xs ys labels last) e

-- the parts of octets that were seen, and of a letter after them
seen_more : (seen octets : List ℕ) (labels : List (List ℕ)) (front : List ℕ) (x : Letter) → escapes_stand seen ≡ true
    → parts_from [] (letters seen) ≡ labels ++ front ∷ [] → letters octets ≡ x ∷ [] → parts_from [] (letters (seen ++ octets)) ≡ labels ++ parts_from front (x ∷ [])
seen_more seen octets labels front x whole divided own =
    ap (λ (xs : List Letter). parts_from [] xs) (letters_more between seen octets whole ∙ ap (λ (xs : List Letter). letters seen ++ xs) own)
    ∙ parts_more [] (letters seen) (x ∷ []) labels front divided

-- nothing was read
pub none_read : (text : List ℕ) → ReadSoFar text text [] []
none_read text = record {
  labels = [];
  are = tt;
  fits = omega arith;
  same = refl;
  seen = [];
  split = refl;
  whole = refl;
  divided = refl;
  escapes = refl;
  parts = refl;
}

-- a letter of a label
pub read_octet : (text rest more octets front : List ℕ) (x : Letter) → ReadSoFar text rest octets front → BeginsWith x rest more → stands_for 46 x ≡ false
    → ReadSoFar text more octets (front ++ octet_of x ∷ [])
read_octet text rest more octets front x so begins h = record {
  labels = so.labels;
  are = so.are;
  fits = so.fits;
  same = so.same;
  seen = so.seen ++ begins.octets;
  split = so.split ∙ ap (λ (r : List ℕ). so.seen ++ r) begins.split ∙ sym (append_assoc so.seen begins.octets more);
  whole = stand_more between so.seen begins.octets so.whole ∙ begins.whole;
  divided = seen_more so.seen begins.octets so.labels front x so.whole so.divided begins.own
      ∙ ap (λ (ps : List (List ℕ)). so.labels ++ ps) (octet_more front x [] h);
  escapes = so.escapes ∙ begins.escapes;
  parts = parts_behind text rest more octets front x so begins ∙ ap (λ (ps : List (List ℕ)). so.labels ++ ps) (octet_more front x (letters more) h);
}

pub read_dot : (text rest more octets front now : List ℕ) (x : Letter) → ReadSoFar text rest octets front → BeginsWith x rest more → stands_for 46 x ≡ true
    → IsLabel front → length octets + length front ≤ 253 → now ≡ octets ++ length front ∷ front → ReadSoFar text more now []
read_dot text rest more octets front now x so begins h is room e =
    let wired : now ≡ wire (so.labels ++ front ∷ []) = e ∙ ap (λ (o : List ℕ). o ++ length front ∷ front) so.same ∙ sym (wire_more so.labels front) in record {
      labels = so.labels ++ front ∷ [];
      are = AreLabels-append so.labels (front ∷ []) so.are (is, tt);
      fits = omega (arith, ap length wired, ap length e, length-append octets (length front ∷ front));
      same = wired;
      seen = so.seen ++ begins.octets;
      split = so.split ∙ ap (λ (r : List ℕ). so.seen ++ r) begins.split ∙ sym (append_assoc so.seen begins.octets more);
      whole = stand_more between so.seen begins.octets so.whole ∙ begins.whole;
      divided = seen_more so.seen begins.octets so.labels front x so.whole so.divided begins.own
          ∙ ap (λ (ps : List (List ℕ)). so.labels ++ ps) (dot_ends front x [] h)
          ∙ sym (append_assoc so.labels (front ∷ []) ([] ∷ []));
      escapes = so.escapes ∙ begins.escapes;
      parts = parts_behind text rest more octets front x so begins
          ∙ ap (λ (ps : List (List ℕ)). so.labels ++ ps) (dot_ends front x (letters more) h)
          ∙ sym (append_assoc so.labels (front ∷ []) (parts_from [] (letters more)));
    }

-- ---- octets that are neither a dot nor a `\`

-- each of the first n
abbrev pub PlainTo : ℕ → List ℕ → Type 0
PlainTo n text = (k : ℕ) → k < n → (get_or text k 0 ≢ 46) × (get_or text k 0 ≢ 92)

other_octet : (c d : ℕ) → c ≢ d → (c == d) ≡ false
other_octet c d h = grind (arith, nat_tests)

plain_parts : (front : List ℕ) (n : ℕ) (text : List ℕ) → n ≤ length text → PlainTo n text
    → (parts_from front (letters text) ≡ parts_from (front ++ take n text) (letters (drop n text))) × (escapes_stand text ≡ escapes_stand (drop n text))
plain_parts front zero text w h = (ap (λ (f : List ℕ). parts_from f (letters text)) (sym (append-nil front)), refl)
plain_parts front (suc n) [] w h = absurd (omega arith)
plain_parts front (suc n) (c ∷ text) w h =
    let first = h 0 (omega arith) in
    let dot : (c == 46) ≡ false = other_octet c 46 first.0 in
    let slash : (c == 92) ≡ false = other_octet c 92 first.1 in
    let more = plain_parts (front ++ c ∷ []) n text (omega arith) (λ k l. h (suc k) (omega arith)) in
    let divided : parts_from front (letters (c ∷ text)) ≡ parts_from (front ++ c ∷ []) (letters text) = rw (slash, dot) refl in (
      divided ∙ more.0 ∙ ap (λ (f : List ℕ). parts_from f (letters (drop n text))) (append_assoc front (c ∷ []) (take n text)),
      rw slash more.1,
    )

-- they are one part
plain_own : (front : List ℕ) (n : ℕ) (text : List ℕ) → n ≤ length text → PlainTo n text
    → (parts_from front (letters (take n text)) ≡ (front ++ take n text) ∷ []) × (escapes_stand (take n text) ≡ true)
plain_own front zero text w h = (ap (λ (f : List ℕ). f ∷ []) (sym (append-nil front)), refl)
plain_own front (suc n) [] w h = absurd (omega arith)
plain_own front (suc n) (c ∷ text) w h =
    let first = h 0 (omega arith) in
    let dot : (c == 46) ≡ false = other_octet c 46 first.0 in
    let slash : (c == 92) ≡ false = other_octet c 92 first.1 in
    let more = plain_own (front ++ c ∷ []) n text (omega arith) (λ k l. h (suc k) (omega arith)) in
    let divided : parts_from front (letters (c ∷ take n text)) ≡ parts_from (front ++ c ∷ []) (letters (take n text)) = rw (slash, dot) refl in (
      divided ∙ more.0 ∙ ap (λ (f : List ℕ). f ∷ []) (append_assoc front (c ∷ []) (take n text)),
      rw slash more.1,
    )

-- such octets are the front of a label
pub front_read : (text rest octets : List ℕ) (n : ℕ) → ReadSoFar text rest octets [] → n ≤ length rest → PlainTo n rest
    → ReadSoFar text (take (length rest - n) (drop n rest)) octets (take n rest)
front_read text rest octets n so w h =
    let divided = plain_parts [] n rest w h in
    let own = plain_own [] n rest w h in
    rw (from_offset n rest) (record {
      labels = so.labels;
      are = so.are;
      fits = so.fits;
      same = so.same;
      seen = so.seen ++ take n rest;
      split = so.split ∙ ap (λ (r : List ℕ). so.seen ++ r) (sym (take-append-drop n rest)) ∙ sym (append_assoc so.seen (take n rest) (drop n rest));
      whole = stand_more between so.seen (take n rest) so.whole ∙ own.1;
      divided = ap (λ (xs : List Letter). parts_from [] xs) (letters_more between so.seen (take n rest) so.whole)
          ∙ parts_more [] (letters so.seen) (letters (take n rest)) so.labels [] so.divided
          ∙ ap (λ (ps : List (List ℕ)). so.labels ++ ps) own.0;
      escapes = so.escapes ∙ divided.1;
      parts = so.parts ∙ ap (λ (ps : List (List ℕ)). so.labels ++ ps) divided.0;
    })

-- the octet that stops such octets is a dot where it is no `\`
pub stops_at : (rest : List ℕ) (n : ℕ) → n ≤ length rest → (n < length rest → (get_or rest n 0 ≡ 46) ⊎ (get_or rest n 0 ≡ 92))
    → length (take (length rest - n) (drop n rest)) ≢ 0 → get_or (take (length rest - n) (drop n rest)) 0 0 ≢ 92
    → get_or (take (length rest - n) (drop n rest)) 0 0 ≡ 46
stops_at rest n w stops some other =
    let left : length (take (length rest - n) (drop n rest)) ≡ length rest - n = ap length (from_offset n rest) ∙ length-drop n rest in
    let none : n + 0 ≡ n = omega arith in
    let here : get_or (take (length rest - n) (drop n rest)) 0 0 ≡ get_or rest n 0 =
    ap (λ (s : List ℕ). get_or s 0 0) (from_offset n rest) ∙ get_or-drop n rest 0 0 ∙ ap (λ (m : ℕ). get_or rest m 0) none in
    dot_or (get_or (take (length rest - n) (drop n rest)) 0 0) (subst (λ (c : ℕ). (c ≡ 46) ⊎ (c ≡ 92)) (sym here) (stops (omega arith))) other
  where
    dot_or : (c : ℕ) → (c ≡ 46) ⊎ (c ≡ 92) → c ≢ 92 → c ≡ 46
    dot_or c (inl e) other = e
    dot_or c (inr e) other = absurd (other e)

dot_begins : (rest : List ℕ) → length rest ≢ 0 → get_or rest 0 0 ≡ 46 → BeginsWith (plain 46) rest (take (length rest - 1) (drop 1 rest))
dot_begins [] l e = absurd (l refl)
dot_begins (c ∷ rest) l e =
    let whole : take (suc (length rest) - 1) rest ≡ rest = take_all (suc (length rest) - 1) rest (omega arith) in
    subst (BeginsWith (plain 46) (c ∷ rest)) (sym whole) (rw e (begins_with (46 ∷ []) rest (plain 46) refl refl))

-- a label, and a dot after it
pub label_read : (text rest octets label now : List ℕ) → ReadSoFar text rest octets label → length rest ≢ 0 → get_or rest 0 0 ≡ 46
    → IsLabel label → length octets + length label ≤ 253 → now ≡ octets ++ length label ∷ label → ReadSoFar text (take (length rest - 1) (drop 1 rest)) now []
label_read text rest octets label now so some e is room put =
    read_dot text rest (take (length rest - 1) (drop 1 rest)) octets label now (plain 46) so (dot_begins rest some e) refl is room put

-- ---- errors

first_label : (part : List ℕ) (parts : List (List ℕ)) → (1 ≤ length part) ⊎ (1 ≤ length parts)
    → (rest : List (List ℕ)) × ((name_of_parts (part ∷ parts)).labels ≡ part ∷ rest)
first_label (c ∷ part) parts h = ((name_of_parts parts).labels, refl)
first_label [] (next ∷ parts) h = ((name_of_parts (next ∷ parts)).labels, refl)
first_label [] [] (inl h) = absurd (omega arith)
first_label [] [] (inr h) = absurd (omega arith)

label_among : (labels : List (List ℕ)) (label : List ℕ) (rest : List (List ℕ)) → AreLabels (labels ++ label ∷ rest) → IsLabel label
label_among [] label rest are = are.0
label_among (first ∷ labels) label rest are = label_among labels label rest are.1

wire_least : (labels : List (List ℕ)) (label : List ℕ) (rest : List (List ℕ))
    → length (wire labels) + (1 + length label) ≤ length (wire (labels ++ label ∷ rest))
wire_least labels label rest =
    omega (arith, ap length (wire-append labels (label ∷ rest)), length-append (wire labels) (wire (label ∷ rest)), length-append label (wire rest))

-- a part that the text has after labels is a label of it
part_label : (text : List ℕ) (labels : List (List ℕ)) (part : List ℕ) (parts : List (List ℕ)) → parts_from [] (letters text) ≡ labels ++ part ∷ parts
    → AreLabels labels
    → (1 ≤ length part) ⊎ (1 ≤ length parts) → (rest : List (List ℕ)) × ((labelled text).labels ≡ labels ++ part ∷ rest)
part_label text labels part parts e are some =
    let rest = first_label part parts some in (
      rest.0,
      ap (λ (ps : List (List ℕ)). (name_of_parts ps).labels) e
          ∙ ap (λ (name : DomainName). name.labels) (name_behind labels (part ∷ parts) are)
          ∙ ap (λ (name : DomainName). name.labels) (mark_behind labels (name_of_parts (part ∷ parts)))
          ∙ ap (λ (ls : List (List ℕ)). labels ++ ls) rest.1,
    )

-- ---- the first fault

read_to : {text rest octets front : List ℕ} (so : ReadSoFar text rest octets front) → ReadTo text rest so.labels front
read_to so = record { seen = so.seen; split = so.split; escapes = so.whole; parts = so.divided; are = so.are; fits = so.fits }

-- a part that is not closed
close_fault : (field : NameField) (text rest octets front : List ℕ) (e : ParseError) → ReadSoFar text rest octets front
    → (1 ≤ length front) ⊎ BeginsWithDot rest → EndsPart rest → NotClosed field octets front e → LabelsFault field text e
close_fault field text rest octets front e so (inl some) ends (inl not) = absurd (omega (arith, not.1, some))
close_fault field text rest octets front e so (inr dot) ends (inl not) =
    record { rest = rest; labels = so.labels; front = front; read = read_to so; why = inr (inl (not.0, not.1, dot)) }
close_fault field text rest octets front e so some ends (inr (inl not)) =
    record { rest = rest; labels = so.labels; front = front; read = read_to so; why = inr (inr (inl (not.0, not.1))) }
close_fault field text rest octets front e so some ends (inr (inr not)) = record {
  rest = rest;
  labels = so.labels;
  front = front;
  read = read_to so;
  why = inr (inr (inr (not.0, not.1, not.2, omega (arith, not.3, ap length so.same), ends)));
}

is_dot : (x : Letter) → stands_for 46 x ≡ true → x ≡ plain 46
is_dot (plain d) h = let same : d ≡ 46 = grind (arith, nat_tests) in ap plain same
is_dot (kept d) h = absurd (cc)

-- what follows a `\` is no dot
kept_by : (b : Bool) (m ys xs : List Letter) (c : ℕ) → (m ≡ plain 46 ∷ xs → ⊥) → cond b m (kept c ∷ ys) ≡ plain 46 ∷ xs → ⊥
kept_by true m ys xs c none e = none e
kept_by false m ys xs c none e = absurd (cc)

not_third : (n : ℕ) (rest : List ℕ) (xs : List Letter) → letters_from (two_digits n) rest ≡ plain 46 ∷ xs → ⊥
not_third n [] xs e = absurd (cc)
not_third n (c ∷ rest) xs e = absurd (cc)

not_second : (n : ℕ) (rest : List ℕ) (xs : List Letter) → letters_from (one_digit n) rest ≡ plain 46 ∷ xs → ⊥
not_second n [] xs e = absurd (cc)
not_second n (c ∷ rest) xs e = not_third (10 * n + (c - 48)) rest xs e

not_kept : (rest : List ℕ) (xs : List Letter) → letters_from backslash rest ≡ plain 46 ∷ xs → ⊥
not_kept [] xs e = absurd (cc)
not_kept (c ∷ rest) xs e =
    kept_by (is_digit c) (letters_from (one_digit (c - 48)) rest) (letters rest) xs c (not_second (c - 48) rest xs) e

dot_by : (b : Bool) (c : ℕ) (rest : List ℕ) (xs : List Letter) → cond b (letters_from backslash rest) (plain c ∷ letters rest) ≡ plain 46 ∷ xs
    → BeginsWithDot (c ∷ rest)
dot_by true c rest xs e = absurd (not_kept rest xs e)
dot_by false c rest xs e = let same : c ≡ 46 = cc in record { behind = rest; is = ap (λ (d : ℕ). d ∷ rest) same }

dot_first : (rest : List ℕ) (xs : List Letter) → letters rest ≡ plain 46 ∷ xs → BeginsWithDot rest
dot_first [] xs e = absurd (cc)
dot_first (c ∷ rest) xs e = dot_by (c == 92) c rest xs e

pub no_close : (field : NameField) (text rest more octets front : List ℕ) (x : Letter) (e : ParseError) → ReadSoFar text rest octets front
    → BeginsWith x rest more
    → stands_for 46 x ≡ true → NotClosed field octets front e → LabelsFault field text e
no_close field text rest more octets front x e so begins h not =
    let dot = dot_first rest (letters more) (begins.first ∙ ap (λ (y : Letter). y ∷ letters more) (is_dot x h)) in
    close_fault field text rest octets front e so (inr dot) (inr dot) not

pub no_label : (field : NameField) (text rest octets label : List ℕ) (e : ParseError) → ReadSoFar text rest octets label → length rest ≢ 0
    → get_or rest 0 0 ≡ 46
    → NotClosed field octets label e → LabelsFault field text e
no_label field text rest octets label e so some dot not =
    no_close field text rest (take (length rest - 1) (drop 1 rest)) octets label (plain 46) e so (dot_begins rest some dot) refl not

pub no_room : (field : NameField) (text rest more octets front : List ℕ) (x : Letter) → ReadSoFar text rest octets front → BeginsWith x rest more
    → stands_for 46 x ≡ false → length front ≡ 63 → LabelsFault field text (parse.Message field.long_label)
no_room field text rest more octets front x so begins h full =
    let longer = read_octet text rest more octets front x so begins h in record {
      rest = more;
      labels = longer.labels;
      front = front ++ octet_of x ∷ [];
      read = read_to longer;
      why = inr (inr (inl (refl, omega (arith, full, length-append front (octet_of x ∷ [])))));
    }

pub no_escape : (field : NameField) (text rest octets front : List ℕ) → ReadSoFar text rest octets front → length front ≤ 63 → BeginsWithNone rest
    → LabelsFault field text (parse.Message field.escape)
no_escape field text rest octets front so few none =
    record { rest = rest; labels = so.labels; front = front; read = read_to so; why = inl (refl, few, none) }

-- ---- at the end

pub no_last : (field : NameField) (text octets front : List ℕ) (e : ParseError) → ReadSoFar text [] octets front → 1 ≤ length front
    → NotClosed field octets front e → LabelsFault field text e
no_last field text octets front e so some not = close_fault field text [] octets front e so (inl some) (inl refl) not

pub at_end : (text rest octets front : List ℕ) → ReadSoFar text rest octets front → length rest ≡ 0 → ReadSoFar text [] octets front
at_end text rest octets front so e = subst (λ (r : List ℕ). ReadSoFar text r octets front) (nil_from_length rest e) so

pub end_dot : (text octets front : List ℕ) → ReadSoFar text [] octets front → length front ≡ 0 → LabelsRead text true octets
end_dot text octets [] so none = record {
  escapes = so.escapes;
  labels = so.labels;
  name = ap name_of_parts so.parts
      ∙ name_behind so.labels ([] ∷ []) so.are
      ∙ mark_behind so.labels root_name
      ∙ ap (λ (ls : List (List ℕ)). record { labels = ls; fully_qualified = true }) (append-nil so.labels);
  are = so.are;
  fits = omega (arith, so.fits);
  same = so.same;
}
end_dot text octets (c ∷ front) so none = absurd (omega arith)

name_single : (front : List ℕ) → 1 ≤ length front → name_of_parts (front ∷ []) ≡ record { labels = front ∷ []; fully_qualified = false }
name_single [] h = absurd (omega arith)
name_single (c ∷ front) h = refl

pub end_label : (text octets front closed : List ℕ) → ReadSoFar text [] octets front → IsLabel front → length octets + length front ≤ 253
    → closed ≡ octets ++ length front ∷ front → LabelsRead text false closed
end_label text octets front closed so is room put =
    let wired : closed ≡ wire (so.labels ++ front ∷ []) =
    put ∙ ap (λ (o : List ℕ). o ++ length front ∷ front) so.same ∙ sym (wire_more so.labels front) in record {
      escapes = so.escapes;
      labels = so.labels ++ front ∷ [];
      name = ap name_of_parts so.parts
          ∙ name_behind so.labels (front ∷ []) so.are
          ∙ ap (with_labels so.labels) (name_single front is.0)
          ∙ mark_behind so.labels (record { labels = front ∷ []; fully_qualified = false });
      are = AreLabels-append so.labels (front ∷ []) so.are (is, tt);
      fits = omega (arith, ap length wired, ap length put, length-append octets (length front ∷ front));
      same = wired;
    }

-- ---- what is no name

labels_front : (labels others : List (List ℕ)) → AreLabels (labels ++ others) → AreLabels labels
labels_front [] others are = tt
labels_front (label ∷ labels) others are = (are.0, labels_front labels others are.1)

joined_by : (b : Bool) (name origin : DomainName) → IsName (cond b name (joined_name name origin)) → IsName name
joined_by true name origin is = is
joined_by false name origin is = record {
  labels = labels_front name.labels origin.labels is.labels;
  fits = omega (arith, is.fits, ap length (wire-append name.labels origin.labels), length-append (wire name.labels) (wire origin.labels));
}

completed_by : (name : DomainName) (origin : Option DomainName) → IsName (completed name origin) → IsName name
completed_by name None is = is
completed_by name (Some origin) is = joined_by name.fully_qualified name origin is

some_named : (a b : Bool) (origin : Option DomainName) (x v : DomainName) → a ≡ false → b ≡ false → cond a origin (cond b (Some root_name) (Some x)) ≡ Some v
    → x ≡ v
some_named true b origin x v h k e = absurd (cc)
some_named false true origin x v h k e = absurd (cc)
some_named false false origin x v h k e = cc

-- one of the labels has this
record HasLabel (holds : List ℕ → Type 0) (labels : List (List ℕ)) : Type 0 where
  front : List (List ℕ)
  label : List ℕ
  behind : List (List ℕ)
  all : labels ≡ front ++ label ∷ behind
  is : holds label

has_label : {holds : List ℕ → Type 0} (labels : List (List ℕ)) (has : HasLabel holds labels) → AreLabels labels → IsLabel has.label × holds has.label
has_label labels has are = (label_among has.front has.label has.behind (subst AreLabels has.all are), has.is)

no_labels_by : (text : List ℕ) → HasLabel (λ label. (length label ≡ 0) ⊎ (63 < length label)) (labelled text).labels → NoLabels text
no_labels_by text has = record {
  none = λ escapes are fits.
      let is = has_label (labelled text).labels has are in
      elim is.1 [ inl none ↦ omega (arith, is.0.0, none) | inr long ↦ omega (arith, is.0.1, long) ];
}

-- the parts of a text that is read up to the rest
parts_to : {text rest : List ℕ} {labels : List (List ℕ)} {front : List ℕ} → ReadTo text rest labels front
    → parts_from [] (letters text) ≡ labels ++ parts_from front (letters rest)
parts_to {text} {rest} {labels} {front} read =
    ap (λ (t : List ℕ). parts_from [] (letters t)) read.split
    ∙ ap (λ (xs : List Letter). parts_from [] xs) (letters_more between read.seen rest read.escapes)
    ∙ parts_more [] (letters read.seen) (letters rest) labels front read.parts

none_by : (field : NameField) (text rest : List ℕ) (labels : List (List ℕ)) (front : List ℕ) (e : ParseError) → ReadTo text rest labels front
    → PartFault field labels front rest e → NoLabels text
none_by field text rest labels front e read (inl fault) =
    let whole : take (suc (length rest)) rest ≡ rest = take_all (suc (length rest)) rest (omega arith) in
    let bad : escapes_stand text ≡ false =
    ap escapes_stand read.split ∙ stand_more between read.seen rest read.escapes ∙ ap escapes_stand (sym whole)
    ∙ fault.2.none (suc (length rest)) (omega arith) in
    record { none = λ escapes are fits. let both : true ≡ false = sym escapes ∙ bad in absurd (cc) }
none_by field text rest labels front e read (inr (inl fault)) =
    let dot = fault.2 in
    let divided : parts_from front (letters rest) ≡ front ∷ parts_from [] (letters dot.behind) = ap (λ (r : List ℕ). parts_from front (letters r)) dot.is in
    let next = parts_are [] (letters dot.behind) in
    let own = part_label text labels front (parts_from [] (letters dot.behind)) (parts_to read ∙ ap (λ (ps : List (List ℕ)). labels ++ ps) divided) read.are
    (inr (omega (arith, ap length next.are))) in
    no_labels_by text (record { front = labels; label = front; behind = own.0; all = own.1; is = inl fault.1 })
none_by field text rest labels front e read (inr (inr (inl fault))) =
    let next = parts_are front (letters rest) in
    let own = part_label text labels next.first next.others (parts_to read ∙ ap (λ (ps : List (List ℕ)). labels ++ ps) next.are) read.are
    (inl (omega (arith, fault.1, next.longer))) in
    no_labels_by text (record { front = labels; label = next.first; behind = own.0; all = own.1; is = inr (omega (arith, fault.1, next.longer)) })
none_by field text rest labels front e read (inr (inr (inr fault))) =
    let next = parts_are front (letters rest) in
    let own = part_label text labels next.first next.others (parts_to read ∙ ap (λ (ps : List (List ℕ)). labels ++ ps) next.are) read.are
    (inl (omega (arith, fault.1, next.longer))) in
    let long : IsLongName (labels ++ next.first ∷ own.0) = omega (arith, fault.3, next.longer, wire_least labels next.first own.0) in
    let past : IsLongName (labelled text).labels = subst IsLongName (sym own.1) long in
    record { none = λ escapes are fits. omega (arith, past, fits) }

-- with a fault there are no labels
pub fault_none : (field : NameField) (text : List ℕ) (e : ParseError) → LabelsFault field text e → NoLabels text
fault_none field text e fault = none_by field text fault.rest fault.labels fault.front e fault.read fault.why

pub labels_read : {text : List ℕ} {mark : Bool} {octets : List ℕ} → LabelsRead text mark octets → AreLabels (labelled text).labels
labels_read read = subst (λ (y : DomainName). AreLabels y.labels) (sym read.name) read.are

pub no_name : (origin : Option DomainName) (token : Token) → is_alone 64 token.octets ≡ false → is_alone 46 token.octets ≡ false → NoLabels token.octets
    → NoValueOf (name origin) token
no_name origin token h k none = record {
  none = λ v is.
      let same : completed (labelled token.octets) origin ≡ v = some_named (is_alone 64 token.octets) (is_alone 46 token.octets) origin _ v h k is.named in
      let own = completed_by (labelled token.octets) origin (subst IsName (sym same) is.is_name) in
      none.none is.escapes own.labels own.fits;
}
