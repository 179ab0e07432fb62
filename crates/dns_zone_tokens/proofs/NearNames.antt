-- Labels that are put into place in their text.
use Rattle.std.proofs.Common.{◌≡◌, ◌≢◌, ℕ, suc, get_or, take, drop, ◌-◌, ◌+◌, ◌≤◌, true, false, List, [], ◌∷◌, ◌++◌, length}
use Rattle.std.proofs.Common.{refl, sym, ◌∙◌, ap, subst, arith, append_assoc, Option, Some, None, Ok}
use Rattle.std.proofs.{lemmas.List.append-nil, lemmas.List.length-append, lemmas.List.nil_from_length, lemmas.List.take-append-drop, Math.Seq.set-append_seam}
use Rattle.std.proofs.lemmas.List.{length-take-le, take_all}
use Rattle.dns_zone_tokens.proofs.LetterSteps.{from_offset}
use Rattle.std.specs.Prelude.{slice_set}
use Rattle.dns_fields.specs.Labels.{DomainName, IsName, wire}
use Rattle.dns_fields.proofs.NameLaws.{lowname_length}
use Rattle.dns_types.specs.declared.error.ParseError.TheVariants as parse
use Rattle.dns_zone_tokens.specs.{Letters.escapes_stand, NameSteps.ReadSoFar, NameSteps.LabelsPut, Tokens.Token, ZoneReads.PutAs}
use Rattle.dns_zone_tokens.specs.NameTokens.{labelled, is_alone, name, named, name_octets}
use Rattle.dns_zone_tokens.proofs.NamePuts.{alone_is, dot_ended, whole_put, is_completed, completed_put, completed_full, completed_none, full_by}
use Rattle.dns_zone_tokens.proofs.NameLabels.{PlainTo, none_read, front_read, at_end, end_dot, end_label, label_read}

-- The text was appended to octets and one more. Its labels up to the rest of it have their lengths before them, and before the
-- rest there is one octet.
pub record SetSoFar (text rest before octets : List ℕ) (start : ℕ) : Type 0 where
  pub wired : List ℕ
  pub so : ReadSoFar text rest wired []
  pub gap : ℕ
  pub same : octets ≡ (before ++ wired) ++ gap ∷ rest
  pub at : start ≡ length (before ++ wired)

-- at first
pub set_first : (text before octets : List ℕ) (start : ℕ) → start ≡ length before → octets ≡ before ++ 0 ∷ text
    → SetSoFar text text before octets start
set_first text before octets start at put = record {
  wired = [];
  so = none_read text;
  gap = 0;
  same = put ∙ ap (λ (s : List ℕ). s ++ 0 ∷ text) (sym (append-nil before));
  at = at ∙ ap length (sym (append-nil before));
}

-- the octets once the length is put before the rest
length_put : (text rest before octets : List ℕ) (start n : ℕ) (s : SetSoFar text rest before octets start)
    → slice_set octets start n ≡ (before ++ s.wired) ++ n ∷ rest
length_put text rest before octets start n s =
    ap (λ (o : List ℕ). slice_set o start n) s.same
    ∙ ap (λ (i : ℕ). slice_set ((before ++ s.wired) ++ s.gap ∷ rest) i n) s.at
    ∙ set-append_seam (before ++ s.wired) s.gap rest n

-- the rest is a label and what follows it
rest_parts : (rest : List ℕ) (n : ℕ) → rest ≡ take n rest ++ take (length rest - n) (drop n rest)
rest_parts rest n = sym (take-append-drop n rest) ∙ ap (λ (s : List ℕ). take n rest ++ s) (sym (from_offset n rest))

label_length : (rest : List ℕ) (n : ℕ) → n ≤ length rest → length (take n rest) ≡ n
label_length rest n w = length-take-le n rest w

-- the octets end with the label that was put
label_ends : (before wired label behind : List ℕ) (n : ℕ) → n ≡ length label
    → (before ++ wired) ++ n ∷ (label ++ behind) ≡ (before ++ (wired ++ length label ∷ label)) ++ behind
label_ends before wired label behind n e =
    ap (λ (m : ℕ). (before ++ wired) ++ m ∷ (label ++ behind)) e
    ∙ append_assoc before wired (length label ∷ (label ++ behind))
    ∙ ap (λ (s : List ℕ). before ++ s) (sym (append_assoc wired (length label ∷ label) behind))
    ∙ sym (append_assoc before (wired ++ length label ∷ label) behind)

-- a dot follows the label
pub label_set : (text rest before octets now behind : List ℕ) (start n : ℕ) → SetSoFar text rest before octets start → n ≤ length rest → PlainTo n rest
    → 1 ≤ n → n ≤ 63 → now ≡ slice_set octets start n → length now ≤ 128 → behind ≡ take (length rest - n) (drop n rest) → length behind ≢ 0
    → get_or behind 0 0 ≡ 46 → SetSoFar text (take (length behind - 1) (drop 1 behind)) before now (start + (n + 1))
label_set text rest before octets now behind start n s w plain some few put fits is left dot =
    let label : List ℕ = take n rest in
    let len : length label ≡ n = label_length rest n w in
    let read : ReadSoFar text behind s.wired label =
    subst (λ (b : List ℕ). ReadSoFar text b s.wired label) (sym is) (front_read text rest s.wired n s.so w plain) in
    let parts : rest ≡ label ++ behind = rest_parts rest n ∙ ap (λ (b : List ℕ). label ++ b) (sym is) in
    let all : now ≡ (before ++ (s.wired ++ length label ∷ label)) ++ behind =
    put ∙ length_put text rest before octets start n s ∙ ap (λ (r : List ℕ). (before ++ s.wired) ++ n ∷ r) parts ∙ label_ends before s.wired label behind n (sym len) in
    let room : length s.wired + length label ≤ 253 =
    omega (arith, fits, ap length put, ap length (length_put text rest before octets start n s), length-append (before ++ s.wired) (n ∷ rest), length-append before s.wired, len, w) in
    record {
      wired = s.wired ++ length label ∷ label;
      so = label_read text behind s.wired label (s.wired ++ length label ∷ label) read left dot (omega (arith, len), omega (arith, len)) room refl;
      gap = 46;
      same = all ∙ ap (λ (b : List ℕ). (before ++ (s.wired ++ length label ∷ label)) ++ b) (dot_first behind left dot);
      at = omega (arith, s.at, len, length-append before s.wired, length-append before (s.wired ++ length label ∷ label), length-append s.wired (length label ∷ label));
    }
  where
    dot_first : (b : List ℕ) → length b ≢ 0 → get_or b 0 0 ≡ 46 → b ≡ 46 ∷ take (length b - 1) (drop 1 b)
    dot_first [] l e = absurd (l refl)
    dot_first (c ∷ b) l e = ap (λ (d : ℕ). d ∷ b) e ∙ ap (λ (r : List ℕ). 46 ∷ r) (sym (take_all (suc (length b) - 1) b (omega arith)))

-- nothing follows the label
pub last_set : (text rest before octets now behind : List ℕ) (start n : ℕ) → SetSoFar text rest before octets start → n ≤ length rest → PlainTo n rest
    → 1 ≤ n → n ≤ 63 → now ≡ slice_set octets start n → length now ≤ 128 → behind ≡ take (length rest - n) (drop n rest) → length behind ≡ 0
    → LabelsPut text false before now
last_set text rest before octets now behind start n s w plain some few put fits is none =
    let label : List ℕ = take n rest in
    let len : length label ≡ n = label_length rest n w in
    let empty : behind ≡ [] = nil_from_length behind none in
    let read : ReadSoFar text behind s.wired label =
    subst (λ (b : List ℕ). ReadSoFar text b s.wired label) (sym is) (front_read text rest s.wired n s.so w plain) in
    let parts : rest ≡ label ++ behind = rest_parts rest n ∙ ap (λ (b : List ℕ). label ++ b) (sym is) in
    let all : now ≡ (before ++ (s.wired ++ length label ∷ label)) ++ behind =
    put ∙ length_put text rest before octets start n s ∙ ap (λ (r : List ℕ). (before ++ s.wired) ++ n ∷ r) parts ∙ label_ends before s.wired label behind n (sym len) in
    let room : length s.wired + length label ≤ 253 =
    omega (arith, fits, ap length put, ap length (length_put text rest before octets start n s), length-append (before ++ s.wired) (n ∷ rest), length-append before s.wired, len, w) in
    record {
      octets = s.wired ++ length label ∷ label;
      read = end_label text s.wired label (s.wired ++ length label ∷ label) (at_end text behind s.wired label read none) (omega (arith, len), omega (arith, len)) room refl;
      same = all ∙ ap (λ (b : List ℕ). (before ++ (s.wired ++ length label ∷ label)) ++ b) empty ∙ append-nil (before ++ (s.wired ++ length label ∷ label));
    }

-- a dot ends the last label
pub dot_set : (text rest before octets now : List ℕ) (start : ℕ) → SetSoFar text rest before octets start → length rest ≡ 0
    → now ≡ slice_set octets start 0 → LabelsPut text true before now
dot_set text rest before octets now start s none put = record {
  octets = s.wired;
  read = end_dot text s.wired [] (at_end text rest s.wired [] s.so none) refl;
  same = put ∙ length_put text rest before octets start 0 s ∙ ap (λ (r : List ℕ). (before ++ s.wired) ++ 0 ∷ r) (nil_from_length rest none) ∙ append_assoc before s.wired (0 ∷ []);
}

-- ---- names

-- the root
pub root_put : (origin : Option DomainName) (token : Token) (before after : List ℕ) → token.quoted ≡ false → is_alone 46 token.octets ≡ true
    → after ≡ before ++ 0 ∷ [] → PutAs (name origin) name_octets before after token
root_put origin token before after bare dot put = dot_ended {T = ℕ} origin token (Ok 0) before after bare dot put tt

-- the origin
pub origin_put : (origin : Option DomainName) (own : DomainName) (token : Token) (before after : List ℕ) → token.quoted ≡ false
    → is_alone 64 token.octets ≡ true → origin ≡ Some own → IsName own → after ≡ before ++ name_octets own → PutAs (name origin) name_octets before after token
origin_put origin own token before after bare at same is put =
    let e : token.octets ≡ 64 ∷ [] = alone_is 64 token.octets at in record {
      value = own;
      is = record { bare = bare; escapes = ap escapes_stand e; named = ap (named origin) e ∙ same; is_name = is };
      same = put;
    }

-- labels that a dot ends
pub full_put : (origin : Option DomainName) (token : Token) (before after : List ℕ) → token.quoted ≡ false → is_alone 64 token.octets ≡ false
    → is_alone 46 token.octets ≡ false → LabelsPut token.octets true before after → PutAs (name origin) name_octets before after token
full_put origin token before after bare at dot put =
    whole_put {T = ℕ} origin token true (Ok 0) before after put.octets bare at dot put.read (completed_full (labelled token.octets) origin (full_by put.read refl)) put.same tt

-- labels that no origin completes
pub relative_put : (origin : Option DomainName) (token : Token) (before now after : List ℕ) → origin ≡ None → token.quoted ≡ false
    → is_alone 64 token.octets ≡ false → is_alone 46 token.octets ≡ false → LabelsPut token.octets false before now → after ≡ now ++ 0 ∷ []
    → PutAs (name origin) name_octets before after token
relative_put origin token before now after none bare at dot put ended =
    whole_put {T = ℕ} origin token false (Ok 0) before after put.octets bare at dot put.read (completed_none (labelled token.octets) origin none)
    (ended ∙ ap (λ (o : List ℕ). o ++ 0 ∷ []) put.same ∙ append_assoc before put.octets (0 ∷ [])) tt

-- labels that the origin completes
pub joined_put : (origin : Option DomainName) (own : DomainName) (token : Token) (before now after : List ℕ) → origin ≡ Some own → token.quoted ≡ false
    → is_alone 64 token.octets ≡ false → is_alone 46 token.octets ≡ false → LabelsPut token.octets false before now → IsName own
    → after ≡ now ++ name_octets own → length after ≤ 128 → PutAs (name origin) name_octets before after token
joined_put origin own token before now after same bare at dot put is ended fits =
    let all : after ≡ before ++ (put.octets ++ name_octets own) =
    ended ∙ ap (λ (o : List ℕ). o ++ name_octets own) put.same ∙ append_assoc before put.octets (name_octets own) in
    completed_put {T = ℕ} origin own token (Ok 0) before after put.octets parse.Memory (is_completed origin own token put.octets false same refl bare at dot put.read) all
    (omega (
      arith,
      fits,
      ap length all,
      length-append before (put.octets ++ name_octets own),
      length-append put.octets (name_octets own),
      length-append (wire own.labels) (0 ∷ []),
      lowname_length own,
    )) is tt
