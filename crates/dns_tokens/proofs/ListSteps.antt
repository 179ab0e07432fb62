-- The steps by which a list is cut into segments.
use Rattle.std.proofs.Common.{◌≡◌, true, ◌≢◌, ℕ, Bool, ◌<◌, ◌≤◌, false, not, List, [], ◌∷◌, ◌++◌, length, drop, get_or, refl, sym, ◌∙◌, ap, arith, append_assoc}
use Rattle.std.proofs.lemmas.{List.append-nil, List.length-append, List.length-drop, Bool.Decides.nat_tests, Str.encode_ascii}
use Rattle.std.specs.{Cmp.first_so, Cmp.second_so, Char.encode_utf8, Prelude.◌==◌}
use Rattle.dns_tokens.specs.{Lists.segments_from, Lists.last_segment, Lists.IsItem, Lists.AreItems, Octets.is_list_special, Octets.AllOf, Octets.Span}
use Rattle.dns_tokens.specs.Lists.AreItems.{none, one_more}
use Rattle.dns_tokens.proofs.{Firsts.opened, Firsts.ends_octet, FirstSteps.first_one}

plain_step : (segment cs : List ℕ) (c : ℕ) → is_list_special c ≡ false → segments_from false segment (c ∷ cs) ≡ segments_from false (segment ++ c ∷ []) cs
plain_step segment cs c e =
    let slash : (c == 92) ≡ false = grind (arith, nat_tests) in
    let comma : (c == 44) ≡ false = grind (arith, nat_tests) in
    rw (slash, comma)

plain_run : (segment front rest : List ℕ) → AllOf (λ c. not (is_list_special c)) front
    → segments_from false segment (front ++ rest) ≡ segments_from false (segment ++ front) rest
plain_run segment [] rest h = ap (λ (p : List ℕ). segments_from false p rest) (sym (append-nil segment))
plain_run segment (c ∷ front) rest h =
    let yes : not (is_list_special c) ≡ true = first_so _ _ h in
    let e : is_list_special c ≡ false = grind (arith, nat_tests) in
    plain_step segment (front ++ rest) c e ∙ plain_run (segment ++ c ∷ []) front rest (second_so (not (is_list_special c)) _ h)
    ∙ ap (λ (p : List ℕ). segments_from false p rest) (append_assoc segment (c ∷ []) front)

pub run_step : (segment : List ℕ) {text front rest : List ℕ} → Span (λ c. not (is_list_special c)) front text rest
    → segments_from false segment text ≡ segments_from false (segment ++ front) rest
run_step segment {front} {rest} s = ap (λ (t : List ℕ). segments_from false segment t) s.cut ∙ plain_run segment front rest s.each

pub comma_step : (segment s rest : List ℕ) → 0 < length s → get_or s 0 0 ≡ 44 → rest ≡ drop 1 s
    → segments_from false segment s ≡ segment ∷ segments_from false [] rest
comma_step segment s rest l e d = rw (opened l d) (rw e refl)

pub kept_step : (segment s rest : List ℕ) {c : ℕ} → 1 < length s → get_or s 0 0 ≡ 92 → c ≡ get_or s 1 0 → c < 128 → rest ≡ drop 2 s
    → segments_from false segment s ≡ segments_from false (segment ++ encode_utf8 c) rest
kept_step segment (x ∷ y ∷ s) rest {c} l e f low d = rw (encode_ascii c low, d, e, f)
kept_step segment s rest l e f low d = absurd (omega arith)

-- a `\` in front of what is not ASCII, or at the end
pub skipped_step : (segment s rest : List ℕ) → get_or s 0 0 ≡ 92 → (1 < length s → 128 ≤ get_or s 1 0) → rest ≡ drop 1 s
    → segments_from false segment s ≡ segments_from false segment rest
skipped_step segment [] rest e h d = absurd (omega arith)
skipped_step segment (x ∷ []) rest e h d = rw (d, e)
skipped_step segment (x ∷ y ∷ s) rest e h d =
    let high : 128 ≤ y = h (omega arith) in
    let plain : is_list_special y ≡ false = grind (arith, nat_tests) in
    rw (d, e) (sym (plain_step segment s y plain))

-- what stands in front of a `\` or a comma
pub is_slash : (s : List ℕ) {front text : List ℕ} → Span (λ c. not (is_list_special c)) front text s → 0 < length s → get_or s 0 0 ≢ 44 → get_or s 0 0 ≡ 92
is_slash s p l n = let cut : not (is_list_special (get_or s 0 0)) ≡ false = ends_octet (λ c. not (is_list_special c)) s p.ends l in grind (arith, nat_tests)

-- what is left behind a segment's front is no longer than what was left before
pub shorter : {p : ℕ → Bool} {front text more rest : List ℕ} {size : ℕ} (n : ℕ) → Span p front text more → rest ≡ drop n more → length text ≤ size
    → length rest ≤ size
shorter {front} {more} n s d l = omega (arith, ap length s.cut, length-append front more, ap length d, length-drop n more)

pub last_some : (segment : List ℕ) → 0 < length segment → last_segment segment ≡ segment ∷ []
last_some [] l = absurd (omega arith)
last_some (c ∷ cs) l = refl

pub item_one : {text item other : List ℕ} → IsItem text item → IsItem text other → item ≡ other
item_one a b = let same = (first_one a.1 b.1).0 in cc

pub items_one : {segments items others : List (List ℕ)} → AreItems segments items → AreItems segments others → items ≡ others
items_one none none = refl
items_one (one_more k a) (one_more j b) = let first = item_one k j in let rest = items_one a b in cc
