-- Runs of octets of one kind.
use Rattle.std.proofs.{lemmas.List.Sums.prefix_len-le-length, lemmas.List.Sums.prefix_len_passes, lemmas.List.Sums.prefix_len_stops, lemmas.List.take_all, lemmas.List.length-drop, lemmas.Bool.cases_lt, Common.inl, Common.inr, Common.zero, Common.suc, lemmas.Bool.and_from, lemmas.Bool.Decides.nat_tests}
use Rattle.std.proofs.lemmas.Str.{IsCharBoundary-start, IsCharBoundary-end, IsCharBoundary-before_ascii, IsCharBoundary-after_ascii}
use Rattle.std.proofs.Common.{◌≡◌, ◌++◌, sym, ◌∙◌, ℕ, ◌+◌, ◌-◌, ◌<◌, ◌≤◌, Bool, true, false, cond, List, [], ◌∷◌, length, take, drop, get_or, refl, ap, subst, arith}
use Rattle.std.specs.{Str.IsUtf8, Str.IsCharBoundary, Cmp.first_so, Cmp.second_so, List.prefix_len, Prelude.◌⊎◌}
use Rattle.dns_tokens.specs.{Octets.AllOf, Octets.BeginsOtherwise, Octets.Span, Kinds.is_of, declared.text.spans.Kind.Kind}
use Rattle.dns_tokens.specs.declared.text.spans.Kind.TheVariants as kind

-- octets are cut in one way
pub split_once : (p : ℕ → Bool) (a x b y : List ℕ) → a ++ x ≡ b ++ y → AllOf p a → BeginsOtherwise p x → AllOf p b → BeginsOtherwise p y → (a ≡ b) × (x ≡ y)
split_once p [] x [] y e ha hx hb hy = (refl, e)
split_once p [] x (d ∷ b) y e ha hx hb hy =
    let h : p d ≡ false = subst (λ (l : List ℕ). BeginsOtherwise p l) e hx in
    let k : p d ≡ true = first_so _ _ hb in
    cc
split_once p (c ∷ a) x [] y e ha hx hb hy =
    let h : p c ≡ false = subst (λ (l : List ℕ). BeginsOtherwise p l) (sym e) hy in
    let k : p c ≡ true = first_so _ _ ha in
    cc
split_once p (c ∷ a) x (d ∷ b) y e ha hx hb hy =
    let first : c ≡ d = cc in
    let rest : a ++ x ≡ b ++ y = cc in
    let r = split_once p a x b y rest (second_so (p c) _ ha) hx (second_so (p d) _ hb) hy in
    (ap (λ (z : ℕ). z ∷ a) first ∙ ap (λ (z : List ℕ). d ∷ z) r.0, r.1)

-- front passes, and rest begins otherwise
abbrev SpanOf : (ℕ → Bool) → ℕ → List ℕ → Type 0
SpanOf p n text = Span p (take n text) text (drop n text)

span_by : (p : ℕ → Bool) (c : ℕ) (cs : List ℕ) (b : Bool) → p c ≡ b → (n : ℕ) → SpanOf p n cs → SpanOf p (cond b (1 + n) 0) (c ∷ cs)
span_by p c cs true e n s =
    let more : SpanOf p (suc n) (c ∷ cs) = record { cut = ap (λ (x : List ℕ). c ∷ x) s.cut; each = and_from _ _ e s.each; ends = s.ends } in
    let same : suc n ≡ 1 + n = omega arith in
    subst (λ (k : ℕ). SpanOf p k (c ∷ cs)) same more
span_by p c cs false e n s = record { cut = refl; each = refl; ends = e }

pub span_prefix : (p : ℕ → Bool) (text : List ℕ) → SpanOf p (prefix_len p text) text
span_prefix p [] = record { cut = refl; each = refl; ends = tt }
span_prefix p (c ∷ cs) = span_by p c cs (p c) refl (prefix_len p cs) (span_prefix p cs)

pub split_span : {p : ℕ → Bool} {text front rest : List ℕ} {n : ℕ} → n ≡ prefix_len p text → front ≡ take n text → rest ≡ drop n text → Span p front text rest
split_span {p} {text} e f r = rw (f, r, e) (span_prefix p text)

-- a run of ASCII ends at a character's edge
edge_after : {p : ℕ → Bool} {text : List ℕ} {n : ℕ} → n ≡ prefix_len p text → IsUtf8 text → ((c : ℕ) → p c ≡ true → c < 128) → IsCharBoundary text n
edge_after {text} {n = zero} e u low = IsCharBoundary-start text u
edge_after {p} {text} {n = suc n} e u low =
    let passes = prefix_len_passes p text n 0 (omega arith) in
    let small : get_or text n 0 < 128 = low _ passes in
    let within : n < length text = omega (arith, prefix_len-le-length p text) in
    let edge : IsCharBoundary text (n + 1) = IsCharBoundary-after_ascii text n u within small in
    let same : n + 1 ≡ suc n = omega arith in
    subst (λ (k : ℕ). IsCharBoundary text k) same edge

-- what passes at the front is counted first
prefix_from : (p : ℕ → Bool) (s : List ℕ) (n : ℕ) → n ≤ length s → ((k : ℕ) → k < n → p (get_or s k 0) ≡ true)
    → n + prefix_len p (drop n s) ≡ prefix_len p s
prefix_from p s zero w h = omega arith
prefix_from p [] (suc n) w h = absurd (omega arith)
prefix_from p (c ∷ s) (suc n) w h =
    let more : n + prefix_len p (drop n s) ≡ prefix_len p s = prefix_from p s n (omega arith) (λ k lt. h (suc k) (omega arith)) in
    rw (h 0 (omega arith)) (omega arith)

pub counted : (p : ℕ → Bool) (s octets : List ℕ) {n m : ℕ} → octets ≡ s → n ≤ length octets → ((k : ℕ) → k < n → p (get_or octets k 0) ≡ true)
    → m ≡ prefix_len p (take (length octets - n) (drop n octets)) → n + m ≡ prefix_len p s
counted p s octets {n} same w h e =
    rw (e, take_all (length octets - n) (drop n octets) (omega (arith, length-drop n octets))) (prefix_from p octets n w h ∙ ap (λ (t : List ℕ). prefix_len p t) same)

-- octets that fail are ASCII
edge_before : (p : ℕ → Bool) (text : List ℕ) {n : ℕ} → n ≡ prefix_len p text → ((c : ℕ) → p c ≡ false → c < 128) → IsCharBoundary text n
edge_before p text {n} e low = by (cases_lt n (length text))
  where
    within : n ≤ length text
    within = omega (arith, prefix_len-le-length p text)

    by : (n < length text) ⊎ (length text ≤ n) → IsCharBoundary text n
    by (inl inside) =
        let fails : p (get_or text (prefix_len p text) 0) ≡ false = prefix_len_stops p text 0 (omega arith) in
        IsCharBoundary-before_ascii text n inside (rw e (low _ fails))
    by (inr over) = subst (λ (k : ℕ). IsCharBoundary text k) (omega (arith, within)) (IsCharBoundary-end text)

pub edge_of : (k : Kind) {text : List ℕ} {n : ℕ} → n ≡ prefix_len (is_of k) text → IsUtf8 text → IsCharBoundary text n
edge_of kind.Blank e u = edge_after e u (λ c h. grind (arith, nat_tests))
edge_of kind.Gap e u = edge_after e u (λ c h. grind (arith, nat_tests))
edge_of kind.Digit e u = edge_after e u (λ c h. grind (arith, nat_tests))
edge_of kind.Line e u = edge_before _ _ e (λ c h. grind (arith, nat_tests))
edge_of kind.Run e u = edge_before _ _ e (λ c h. grind (arith, nat_tests))
edge_of kind.Plain e u = edge_before _ _ e (λ c h. grind (arith, nat_tests))
edge_of kind.Segment e u = edge_before _ _ e (λ c h. grind (arith, nat_tests))
