-- Digits written in tokens, one token after the other.
use Rattle.std.proofs.Common.{◌≡◌, ◌≢◌, ℕ, zero, suc, ◌+◌, ◌-◌, ◌*◌, ◌/◌, ◌<◌, ◌≤◌, List, [], ◌∷◌, ◌++◌, length, take, drop, replicate, refl, sym, ◌∙◌, ap, append_assoc, arith, decimal}
use Rattle.std.proofs.Common.{length-append, length-drop}
use Rattle.std.proofs.lemmas.List.{append-nil, length-replicate, length-take, take_all, take-append-drop}
use Rattle.hex.specs.Hex.{encode_lower, lower_digits}
use Rattle.hex.proofs.HexLemmas.{length-encode_with}
use Rattle.base64.specs.{Engines.standard, Rfc4648.encode_symbols, Rfc4648.padding_len, GeneralPurpose.encode_of}
use Rattle.dns_rdata_zone.specs.{Generic.generic, Tokens.tokens_from, Tokens.left_after}
use Rattle.dns_rdata_zone.proofs.{Digits.generic_is, Digits.hex_append, TokenTokens.tokens_append, TokenTokens.tokens_fit, TokenTokens.tokens_full, TokenTokens.after_fits, TokenTokens.after_full}

-- ---- hexadecimal

hex_length : (s : List ℕ) → length (encode_lower s) ≡ 2 * length s
hex_length s = length-encode_with lower_digits s

some_behind : (s : List ℕ) → 0 < length s → s ≢ []
some_behind s h e = let none : length s ≡ 0 = ap length e in omega (arith, none)

-- what a slice has from an index on
rest_from : (n : ℕ) (s : List ℕ) → n < length s → take (length s - n) (drop n s) ≡ drop n s
rest_from n s h = take_all (length s - n) (drop n s) (omega (arith, length-drop n s))

-- octets of which the current token takes n, in an alphabet
token_step : (digits : List ℕ → List ℕ) (left n : ℕ) (rest text whole : List ℕ) → n < length rest → length (digits (take n rest)) ≡ left
    → 0 < length (digits (drop n rest)) → digits (take n rest ++ drop n rest) ≡ digits (take n rest) ++ digits (drop n rest)
    → text ++ tokens_from left (digits rest) ≡ whole
    → (text ++ (digits (take n rest) ++ 32 ∷ [])) ++ tokens_from 1020 (digits (take (length rest - n) (drop n rest))) ≡ whole
token_step digits left n rest text whole h size more both w =
    let a = digits (take n rest) in
    let b = digits (drop n rest) in
    let e = rest_from n rest h in
    rw e (
    append_assoc text (a ++ 32 ∷ []) (tokens_from 1020 b)
    ∙ ap (λ (t : List ℕ). text ++ t) (append_assoc a (32 ∷ []) (tokens_from 1020 b) ∙ sym (tokens_full left a b size (some_behind b more)))
    ∙ ap (λ (t : List ℕ). text ++ tokens_from left t) (sym both)
    ∙ ap (λ (s : List ℕ). text ++ tokens_from left (digits s)) (take-append-drop n rest)
    ∙ w
    )

-- one token is full
pub hex_step : (left : ℕ) (rest text whole : List ℕ) → left < length rest → text ++ tokens_from (2 * left) (encode_lower rest) ≡ whole
    → (text ++ (encode_lower (take left rest) ++ 32 ∷ [])) ++ tokens_from 1020 (encode_lower (take (length rest - left) (drop left rest))) ≡ whole
hex_step left rest text whole h w = token_step encode_lower (2 * left) left rest text whole h
    (omega (arith, hex_length (take left rest), length-take left rest))
    (omega (arith, hex_length (drop left rest), length-drop left rest)) (hex_append (take left rest) (drop left rest)) w

-- the last one takes the rest
pub hex_last : (left : ℕ) (rest text whole : List ℕ) → length rest ≤ left → text ++ tokens_from (2 * left) (encode_lower rest) ≡ whole
    → text ++ encode_lower rest ≡ whole
hex_last left rest text whole h w =
    ap (λ (t : List ℕ). text ++ t) (sym (tokens_fit (2 * left) (encode_lower rest) (omega (arith, hex_length rest)))) ∙ w

-- octets and others after them
pub hex_tokens : (left : ℕ) (a b : List ℕ) → tokens_from left (encode_lower (a ++ b))
    ≡ tokens_from left (encode_lower a) ++ tokens_from (left_after left (2 * length a)) (encode_lower b)
hex_tokens left a b =
    ap (tokens_from left) (hex_append a b) ∙ tokens_append left (encode_lower a) (encode_lower b)
    ∙ ap (λ (n : ℕ). tokens_from left (encode_lower a) ++ tokens_from (left_after left n) (encode_lower b)) (hex_length a)

pub after_octets : (left n : ℕ) → n ≤ left → left_after (2 * left) (2 * n) ≡ 2 * (left - n)
after_octets left n h = omega (arith, after_fits (2 * left) (2 * n) (omega arith))

pub after_token : (left n : ℕ) → left < n → left_after (2 * left) (2 * n) ≡ left_after 1020 (2 * (n - left))
after_token left n h = after_full (2 * left) (2 * n) (2 * (n - left)) (omega arith) (omega arith)

-- ---- base64

symbols_append : (t : List ℕ) (k : ℕ) (a b : List ℕ) → length a ≡ 3 * k → encode_symbols t (a ++ b) ≡ encode_symbols t a ++ encode_symbols t b
unfolding encode_symbols
symbols_append t k [] b h = refl
symbols_append t zero (x ∷ a) b h = absurd (omega arith)
symbols_append t (suc k) (x ∷ []) b h = absurd (omega arith)
symbols_append t (suc k) (x ∷ y ∷ []) b h = absurd (omega arith)
symbols_append t (suc k) (x ∷ y ∷ z ∷ a) b h = let behind = symbols_append t k a b (omega arith) in rw behind refl

abbrev symbols : List ℕ
symbols = standard.encode_table

-- the `=` after so many octets
abbrev padding : ℕ → List ℕ
padding n = replicate (padding_len n) 61

padding_length : (n : ℕ) → length (padding n) ≡ padding_len n
padding_length n = length-replicate (padding_len n) _

base64_size : (a : List ℕ) → length (encode_symbols symbols a) + padding_len (length a) ≡ 4 * ((length a + 2) / 3)
unfolding encode_symbols
base64_size [] = refl
base64_size (x ∷ []) = refl
base64_size (x ∷ y ∷ []) = refl
base64_size (x ∷ y ∷ z ∷ a) =
    let behind = base64_size a in
    let pad : padding_len (3 + length a) ≡ padding_len (length a) = omega arith in
    omega (arith, behind, pad)

base64_length : (a : List ℕ) → length (encode_of standard a) ≡ 4 * ((length a + 2) / 3)
base64_length a = omega (
  arith,
  length-append (encode_symbols symbols a) (padding (length a)),
  padding_length (length a),
  base64_size a,
)

pad_same : (n m : ℕ) → padding_len n ≡ padding_len m → padding n ≡ padding m
pad_same n m e = rw e refl

full_padding : (n : ℕ) → n ≡ 765 → padding n ≡ []
full_padding n h = rw h refl

-- octets of whole groups, and others after them
base64_append : (a b : List ℕ) → length a ≡ 765 → encode_of standard (a ++ b) ≡ encode_of standard a ++ encode_of standard b
base64_append a b h =
    let s = encode_symbols symbols a in
    let u = encode_symbols symbols b in
    let pad = padding (length b) in
    let long = length-append a b in
    let same : padding_len (length (a ++ b)) ≡ padding_len (length b) = omega (arith, h, long) in
    let own : encode_of standard a ≡ s = ap (λ (t : List ℕ). s ++ t) (full_padding (length a) h) ∙ append-nil s in
    ap (λ (t : List ℕ). t ++ padding (length (a ++ b))) (symbols_append symbols 255 a b h)
    ∙ ap (λ (t : List ℕ). (s ++ u) ++ t) (pad_same (length (a ++ b)) (length b) same)
    ∙ append_assoc s u pad
    ∙ ap (λ (t : List ℕ). t ++ encode_of standard b) (sym own)

-- one token is full
pub base64_step : (rest text whole : List ℕ) → 765 < length rest → text ++ tokens_from 1020 (encode_of standard rest) ≡ whole
    → (text ++ (encode_of standard (take 765 rest) ++ 32 ∷ [])) ++ tokens_from 1020 (encode_of standard (take (length rest - 765) (drop 765 rest))) ≡ whole
base64_step rest text whole h w =
    let long : length (take 765 rest) ≡ 765 = omega (arith, length-take 765 rest) in
    token_step (encode_of standard) 1020 765 rest text whole h (omega (arith, base64_length (take 765 rest), long))
    (omega (arith, base64_length (drop 765 rest), length-drop 765 rest)) (base64_append (take 765 rest) (drop 765 rest) long) w

-- the last one takes the rest
pub base64_last : (rest text whole : List ℕ) → length rest ≤ 765 → text ++ tokens_from 1020 (encode_of standard rest) ≡ whole
    → text ++ encode_of standard rest ≡ whole
base64_last rest text whole h w =
    ap (λ (t : List ℕ). text ++ t) (sym (tokens_fit 1020 (encode_of standard rest) (omega (arith, base64_length rest)))) ∙ w

-- ---- from the beginning of a token on

-- octets that the first token takes, and others after them
pub front_tokens : (left : ℕ) (a b : List ℕ) → left + length a ≡ 510
    → encode_lower a ++ tokens_from (2 * left) (encode_lower b) ≡ tokens_from 1020 (encode_lower (a ++ b))
front_tokens left a b h =
    let first : tokens_from 1020 (encode_lower a) ≡ encode_lower a = tokens_fit 1020 (encode_lower a) (omega (arith, hex_length a)) in
    let after : left_after 1020 (2 * length a) ≡ 2 * left = omega (arith, after_octets 510 (length a) (omega arith)) in
    sym (hex_tokens 1020 a b ∙ ap (λ (t : List ℕ). t ++ tokens_from (left_after 1020 (2 * length a)) (encode_lower b)) first
    ∙ ap (λ (n : ℕ). encode_lower a ++ tokens_from n (encode_lower b)) after)

-- octets that one token takes, as unknown data
pub generic_short : (s : List ℕ) (n : ℕ) → n ≡ length s → 1 ≤ n → n ≤ 510 → 92 ∷ 35 ∷ 32 ∷ (decimal n ++ 32 ∷ encode_lower s) ≡ generic s
generic_short s n e h k =
    ap (λ (t : List ℕ). 92 ∷ 35 ∷ 32 ∷ (decimal n ++ 32 ∷ t)) (sym (tokens_fit 1020 (encode_lower s) (omega (arith, hex_length s, e)))) ∙ generic_is s n e h

after_append : (left n m k : ℕ) → k ≡ n + m → left_after left k ≡ left_after (left_after left n) m
after_append left zero m k e = let same : k ≡ m = omega arith in ap (left_after left) same
after_append left (suc n) m zero e = absurd (omega arith)
after_append zero (suc n) m (suc k) e = after_append 1019 n m k (omega arith)
after_append (suc left) (suc n) m (suc k) e = after_append left n m k (omega arith)

-- what the token takes after octets, and after more
pub after_more : (start left next n m k : ℕ) → 2 * left ≡ left_after start (2 * n) → 2 * next ≡ left_after (2 * left) (2 * m) → k ≡ n + m
    → 2 * next ≡ left_after start (2 * k)
after_more start left next n m k e f g =
    f ∙ ap (λ (l : ℕ). left_after l (2 * m)) e ∙ sym (after_append start (2 * n) (2 * m) (2 * k) (omega arith))

-- the same of two
pub two_fronts : (left : ℕ) (a b c : List ℕ) → left + length (a ++ b) ≡ 510
    → encode_lower a ++ (encode_lower b ++ tokens_from (2 * left) (encode_lower c)) ≡ tokens_from 1020 (encode_lower (a ++ (b ++ c)))
two_fronts left a b c h =
    sym (append_assoc (encode_lower a) (encode_lower b) (tokens_from (2 * left) (encode_lower c)))
    ∙ ap (λ (t : List ℕ). t ++ tokens_from (2 * left) (encode_lower c)) (sym (hex_append a b))
    ∙ front_tokens left (a ++ b) c h
    ∙ ap (λ (s : List ℕ). tokens_from 1020 (encode_lower s)) (append_assoc a b c)
