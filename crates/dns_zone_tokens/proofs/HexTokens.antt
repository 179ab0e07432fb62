-- Hexadecimal digits in tokens, one token after the other.
use Rattle.std.proofs.Common.{◌≡◌, ℕ, ◌+◌, ◌*◌, ◌%◌, false, List, [], ◌∷◌, ◌++◌, length, take, drop, Result, Ok, Err, Option, Some, None, refl, sym, ap, ◌∙◌, arith}
use Rattle.std.proofs.{lemmas.List.append-nil, lemmas.List.length-append, lemmas.List.take-append-drop, Math.Seq.take-append_seam, Common.append_assoc}
use Rattle.std.specs.Result.{result_unwrap_or}
use Rattle.hex.specs.declared.error.FromHexError.{FromHexError}
use Rattle.hex.specs.Hex.{decode_of as hex_of, decode_pairs, pair_value, digit_or_error, hex_digit_value, ◌>>=◌}
use Rattle.hex.proofs.{HexLemmas.decode_of-ok, HexLemmas.decode_of-even, Pairs.decode_pairs-ok_pair, Pairs.cons_byte}
use Rattle.dns_zone_tokens.specs.{Tokens.Token, Remaining.AreHex, Remaining.joined, TokenSteps.PutHex}
use Rattle.dns_zone_tokens.proofs.RemainingSteps.{bare_more, joined_more}

-- ---- digits after digits

bind_ok : {A B : Type 0} (r : Result A FromHexError) (f : A → Result B FromHexError) (y : B) → (r >>= f) ≡ Ok y → (x : A) × (r ≡ Ok x) × (f x ≡ Ok y)
bind_ok (Ok x) f y h = (x, refl, h)
bind_ok (Err e) f y h = cc h

-- where in a text a pair is does not matter
two_any : (a b i j v : ℕ) (o p : Option ℕ)
    → (digit_or_error a i o >>= (λ h. digit_or_error b (i + 1) p >>= (λ l. Ok (h * 16 + l)))) ≡ Ok v
    → (digit_or_error a j o >>= (λ h. digit_or_error b (j + 1) p >>= (λ l. Ok (h * 16 + l)))) ≡ Ok v
two_any a b i j v (Some x) (Some y) h = h
two_any a b i j v (Some x) None h = cc h
two_any a b i j v None p h = cc h

pair_any : (a b i j v : ℕ) → pair_value a b i ≡ Ok v → pair_value a b j ≡ Ok v
pair_any a b i j v h = two_any a b i j v (hex_digit_value a) (hex_digit_value b) h

pairs_any : (i j : ℕ) (s bytes : List ℕ) → decode_pairs i s ≡ Ok bytes → decode_pairs j s ≡ Ok bytes
unfolding decode_pairs
pairs_any i j [] bytes h = h
pairs_any i j (a ∷ []) bytes h = cc h
pairs_any i j (a ∷ b ∷ rest) bytes h =
    let p = bind_ok (pair_value a b i) _ bytes h in
    let q = bind_ok (decode_pairs (i + 2) rest) _ bytes p.2 in
    decode_pairs-ok_pair j a b p.0 rest (pair_any a b i j p.0 p.1) ∙ ap (cons_byte p.0) (pairs_any (i + 2) (j + 2) rest q.0 q.1) ∙ q.2

pairs_append : (i j : ℕ) (s t xs ys : List ℕ) → decode_pairs i s ≡ Ok xs → decode_pairs j t ≡ Ok ys → decode_pairs i (s ++ t) ≡ Ok (xs ++ ys)
unfolding decode_pairs
pairs_append i j [] t xs ys h k =
    let e : [] ≡ xs = ap (λ (r : Result (List ℕ) FromHexError). result_unwrap_or r []) h in
    rw (← e) (pairs_any j i t ys k)
pairs_append i j (a ∷ []) t xs ys h k = cc h
pairs_append i j (a ∷ b ∷ rest) t xs ys h k =
    let p = bind_ok (pair_value a b i) _ xs h in
    let q = bind_ok (decode_pairs (i + 2) rest) _ xs p.2 in
    let e : p.0 ∷ q.0 ≡ xs = ap (λ (r : Result (List ℕ) FromHexError). result_unwrap_or r []) q.2 in
    decode_pairs-ok_pair i a b p.0 (rest ++ t) p.1 ∙ ap (cons_byte p.0) (pairs_append (i + 2) j rest t q.0 ys q.1 k)
    ∙ ap (λ (zs : List ℕ). Ok (zs ++ ys)) e

hex_append : (s t xs ys : List ℕ) → hex_of s ≡ Ok xs → hex_of t ≡ Ok ys → hex_of (s ++ t) ≡ Ok (xs ++ ys)
hex_append s t xs ys h k =
    let even = (decode_of-ok s xs h).0 in
    let other = (decode_of-ok t ys k).0 in
    let both : length (s ++ t) % 2 ≡ 0 = omega (arith, length-append s t) in
    decode_of-even (s ++ t) both
    ∙ pairs_append 0 0 s t xs ys (sym (decode_of-even s even) ∙ h) (sym (decode_of-even t other) ∙ k)

-- ---- tokens of which each has whole octets

-- the octets of the tokens so far were appended
pub record HexSoFar (before now : List ℕ) (tokens : List Token) : Type 0 where
  pub octets : List ℕ
  pub are : AreHex octets tokens
  pub same : now ≡ before ++ octets

pub no_hex : (before : List ℕ) → HexSoFar before before []
unfolding decode_pairs
no_hex before = record { octets = []; are = record { bare = tt; digits = refl }; same = sym (append-nil before) }

pub hex_more : {before now after : List ℕ} (token : Token) → token.quoted ≡ false → PutHex token.octets now after → (tokens : List Token)
    → HexSoFar before now tokens → HexSoFar before after (tokens ++ token ∷ [])
hex_more {before} token bare put tokens so = record {
  octets = so.octets ++ put.octets;
  are = record {
    bare = bare_more tokens token so.are.bare bare;
    digits = ap hex_of (joined_more tokens token) ∙ hex_append (joined tokens) token.octets so.octets put.octets so.are.digits put.are;
  };
  same = put.same ∙ ap (λ (x : List ℕ). x ++ put.octets) so.same ∙ append_assoc before so.octets put.octets;
}

-- what was there before them still is, as long as no more than the octets after them changes
pub hex_kept : {before now : List ℕ} {tokens : List Token} (after : List ℕ) → HexSoFar before now tokens → take (length now) after ≡ now
    → take (length before) after ≡ before
hex_kept {before} {now} after so kept =
    let all : after ≡ before ++ (so.octets ++ drop (length now) after) =
    sym (take-append-drop (length now) after) ∙ ap (λ (x : List ℕ). x ++ drop (length now) after) (kept ∙ so.same)
    ∙ append_assoc before so.octets (drop (length now) after) in
    ap (take (length before)) all ∙ take-append_seam before (so.octets ++ drop (length now) after)

pub hex_front : {before now : List ℕ} {tokens : List Token} → HexSoFar before now tokens → take (length before) now ≡ before
hex_front {before} so = ap (take (length before)) so.same ∙ take-append_seam before so.octets
