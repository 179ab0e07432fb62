-- The steps by which a text is cut into tokens.
use Rattle.std.proofs.Common.{◌≡◌, ◌≢◌, ℕ, ◌<◌, Bool, true, false, not, List, [], ◌∷◌, length, drop, get_or, refl, sym, ◌∙◌, arith, inl, inr}
use Rattle.std.proofs.lemmas.Bool.Decides.{nat_tests}
use Rattle.std.specs.Prelude.{◌==◌, ◌⊎◌}
use Rattle.dns_tokens.specs.{Tokens.LineEnd.line_feed, Tokens.LineEnd.both, Tokens.LineEnd.return, Octets.is_line_end, Octets.BeginsOtherwise, Octets.Span}
use Rattle.dns_tokens.specs.Tokens.{LineEnd, Comment, Comment.comment}
use Rattle.dns_tokens.proofs.{SpanSteps.split_once, Firsts.opened}

-- a line end
pub two_octets : (s rest : List ℕ) → 1 < length s → get_or s 0 0 ≡ 13 → get_or s 1 0 ≡ 10 → rest ≡ drop 2 s → LineEnd s rest
two_octets (x ∷ y ∷ s) rest l a b d = rw d (both a b)
two_octets s rest l a b d = absurd (omega arith)

pub end_octet : (c : ℕ) → is_line_end c ≡ true → (c ≡ 10) ⊎ (c ≡ 13)
end_octet c e = by (c == 10) refl
  where
    by : (b : Bool) → c == 10 ≡ b → (c ≡ 10) ⊎ (c ≡ 13)
    by true h = inl (grind (arith, nat_tests))
    by false h = inr (grind (arith, nat_tests))

pub one_octet : (s rest : List ℕ) → 0 < length s → is_line_end (get_or s 0 0) ≡ true → (get_or s 0 0 ≡ 13 → 1 < length s → get_or s 1 0 ≢ 10)
    → rest ≡ drop 1 s → LineEnd s rest
one_octet [] rest l e n d = absurd (omega arith)
one_octet (x ∷ s) rest l e n d = rw d (by (end_octet x e))
  where
    other : (t : List ℕ) → (1 < length (x ∷ t) → get_or (x ∷ t) 1 0 ≢ 10) → BeginsOtherwise (λ c. c == 10) t
    other [] h = tt
    other (y ∷ t) h = let ne : y ≢ 10 = h (omega arith) in grind (arith, nat_tests)

    by : (x ≡ 10) ⊎ (x ≡ 13) → LineEnd (x ∷ s) s
    by (inl h) = line_feed h
    by (inr h) = return h (other s (n h))

-- a comment
pub skips_one : {s behind more remark : List ℕ} → 0 < length s → get_or s 0 0 ≡ 59 → behind ≡ drop 1 s → Span (λ c. not (is_line_end c)) remark behind more
    → Comment s more
skips_one {remark} l e d p = rw (opened l d) (comment remark e p)

-- a run of octets is cut off in one way
pub span_one : {p : ℕ → Bool} {f g t r s : List ℕ} → Span p f t r → Span p g t s → (f ≡ g) × (r ≡ s)
span_one {p} {f} {g} {t} {r} {s} a b = split_once p f r g s (sym a.cut ∙ b.cut) a.each a.ends b.each b.ends
