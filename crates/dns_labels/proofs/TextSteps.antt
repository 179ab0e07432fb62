-- Texts of an octet.
use Rattle.std.proofs.Common.{◌≡◌, ◌≢◌, ℕ, ◌+◌, ◌-◌, ◌*◌, ◌/◌, ◌%◌, ◌<◌, ◌≤◌, Bool, true, false, cond, nat_le, List, [], ◌∷◌, length, take, get_or, refl, arith}
use Rattle.std.proofs.lemmas.Bool.Decides.{nat_tests}
use Rattle.std.specs.Prelude.{◌||◌, ◌&&◌, ◌==◌}
use Rattle.dns_labels.specs.Text.{OctetText.plain, OctetText.decimal, OctetText.quoted, OctetText, IsGraphic, printed}

pub read_plain : (s : List ℕ) → 1 ≤ length s → IsGraphic (get_or s 0 0) → get_or s 0 0 ≢ 46 → get_or s 0 0 ≢ 92 → OctetText (get_or s 0 0) (take 1 s)
read_plain [] h g a b = absurd (omega arith)
read_plain (c ∷ s) h g a b = plain g a b

pub read_quoted : (s : List ℕ) → 2 ≤ length s → get_or s 0 0 ≡ 92 → IsGraphic (get_or s 1 0) → (48 ≤ get_or s 1 0 → 57 < get_or s 1 0)
    → OctetText (get_or s 1 0) (take 2 s)
read_quoted (c ∷ d ∷ s) h e g a = rw e (quoted g a)
read_quoted s h e g a = absurd (omega arith)

digit : (d : ℕ) → 48 ≤ d → 48 + (d - 48) ≡ d
digit d h = omega arith

abbrev IsDigit : ℕ → Type 0
IsDigit d = (48 ≤ d) × (d ≤ 57)

decimal_of : (n h t o : ℕ) → IsDigit h → IsDigit t → IsDigit o → n ≡ (h - 48) * 100 + (t - 48) * 10 + (o - 48) → n < 256 → OctetText n (92 ∷ h ∷ t ∷ o ∷ [])
decimal_of n h t o dh dt do' e low =
    let k : OctetText n (92 ∷ (48 + (h - 48)) ∷ (48 + (t - 48)) ∷ (48 + (o - 48)) ∷ []) = decimal (h - 48) (t - 48) (o - 48) (omega arith) (omega arith)
    (omega arith) (omega arith) low in
    rw (digit h dh.0, digit t dt.0, digit o do'.0) at k

pub read_decimal : (s : List ℕ) (n : ℕ) → 4 ≤ length s → get_or s 0 0 ≡ 92 → IsDigit (get_or s 1 0) → IsDigit (get_or s 2 0) → IsDigit (get_or s 3 0)
    → n ≡ (get_or s 1 0 - 48) * 100 + (get_or s 2 0 - 48) * 10 + (get_or s 3 0 - 48) → n < 256 → OctetText n (take 4 s)
read_decimal (w ∷ x ∷ y ∷ z ∷ s) n l e a b d v low = rw e (decimal_of n x y z a b d v low)
read_decimal s n l e a b d v low = absurd (omega arith)

-- by which of the two tests passed
by_tests : (c : ℕ) (p q : Bool) → (c == 46 || c == 92) ≡ p → (nat_le 33 c && nat_le c 126) ≡ q → c < 256
    → OctetText c (cond p (92 ∷ c ∷ []) (cond q (c ∷ []) (92 ∷ (48 + c / 100) ∷ (48 + c / 10 % 10) ∷ (48 + c % 10) ∷ [])))
by_tests c true q e f low = quoted (grind (arith, nat_tests), grind (arith, nat_tests)) (λ k. grind (arith, nat_tests))
by_tests c false true e f low =
    plain (grind (arith, nat_tests), grind (arith, nat_tests)) (λ k. grind (arith, nat_tests)) (λ k. grind (arith, nat_tests))
by_tests c false false e f low = decimal (c / 100) (c / 10 % 10) (c % 10) (omega arith) (omega arith) (omega arith) (omega arith) low

pub printed_text : (c : ℕ) → c < 256 → OctetText c (printed c)
printed_text c low = by_tests c (c == 46 || c == 92) (nat_le 33 c && nat_le c 126) refl refl low
