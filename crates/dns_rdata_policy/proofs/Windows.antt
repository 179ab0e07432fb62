-- The octets of a window, from the numbers of its types.
use Rattle.std.proofs.Common.{◌≡◌, ℕ, zero, suc, ◌+◌, ◌-◌, ◌*◌, ◌/◌, ◌%◌, ◌<◌, ◌≤◌, ◌^◌, ◌==◌, ◌||◌, Bool, true, false, cond, inl, inr, List, ◌++◌}
use Rattle.std.proofs.Common.{length, get_or, take, replicate, bit_or, refl, sym, ap, ◌∙◌, arith}
use Rattle.std.specs.Int.{bit_at, bytes_high_first}
use Rattle.std.proofs.Math.ListN.{set}
use Rattle.std.proofs.lemmas.{Bool.cases_lt, Bool.Decides.eqb_tells, Bool.Decides.nat_tests, Nat.shr-shr, Grind.get_or-set_at}
use Rattle.std.proofs.lemmas.List.{Folds.list_any_more, get_or-set_other, get_or-replicate, get_or_append_left, get_or-append_right}
use Rattle.std.proofs.lemmas.Nat.Bits.{bit_at_set_same, bit_at_set_other, bit_at-zero, bit_at_cat_low, same_from_bits_below}
use Rattle.dns_fields.specs.{Octets.AreOctets, Bitmaps.contains, Bitmaps.Rises, Bitmaps.packed, Bitmaps.mark, Bitmaps.types_octet, Bitmaps.window}
use Rattle.dns_fields.proofs.Bitmaps.{packed_less, packed_bit, mark_small}
use Rattle.dns_rdata_policy.specs.RecordTypeSet.{AreOfWindow}
use Rattle.dns_rdata_policy.proofs.{Rising.last_at, WindowOctets.octets_are, WindowOctets.window_last}
use mir.Syntax.{Width, w8, w64}
use mir.Val.{bits}

-- ---- the octets of a number, and their bits

-- octet k of eight, the highest first
bytes_at : (w k : ℕ) → k < 8 → get_or (bytes_high_first 8 w) k 0 ≡ w / 2 ^ (8 * (7 - k)) % 2 ^ 8
bytes_at w (suc (suc (suc (suc (suc (suc (suc zero))))))) h = omega arith
bytes_at w (suc (suc (suc (suc (suc (suc (suc (suc k)))))))) h = absurd (omega arith)
bytes_at w x h = refl

octet_bit : (w a j : ℕ) → j < 8 → bit_at (w / 2 ^ a % 2 ^ 8) j ≡ bit_at w (a + j)
octet_bit w a j h =
    let x : ℕ = w / 2 ^ a in
    let parts : x ≡ x / 2 ^ 8 * 2 ^ 8 + x % 2 ^ 8 = omega arith in
    sym (ap (λ (y : ℕ). bit_at y j) parts ∙ bit_at_cat_low (x / 2 ^ 8) 8 (x % 2 ^ 8) j h) ∙ ap (λ (y : ℕ). y % 2) (shr-shr w a j)

-- ---- one bit more

set_bit : (w : Width) (a k i : ℕ) → k < bits w → bit_at (bit_or a (1 * 2 ^ k % 2 ^ bits w)) i ≡ cond (k == i) 1 (bit_at a i)
set_bit w a k i l = elim (eqb_tells k i) [
  | inl e ↦ rw (e.0, ← e.1) (bit_at_set_same w a k l)
  | inr e ↦ rw e.0 (bit_at_set_other w a k l i (λ s. e.1 (sym s)))
]

pub marked : (out : List ℕ) (b n : ℕ) → length out ≡ 32 → b < 256 → n < 256
    → bit_at (get_or (set out (b / 8) (bit_or (get_or out (b / 8) 0) (1 * 2 ^ (7 - b % 8) % 2 ^ 8))) (n / 8) 0) (7 - n % 8) ≡ cond (b == n) 1
    (bit_at (get_or out (n / 8) 0) (7 - n % 8))
marked out b n l h k =
    let v : ℕ = bit_or (get_or out (b / 8) 0) (1 * 2 ^ (7 - b % 8) % 2 ^ 8) in
    elim (eqb_tells (n / 8) (b / 8)) [
      | inl e ↦ (
          let same : (7 - b % 8 == 7 - n % 8) ≡ (b == n) = grind (arith, nat_tests, e.1) in
          ap (λ (x : ℕ). bit_at x (7 - n % 8)) (get_or-set_at out (b / 8) (n / 8) v 0 e.1 (omega arith))
          ∙ set_bit w8 (get_or out (b / 8) 0) (7 - b % 8) (7 - n % 8) (omega arith)
          ∙ rw (same, e.1) refl)
      | inr e ↦ (
          let other : (b == n) ≡ false = grind (arith, nat_tests, e.1) in
          rw other (ap (λ (x : ℕ). bit_at x (7 - n % 8)) (get_or-set_other out (b / 8) (n / 8) v 0 e.1)))
    ]

-- ---- the bits of all types of a run

-- the octets have the bits of these types of window k, and no others
pub record HasMarks (octets run : List ℕ) (k : ℕ) : Type 0 where
  pub bits : (n : ℕ) → n < 256 → bit_at (get_or octets (n / 8) 0) (7 - n % 8) ≡ mark run (256 * k + n)

-- the number has the bits of these types of window k, which are its first sixty-four
pub record HasFront (token : ℕ) (run : List ℕ) (k : ℕ) : Type 0 where
  pub low : (n : ℕ) → n < 64 → bit_at token (63 - n) ≡ mark run (256 * k + n)
  pub high : (n : ℕ) → 64 ≤ n → n < 256 → mark run (256 * k + n) ≡ 0

pub front_none : (run : List ℕ) (k : ℕ) → HasFront 0 (take 0 run) k
unfolding mark
front_none run k = record { low = λ n h. bit_at-zero (63 - n); high = λ n g h. refl }

-- what one type more marks
marks_one : (run : List ℕ) (i k n x : ℕ) → i < length run → get_or run i 0 / 256 ≡ k → n < 256 → x ≡ mark (take i run) (256 * k + n)
    → cond (get_or run i 0 % 256 == n) 1 x ≡ mark (take (i + 1) run) (256 * k + n)
unfolding mark
marks_one run i k n x l e h is =
    let u : ℕ = 256 * k + n in
    let same : (get_or run i 0 % 256 == n) ≡ (get_or run i 0 == u) = grind (arith, nat_tests) in
    rw (same, is) (both (contains u (take i run)) (get_or run i 0 == u) ∙ ap (λ (b : Bool). cond b 1 0) (sym (list_any_more (λ t. t == u) run i 0 l)))
  where
    both : (a b : Bool) → cond {A = ℕ} b 1 (cond a 1 0) ≡ cond {A = ℕ} (a || b) 1 0
    both true true = refl
    both true false = refl
    both false b = refl

pub front_more : (token : ℕ) (run : List ℕ) (i k : ℕ) → i < length run → get_or run i 0 / 256 ≡ k → get_or run i 0 % 256 < 64 → HasFront token (take i run) k
    → HasFront (bit_or token (1 * 2 ^ (63 - get_or run i 0 % 256) % 2 ^ 64)) (take (i + 1) run) k
front_more token run i k l e low a =
    let b : ℕ = get_or run i 0 % 256 in
    record {
      low = λ n h.
          let same : (63 - b == 63 - n) ≡ (b == n) = grind (arith, nat_tests, low, h) in
          set_bit w64 token (63 - b) (63 - n) (omega arith) ∙ rw same (marks_one run i k n (bit_at token (63 - n)) l e (omega arith) (a.low n h));
      high = λ n g h.
          let other : (b == n) ≡ false = grind (arith, nat_tests, low, g) in
          sym (rw other at (marks_one run i k n 0 l e h (sym (a.high n g h))));
    }

-- the octets of the number, and zeros behind them
pub front_marks : (octets run : List ℕ) (token k : ℕ) → HasFront token run k → octets ≡ bytes_high_first 8 token ++ replicate 24 0 → HasMarks octets run k
front_marks octets run token k f is = record {
  bits = λ n h. elim (cases_lt n 64) [
    | inl l ↦ ap (λ (x : ℕ). bit_at x (7 - n % 8)) (ap (λ (s : List ℕ). get_or s (n / 8) 0) is
        ∙ get_or_append_left (bytes_high_first 8 token) (replicate 24 0) 0 (n / 8) (omega arith) ∙ bytes_at token (n / 8) (omega arith))
        ∙ octet_bit token (8 * (7 - n / 8)) (7 - n % 8) (omega arith) ∙ ap (bit_at token) (omega arith) ∙ f.low n l
    | inr g ↦ ap (λ (x : ℕ). bit_at x (7 - n % 8)) (ap (λ (s : List ℕ). get_or s (n / 8) 0) is
        ∙ get_or-append_right (bytes_high_first 8 token) (replicate 24 0) 8 (n / 8) 0 refl (omega arith)
        ∙ get_or-replicate 24 (n / 8 - 8) 0 0 (omega arith)) ∙ bit_at-zero (7 - n % 8) ∙ sym (f.high n g h)
  ];
}

pub marks_more : (octets new run : List ℕ) (i k : ℕ) → i < length run → get_or run i 0 / 256 ≡ k → HasMarks octets (take i run) k
    → ((n : ℕ) → n < 256 → bit_at (get_or new (n / 8) 0) (7 - n % 8) ≡ cond (get_or run i 0 % 256 == n) 1 (bit_at (get_or octets (n / 8) 0) (7 - n % 8)))
    → HasMarks new (take (i + 1) run) k
marks_more octets new run i k l e a f = record { bits = λ n h. f n h ∙ marks_one run i k n _ l e h (a.bits n h) }

-- ---- octets by their bits

octet_is : (octets run : List ℕ) (k j : ℕ) → HasMarks octets run k → AreOctets octets → length octets ≡ 32 → j < 32 → get_or octets j 0 ≡ types_octet run k j
unfolding types_octet
octet_is octets run k j a are n l =
    let f : ℕ → ℕ = λ b. mark run (256 * k + (8 * j + b)) in
    let small : (b : ℕ) → f b < 2 = λ b. mark_small run (256 * k + (8 * j + b)) in
    same_from_bits_below 8 (get_or octets j 0) (packed f 8) (are j 0 (omega (arith, n))) (packed_less f small 8) (λ i m.
    let b : ℕ = 7 - i in
    let of : (8 * j + b) / 8 ≡ j = omega arith in
    let bit : 7 - (8 * j + b) % 8 ≡ i = omega arith in
    let back : 8 - 1 - b ≡ i = omega arith in
    rw (of, bit) at (a.bits (8 * j + b) (omega arith)) ∙ sym (rw back at (packed_bit f small 8 b (omega arith))))

-- the octets up to that of the last type are the window's
pub window_is : (octets run : List ℕ) (k n : ℕ) → HasMarks octets run k → length octets ≡ 32 → AreOctets octets → Rises run → AreOfWindow k run
    → length run ≡ suc n
    → take (get_or run n 0 % 256 / 8 + 1) octets ≡ window run k
window_is octets run k n a len are rises of l =
    let last : ℕ = get_or run n 0 in
    ap (take (last % 256 / 8 + 1)) (octets_are run k octets len (λ j m. octet_is octets run k j a are len m))
    ∙ sym (window_last run k last (last_at run n k rises (omega (arith, l)) (of n 0 (omega (arith, l))) (λ more. absurd (omega (arith, more, l)))))
