-- Any octets are the octets of a number.
use Rattle.std.proofs.Common.{◌≡◌, ℕ, zero, suc, ◌+◌, ◌-◌, ◌*◌, ◌/◌, ◌%◌, ◌^◌, ◌<◌, ◌≤◌, List, [], ◌∷◌, length, refl, sym, ap, ◌∙◌, arith, pow-suc, pow-add}
use Rattle.std.proofs.Common.{mul_comm}
use Rattle.std.specs.Int.{byte_at, bytes_high_first}
use Rattle.std.proofs.{Math.Nat.pow-le-pow_right, Math.Nat.mul-add-div, Math.Nat.mod-eq_of_lt, lemmas.Nat.div-mul-add, lemmas.Nat.mul-add-lt}
use Rattle.dns_fields.specs.Octets.{AreOctets}
use Rattle.dns_fields.proofs.OctetLaws.{AreOctets-head, AreOctets-tail}

some_unit : (k : ℕ) → 0 < 256 ^ k
some_unit k = pow-le-pow_right {n = 256} (omega arith) {i = 0} {j = k} (omega arith)

byte_div : (i n : ℕ) → byte_at i n ≡ n / 256 ^ i % 256
byte_div zero n = omega arith
byte_div (suc i) n = refl

digits_apart : (u r x n : ℕ) → 0 < u → (x * (u * (256 * r)) + n) / u % 256 ≡ n / u % 256
digits_apart u r x n some =
    let y = x * r in
    let e : x * (u * (256 * r)) + n ≡ u * (256 * y) + n = omega arith in
    let d : (u * (256 * y) + n) / u ≡ 256 * y + n / u = mul-add-div some (256 * y) n in
    rw (e, d) (omega arith)

-- a higher digit leaves the lower octets as they are
byte_low : (i j x n : ℕ) → byte_at i (x * 256 ^ (i + suc j) + n) ≡ byte_at i n
byte_low i j x n =
    let p : 256 ^ (i + suc j) ≡ 256 ^ i * (256 * 256 ^ j) = pow-add 256 i (suc j) ∙ ap (λ (t : ℕ). 256 ^ i * t) (pow-suc 256 j ∙ mul_comm (256 ^ j) 256) in
    byte_div i (x * 256 ^ (i + suc j) + n) ∙ rw p (digits_apart (256 ^ i) (256 ^ j) x n (some_unit i)) ∙ sym (byte_div i n)

byte_below : (k i x n : ℕ) → i < k → byte_at i (x * 256 ^ k + n) ≡ byte_at i n
byte_below k i x n h =
    let e : k ≡ i + suc (k - i - 1) = omega arith in
    ap (λ (t : ℕ). byte_at i (x * 256 ^ t + n)) e ∙ byte_low i (k - i - 1) x n

bytes_below : (k j x n : ℕ) → j ≤ k → bytes_high_first j (x * 256 ^ k + n) ≡ bytes_high_first j n
bytes_below k zero x n h = refl
bytes_below k (suc j) x n h =
    let a : byte_at j (x * 256 ^ k + n) ≡ byte_at j n = byte_below k j x n (omega arith) in
    let b : bytes_high_first j (x * 256 ^ k + n) ≡ bytes_high_first j n = bytes_below k j x n (omega arith) in
    rw (a, b) refl

-- the number of these octets
pub record NumberOf (s : List ℕ) : Type 0 where
  pub number : ℕ
  pub small : number < 256 ^ length s
  pub same : bytes_high_first (length s) number ≡ s

number_more : (x : ℕ) (s : List ℕ) → x < 256 → NumberOf s → NumberOf (x ∷ s)
number_more x s h n =
    let u = 256 ^ length s in
    let lt : n.number < u = n.small in
    let d : (x * u + n.number) / u ≡ x = div-mul-add x u n.number lt in
    let b : byte_at (length s) (x * u + n.number) ≡ x = byte_div (length s) (x * u + n.number) ∙ rw d (mod-eq_of_lt h) in
    let low : bytes_high_first (length s) (x * u + n.number) ≡ s = bytes_below (length s) (length s) x n.number (omega arith) ∙ n.same in
    record {
      number = x * u + n.number;
      small = rw (pow-suc 256 (length s)) (mul-add-lt x u n.number 256 h lt);
      same = rw (b, low) refl;
    }

pub number_of : (s : List ℕ) → AreOctets s → NumberOf s
number_of [] h = record { number = 0; small = omega arith; same = refl }
number_of (x ∷ s) h = number_more x s (AreOctets-head x s h) (number_of s (AreOctets-tail x s h))
