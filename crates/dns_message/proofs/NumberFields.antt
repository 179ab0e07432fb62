-- Numbers in a message.
use Rattle.std.proofs.Common.{◌≡◌, ℕ, ◌+◌, ◌≤◌, List, length, length-take, take, drop, ap, sym, ◌∙◌, subst, arith}
use Rattle.std.proofs.lemmas.List.{take_all}
use Rattle.std.specs.Int.{bytes_high_first}
use Rattle.dns_fields.specs.{Fields.Field, declared.Kind.TheVariants.Number}
use Rattle.dns_fields.proofs.Numbers.{length-bytes}
use Rattle.dns_names_wire.specs.{State.Reading, Terms.TookField}
use Rattle.dns_names_wire.proofs.FieldReads.{took_number}

-- the number that a decoder took which began at p
pub number_there : {d new : Reading} {w n : ℕ} (m : List ℕ) (p : ℕ) → d ≡ record { message = m; index = p } → TookField d (Number w) n new
    → Field m p (Number w) n (p + w)
number_there {d} {new} {w} {n} m p is t =
    let i : d.index ≡ p = ap (λ (r : Reading). r.index) is in
    let l : d.message ≡ m = ap (λ (r : Reading). r.message) is in
    let end : new.index ≡ p + w = omega (arith, took_number t, i) in
    subst (λ (k : List ℕ). Field k p (Number w) n (p + w)) l
    (subst (λ (q : ℕ). Field d.message q (Number w) n (p + w)) i (subst (λ (q : ℕ). Field d.message d.index (Number w) n q) end t.field))

-- the number of k octets of a message
pub number_inside : {m : List ℕ} {p w n k : ℕ} → k ≡ w → p + w ≤ length m → Field (take k (drop p m)) 0 (Number w) n (0 + w) → Field m p (Number w) n (p + w)
number_inside {m} {p} {w} {n} {k} is within f =
    let octets = take k (drop p m) in
    let bytes = bytes_high_first w n in
    let size : length bytes ≡ w = length-bytes w n in
    let whole : take (length bytes) octets ≡ octets = take_all (length bytes) octets (omega (arith, size, is, length-take k (drop p m))) in
    record {
      is = (
        f.is.0,
        record {
          ends = omega (arith, size);
          within = within;
          same = ap (λ (i : ℕ). take i (drop p m)) (size ∙ sym is) ∙ sym whole ∙ f.is.1.same;
        },
      );
    }

-- where it ends
pub number_end : {m : List ℕ} {p w n q : ℕ} → Field m p (Number w) n q → (q ≡ p + w) × (q ≤ length m)
number_end {m} {p} {w} {n} {q} f =
    let at = f.is.1 in
    (omega (arith, at.ends, length-bytes w n), at.within)

-- the same offsets
pub moved : {m : List ℕ} {p w n r : ℕ} → Field m p (Number w) n r → (q s : ℕ) → p ≡ q → r ≡ s → Field m q (Number w) n s
moved {m} {p} {w} {n} {r} f q s e d = subst (λ (x : ℕ). Field m x (Number w) n s) e (subst (λ (y : ℕ). Field m p (Number w) n y) d f)
