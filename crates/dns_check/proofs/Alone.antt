-- A field whose octets are a message of their own.
use Rattle.std.proofs.Common.{◌≡◌, ℕ, ◌+◌, ◌-◌, ◌≤◌, inl, inr, List, ◌++◌, length, take, drop, sym, ap, ◌∙◌, arith, subst}
use Rattle.std.proofs.lemmas.List.{take_all, drop-drop, length-take, length-drop}
use Rattle.std.proofs.Math.Seq.{take-add}
use Rattle.dns_fields.specs.declared.Kind.TheVariants.{CharacterStrings, Options, Parameters, Bitmap}
use Rattle.dns_fields.specs.{Octets.At, Tlvs.IsTruncated, Fields.Value, Fields.IsField, Fields.Field}

-- octets between two offsets
pub between_is : {m s : List ℕ} {i p : ℕ} → At m i s p → take (p - i) (drop i m) ≡ s
between_is {m} {s} {i} {p} a = let n : p - i ≡ length s = omega (arith, a.ends) in ap (λ (k : ℕ). take k (drop i m)) n ∙ a.same

abbrev pub slice : List ℕ → ℕ → ℕ → List ℕ
slice m i p = take (p - i) (drop i m)

pub slice_at : (m : List ℕ) (i p : ℕ) → i ≤ p → p ≤ length m → At m i (slice m i p) p
slice_at m i p le inside =
    let n : length (slice m i p) ≡ p - i = omega (arith, length-take (p - i) (drop i m), length-drop i m, le, inside) in
    record { ends = omega (arith, n, le); within = inside; same = ap (λ (k : ℕ). take k (drop i m)) n }

-- octets that are there, and those after them
pub whole_slice : {m s : List ℕ} {i p : ℕ} (e : ℕ) → At m i s p → p ≤ e → slice m i e ≡ s ++ slice m p e
whole_slice {m} {s} {i} {p} e w h =
    let n : e - i ≡ length s + (e - p) = omega (arith, w.ends) in
    ap (λ (k : ℕ). take k (drop i m)) n ∙ take-add (length s) (e - p) (drop i m) ∙ ap (λ (z : List ℕ). z ++ take (e - p) (drop (length s) (drop i m))) w.same
    ∙ ap (λ (z : List ℕ). s ++ take (e - p) z) (drop-drop (length s) i m ∙ ap (λ (k : ℕ). drop k m) (sym w.ends))

at_alone : {m s x : List ℕ} {i q : ℕ} → At m i x q → s ≡ take (q - i) (drop i m) → At s 0 x (length s)
at_alone {m} {s} {x} {i} {q} a e =
    let same : s ≡ x = e ∙ between_is a in
    let whole : take (length x) s ≡ x = ap (take (length x)) same ∙ take_all (length x) x (omega arith) in
    record { ends = omega (arith, ap length same); within = omega arith; same = whole }

size_alone : {m s x : List ℕ} {i q : ℕ} → At m i x q → s ≡ take (q - i) (drop i m) → q - i ≡ length s - 0
size_alone {m} {s} {x} {i} {q} a e = omega (arith, a.ends, ap length (e ∙ between_is a))

pub bitmap_alone : {m s : List ℕ} {i q : ℕ} (v : Value Bitmap) → s ≡ take (q - i) (drop i m) → Field m i Bitmap v q → Field s 0 Bitmap v (length s)
bitmap_alone v same f = record {
  is = record {
    blocks = f.is.blocks;
    at = at_alone f.is.at same;
    fit = f.is.fit;
    set = f.is.set;
    types = f.is.types;
  };
}

pub parameters_alone : {m s : List ℕ} {i q : ℕ} (v : Value Parameters) → s ≡ take (q - i) (drop i m) → Field m i Parameters v q
    → Field s 0 Parameters v (length s)
parameters_alone v same f = record {
  is = record {
    read = f.is.read;
    at = at_alone f.is.at same;
    fit = f.is.fit;
    held = f.is.held;
    rising = f.is.rising;
  };
}

pub strings_alone : {m s : List ℕ} {i q : ℕ} (v : Value CharacterStrings) → s ≡ take (q - i) (drop i m) → Field m i CharacterStrings v q
    → Field s 0 CharacterStrings v (length s)
strings_alone v same f = record { is = (f.is.0, at_alone f.is.1 same) }

pub options_alone : {m s : List ℕ} {i q : ℕ} (v : Value Options) → s ≡ take (q - i) (drop i m) → IsField m i Options v q → IsField s 0 Options v (length s)
options_alone v same (inl c) = inl (record { read = c.read; at = at_alone c.at same; fit = c.fit; held = c.held })
options_alone v same (inr h) = inr (
  h.0,
  record {
    read = h.1.read;
    dropped = h.1.dropped;
    stub = h.1.stub;
    at = at_alone h.1.at same;
    fit = h.1.fit;
    held = h.1.held;
    cut = subst (λ (n : ℕ). IsTruncated n h.1.stub) (size_alone h.1.at same) h.1.cut;
  },
)
