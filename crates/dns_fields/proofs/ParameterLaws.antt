-- What a parameter's octets hold.
use Rattle.std.proofs.Common.{◌≡◌, ℕ, ◌≤◌, ◌<◌, ◌^◌, List, [], ◌∷◌, ◌++◌, length, refl, sym, ap, ◌∙◌, arith}
use Rattle.std.specs.{List.flat_map, List.AllByRecursion, Int.bytes_high_first}
use Rattle.std.proofs.lemmas.List.{length-append, append-nil}
use Rattle.dns_fields.specs.Tlvs.{string, ParameterValue, Mandatory, Alpn, NoDefaultAlpn, Port, Ipv4Hint, Ipv6Hint, Opaque, parameter_octets}
use Rattle.dns_fields.specs.Tlvs.{IsBody, ParameterHeld, ParameterFits}
use Rattle.dns_fields.proofs.{Numbers.length-bytes, Tlvs.parts, Tlvs.joined_same, Tlvs.number_first}

-- ---- lists of parts of a known length

string_first : (a b x y : List ℕ) → length a < 256 → length b < 256 → string a ++ x ≡ string b ++ y → (a ≡ b) × (x ≡ y)
string_first a b x y p q e =
    let f : length a ∷ (a ++ x) ≡ length b ∷ (b ++ y) = e in
    let n : length a ≡ length b = cc in
    let t : a ++ x ≡ b ++ y = cc in
    parts a x b y n t

pub strings_same : (a b : List (List ℕ)) → AllByRecursion (λ s. length s < 256) a → AllByRecursion (λ s. length s < 256) b
    → flat_map string a ≡ flat_map string b → a ≡ b
strings_same = joined_same string (λ s. length s < 256) (λ s h. omega arith) string_first

keys_same : (a b : List ℕ) → AllByRecursion (λ k. k < 256 ^ 2) a → AllByRecursion (λ k. k < 256 ^ 2) b
    → flat_map (bytes_high_first 2) a ≡ flat_map (bytes_high_first 2) b → a ≡ b
keys_same = joined_same (bytes_high_first 2) (λ k. k < 256 ^ 2) (λ k h. omega (arith, length-bytes 2 k)) number_first

groups_same : (n : ℕ) → 1 ≤ n → (a b : List (List ℕ)) → AllByRecursion (λ x. length x ≡ n) a → AllByRecursion (λ x. length x ≡ n) b
    → flat_map (λ x. x) a ≡ flat_map (λ x. x) b → a ≡ b
groups_same n some = joined_same (λ x. x) (λ x. length x ≡ n) (λ x h. omega (arith, h)) (λ x y r s h k. parts x r y s (h ∙ sym k))

-- ---- octets hold one value of a key, and a value's own octets hold it

pub parameter_once : (k : ℕ) (d : List ℕ) (v w : ParameterValue) → ParameterHeld k d v → ParameterHeld k d w → v ≡ w
parameter_once k d (Mandatory a) (Mandatory b) x y = ap Mandatory (keys_same a b x.1.1 y.1.1 (sym x.2 ∙ y.2))
parameter_once k d (Alpn a) (Alpn b) x y = ap Alpn (strings_same a b x.1.1 y.1.1 (sym x.2.1 ∙ y.2.1))
parameter_once k d NoDefaultAlpn NoDefaultAlpn x y = refl
parameter_once k d (Port a) (Port b) x y = ap Port (number_first a b x.2.0 y.2.0 x.1 y.1 (sym x.2.1 ∙ y.2.1)).0
parameter_once k d (Ipv4Hint a) (Ipv4Hint b) x y = ap Ipv4Hint (groups_same 4 (omega arith) a b x.1 y.1 (sym x.2 ∙ y.2))
parameter_once k d (Ipv6Hint a) (Ipv6Hint b) x y = ap Ipv6Hint (groups_same 16 (omega arith) a b x.1 y.1 (sym x.2 ∙ y.2))
parameter_once k d (Opaque a) (Opaque b) x y = ap Opaque (sym x.2 ∙ y.2)
parameter_once k d v w x y = let e = x.0 ∙ sym y.0 in absurd (cc e)

own_body : (v : ParameterValue) (d : List ℕ) → IsBody d v → IsBody (parameter_octets v) v
own_body (Alpn a) d x = (x.0, refl)
own_body (Port n) d x = ([], sym (append-nil (bytes_high_first 2 n)))
own_body v d x = refl

pub parameter_own : (k : ℕ) (d : List ℕ) (v : ParameterValue) → ParameterHeld k d v → ParameterHeld k (parameter_octets v) v
parameter_own k d v x = (x.0, x.1, own_body v d x.2)

body_long : (v : ParameterValue) (d : List ℕ) → IsBody d v → length (parameter_octets v) ≤ length d
body_long (Alpn a) d x = omega (arith, ap length x.1)
body_long NoDefaultAlpn d x = omega arith
body_long (Port n) d x = omega (arith, ap length x.1, length-append (bytes_high_first 2 n) x.0)
body_long v d x = omega (arith, ap length x)

pub parameter_fit : (k : ℕ) (d : List ℕ) (v : ParameterValue) → k < 256 ^ 2 → length d < 256 ^ 2 → ParameterHeld k d v → ParameterFits (k, v)
parameter_fit k d v p q x = ((p, omega (arith, q, body_long v d x.2)), x.1)
