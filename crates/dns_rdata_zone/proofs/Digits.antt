-- Hexadecimal digits, and the unknown-data form.
use Rattle.std.proofs.lemmas.List.{append-nil}
use Rattle.std.proofs.Common.{◌≡◌, ℕ, ◌/◌, ◌%◌, ◌≤◌, List, [], ◌∷◌, ◌++◌, length, codes, decimal, refl, sym, ◌∙◌, ap, append_assoc, arith, length-append}
use Rattle.std.specs.Prelude.{flat_map, slice_index}
use Rattle.hex.specs.Hex.{encode_with, encode_lower, lower_digits}
use Rattle.dns_fields.specs.Labels.{DomainName, wire, lowname}
use Rattle.dns_fields.proofs.NameLaws.{lowname_length}
use Rattle.dns_rdata_zone.specs.{Generic.generic, Names.zone_label, Tokens.in_tokens}

-- ---- lists that a loop writes

pub labels_more : (text label : List ℕ) (old rest : List (List ℕ)) (whole : List ℕ) → old ≡ label ∷ rest
    → text ++ flat_map zone_label old ≡ whole → (text ++ zone_label label) ++ flat_map zone_label rest ≡ whole
labels_more text label old rest whole e w =
    append_assoc text (zone_label label) (flat_map zone_label rest) ∙ ap (λ (l : List (List ℕ)). text ++ flat_map zone_label l) (sym e) ∙ w

pub labels_all : (text : List ℕ) (old : List (List ℕ)) (whole : List ℕ) → old ≡ [] → text ++ flat_map zone_label old ≡ whole → text ≡ whole
labels_all text old whole e w = sym (append-nil text) ∙ ap (λ (l : List (List ℕ)). text ++ flat_map zone_label l) (sym e) ∙ w

with_append : (t a b : List ℕ) → encode_with t (a ++ b) ≡ encode_with t a ++ encode_with t b
unfolding encode_with
with_append t [] b = refl
with_append t (x ∷ a) b = ap (λ (r : List ℕ). slice_index t (x / 16) ∷ slice_index t (x % 16) ∷ r) (with_append t a b)

pub hex_append : (a b : List ℕ) → encode_lower (a ++ b) ≡ encode_lower a ++ encode_lower b
hex_append a b = with_append lower_digits a b

pub hex_none : encode_lower [] ≡ []
unfolding encode_with
hex_none = refl

pub hex_zero : encode_lower (0 ∷ []) ≡ codes "00"
unfolding encode_with
hex_zero = refl

-- the digits of a name's labels, and of the 0 after them
pub name_digits : (octets : List ℕ) (labels : List (List ℕ)) → octets ≡ wire labels → encode_lower octets ++ codes "00" ≡ encode_lower (wire labels ++ 0 ∷ [])
name_digits octets labels e =
    ap (λ (o : List ℕ). encode_lower o ++ codes "00") e
    ∙ ap (λ (t : List ℕ). encode_lower (wire labels) ++ t) (sym hex_zero)
    ∙ sym (hex_append (wire labels) (0 ∷ []))

-- ---- the unknown-data form

pub generic_is : (s : List ℕ) (n : ℕ) → n ≡ length s → 1 ≤ n → 92 ∷ 35 ∷ 32 ∷ (decimal n ++ 32 ∷ in_tokens (encode_lower s)) ≡ generic s
generic_is [] n e h = absurd (omega arith)
generic_is (c ∷ s) n e h =
    rw e (ap (λ (t : List ℕ). 92 ∷ 35 ∷ 32 ∷ t) (sym (append_assoc (decimal (length (c ∷ s))) (32 ∷ []) (in_tokens (encode_lower (c ∷ s))))))

pub length_low : (x : DomainName) → length (lowname x) ≡ length (wire x.labels ++ 0 ∷ [])
length_low x = omega (arith, lowname_length x, length-append (wire x.labels) (0 ∷ []))
