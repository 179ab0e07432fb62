-- The octets of options in hexadecimal.
use Rattle.std.proofs.Common.{◌≡◌, ℕ, ◌+◌, ◌*◌, ◌%◌, ◌<◌, List, [], ◌∷◌, ◌++◌, length, take, get_or, map, refl, sym, ◌∙◌, ap, append_assoc, arith, add-one}
use Rattle.std.proofs.{Math.Seq.take-suc, Common.length-append, lemmas.List.append-nil, lemmas.Grind.flat_map-append}
use Rattle.std.specs.Int.{bytes_high_first}
use Rattle.hex.specs.Hex.{encode_lower}
use Rattle.dns_fields.specs.{declared.Kind.TheVariants.Number, Fields.field_octets, Fields.option_tlvs, Tlvs.as_tlv, Tlvs.option_octets, Tlvs.tlv, Tlvs.tlvs}
use Rattle.dns_fields.proofs.Tlvs.{length-tlv}
use Rattle.dns_rdata_options.specs.OPT.{Pair, pair_value}
use Rattle.dns_rdata_zone.specs.{Options.pair_octets, Options.options_octets, Tokens.tokens_from, Tokens.in_tokens, Tokens.left_after}
use Rattle.dns_rdata_zone.proofs.TokenSteps.{hex_tokens, after_more}

-- family, source prefix, scope prefix and address, as they are put together
pub subnet_head : (family source scope : ℕ) (address : List ℕ) → source < 256 → scope < 256
    → ((([] ++ field_octets (Number 2) family) ++ field_octets (Number 1) source) ++ field_octets (Number 1) scope) ++ address
    ≡ bytes_high_first 2 family ++ (source ∷ scope ∷ address)
unfolding field_octets
subnet_head family source scope address h k =
    let a : source % 256 ≡ source = omega arith in
    let b : scope % 256 ≡ scope = omega arith in
    rw (a, b) refl

-- code, length and value
pub pair_digits : (code len left next : ℕ) (value : List ℕ) → len ≡ length value → 2 * next ≡ left_after (2 * left) (2 * 4)
    → tokens_from (2 * left) (encode_lower (([] ++ field_octets (Number 2) code) ++ field_octets (Number 2) len)) ++ tokens_from (2 * next) (encode_lower value)
    ≡ tokens_from (2 * left) (encode_lower (tlv (code, value)))
unfolding field_octets
pair_digits code len left next value e f =
    let a = bytes_high_first 2 code in
    let b = bytes_high_first 2 len in
    let first = tokens_from (2 * left) (encode_lower (a ++ b)) in
    ap (λ (n : ℕ). first ++ tokens_from n (encode_lower value)) f
    ∙ sym (hex_tokens (2 * left) (a ++ b) value)
    ∙ ap (λ (s : List ℕ). tokens_from (2 * left) (encode_lower s)) (append_assoc a b value)
    ∙ ap (λ (n : ℕ). tokens_from (2 * left) (encode_lower (a ++ (bytes_high_first 2 n ++ value)))) e

-- one option more
options_more : (pairs : List Pair) (i : ℕ) (p : Pair) → i < length pairs → p ≡ get_or pairs i p
    → options_octets (take (i + 1) pairs) ≡ options_octets (take i pairs) ++ pair_octets p
options_more pairs i p h e =
    rw add-one (ap options_octets (take-suc pairs i p h) ∙ flat_map-append pair_octets (take i pairs) (get_or pairs i p ∷ [])
    ∙ ap (λ (t : List ℕ). options_octets (take i pairs) ++ t) (append-nil (pair_octets (get_or pairs i p)) ∙ ap pair_octets (sym e)))

pub option_written : (pairs : List Pair) (i left : ℕ) (p : Pair) → i < length pairs → p ≡ get_or pairs i p
    → 2 * left ≡ left_after 1020 (2 * length (options_octets (take i pairs)))
    → in_tokens (encode_lower (options_octets (take i pairs))) ++ tokens_from (2 * left) (encode_lower (pair_octets p))
    ≡ in_tokens (encode_lower (options_octets (take (i + 1) pairs)))
option_written pairs i left p h e f =
    let before = options_octets (take i pairs) in
    ap (λ (n : ℕ). in_tokens (encode_lower before) ++ tokens_from n (encode_lower (pair_octets p))) f
    ∙ sym (hex_tokens 1020 before (pair_octets p))
    ∙ ap (λ (s : List ℕ). in_tokens (encode_lower s)) (sym (options_more pairs i p h e))

pub option_left : (pairs : List Pair) (i left next len : ℕ) (p : Pair) → i < length pairs → p ≡ get_or pairs i p
    → 2 * left ≡ left_after 1020 (2 * length (options_octets (take i pairs))) → 2 * next ≡ left_after (2 * left) (2 * (4 + len))
    → len ≡ length (option_octets (pair_value p).1) → 2 * next ≡ left_after 1020 (2 * length (options_octets (take (i + 1) pairs)))
option_left pairs i left next len p h e f g size =
    let before = options_octets (take i pairs) in
    after_more 1020 left next (length before) (4 + len) (length (options_octets (take (i + 1) pairs))) f g
    (omega (arith, ap length (options_more pairs i p h e), length-append before (pair_octets p), length-tlv (as_tlv option_octets (pair_value p)), size))

-- the octets of options as those of a field
pub options_tlvs : (pairs : List Pair) → options_octets pairs ≡ tlvs (option_tlvs (map pair_value pairs))
options_tlvs [] = refl
options_tlvs (p ∷ pairs) = ap (λ (t : List ℕ). pair_octets p ++ t) (options_tlvs pairs)
