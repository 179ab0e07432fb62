-- Hexadecimal tokens: read, and read back where they were printed.
use Rattle.std.proofs.Common.{◌≡◌, ◌≢◌, ℕ, zero, suc, ◌/◌, ◌%◌, ◌<◌, ◌≤◌, false, List, [], ◌∷◌, Option, None, Result, Ok, Err, inl, inr, slice_index}
use Rattle.std.proofs.Common.{refl, ap, subst, ◌∙◌, arith}
use Rattle.std.proofs.lemmas.{Bool.Decides.nat_tests, Bool.cases_lt, List.append-nil, List.Elements.All-head, List.Elements.All-tail}
use Rattle.hex.specs.Hex.{encode_lower, encode_with, lower_digits, decode_of, hex_digit_value}
use Rattle.hex.proofs.HexLemmas.{decode_of-encode_lower, IsDigits-lower_digits}
use Rattle.dns_types.specs.declared.error.ParseError.{ParseError}
use Rattle.dns_fields.specs.{Octets.AreOctets, declared.Kind.TheVariants.Rest, Fields.Values}
use Rattle.dns_tokens.specs.{Reads.AreJoined, Reads.Decides, Reads.ReadsTokenRow, Printed.TextReadsBack}
use Rattle.dns_tokens.proofs.Steps.{joined_taken, unless_map}
use Rattle.dns_tokens.proofs.Printed.{IsSolid, GivesBack, GiveBack, token_row_back, back_token, back_nothing, number_back}
use Rattle.dns_rdata_certs.specs.{SSHFP.sshfp_fields, SSHFP.sshfp_text, TLSA.tlsa_fields, TLSA.tlsa_text}
use Rattle.dns_rdata_certs.specs.HEX.{is_white_space, without_blanks, octets_of_hex}
use Rattle.dns_rdata_certs.specs.TokenRows.{hex_digits, IsSomeHex, joined_hex, sshfp_tokens, tlsa_tokens, IsPrintedSshfp, IsPrintedTlsa}

module _ {S I : Type 0} (gives : I → Option S → I → Type 0) (text : S → List ℕ) where
  -- what the digits of all further tokens give is what the tokens give
  pub hex_read : {s : I} (joined digits : List ℕ) (r : Result (List ℕ) ParseError) → AreJoined gives text s joined → digits ≡ joined
      → Decides (IsSomeHex digits) (λ x. x) r → ReadsTokenRow gives text joined_hex (λ x. (x, tt)) r s
  hex_read joined digits (Ok x) d e h = record { tokens = joined_taken (λ all. IsSomeHex all x) joined d (subst (λ (all : List ℕ). IsSomeHex all x) e h) }
  hex_read joined digits (Err y) d e h = record {
    none = unless_map y _ _ (λ no. joined_taken (λ all. (vs : Values (Rest ∷ [])) → IsSomeHex all vs.0 → ⊥) joined d (subst (λ (all : List ℕ). (vs : Values (Rest ∷ [])) → IsSomeHex all vs.0 → ⊥) e (λ vs is. no.none vs.0 is))) h;
  }

-- ---- printed digits

low_none : (c : ℕ) → c < 48 → hex_digit_value c ≡ None
low_none c h = grind (arith, nat_tests)

high_digit : (d : ℕ) → d < 16 → 33 ≤ slice_index lower_digits d
high_digit d lt =
    elim (cases_lt (slice_index lower_digits d) 48) [
      | inl low ↦ absurd (cc (low_none (slice_index lower_digits d) low, IsDigits-lower_digits d lt))
      | inr high ↦ omega arith
    ]

solid_hex : (s : List ℕ) → AreOctets s → IsSolid (encode_with lower_digits s)
unfolding encode_with
solid_hex [] h = tt
solid_hex (b ∷ s) h =
    let fits : b < 256 = All-head (λ (x : ℕ). x < 256) b s h in
    (high_digit (b / 16) (omega arith), (high_digit (b % 16) (omega arith), solid_hex s (All-tail (λ (x : ℕ). x < 256) b s h)))

solid_kept : (s : List ℕ) → IsSolid s → without_blanks s ≡ s
solid_kept [] h = refl
solid_kept (c ∷ s) h =
    let high : 33 ≤ c = h.0 in
    let kept : is_white_space c ≡ false = grind (arith, nat_tests) in
    rw kept (ap (λ (l : List ℕ). c ∷ l) (solid_kept s h.1))

are_bytes : (s : List ℕ) (h : AreOctets s) (i : ℕ) → slice_index s i < 256
are_bytes [] h i = omega arith
are_bytes (c ∷ s) h zero = All-head (λ (x : ℕ). x < 256) c s h
are_bytes (c ∷ s) h (suc k) = are_bytes s (All-tail (λ (x : ℕ). x < 256) c s h) k

hex_octets : (s : List ℕ) → AreOctets s → octets_of_hex (encode_lower s) ≡ Ok s
hex_octets s h = ap decode_of (solid_kept (encode_lower s) (solid_hex s h)) ∙ decode_of-encode_lower s (are_bytes s h)

hex_some : (s : List ℕ) → s ≢ [] → encode_with lower_digits s ≢ []
unfolding encode_with
hex_some [] h e = h refl
hex_some (c ∷ s) h e = absurd cc

digits_back : (s : List ℕ) → AreOctets s → s ≢ [] → GivesBack hex_digits s (encode_lower s)
digits_back s h some = record { is = (hex_some s some, hex_octets s h); solid = solid_hex s h }

joined_back : (s : List ℕ) → AreOctets s → s ≢ [] → GiveBack joined_hex (s, tt) (encode_lower s ∷ [])
joined_back s h some = record { stand = rw (append-nil (encode_lower s)) (hex_octets s h, some); solid = (solid_hex s h, tt) }

pub sshfp_back : TextReadsBack sshfp_tokens sshfp_fields sshfp_text IsPrintedSshfp
sshfp_back = record {
  back = λ x h. token_row_back sshfp_tokens (sshfp_fields x) _ (_ ∷ _ ∷ []) _ refl
      (back_token (number_back 1 _ h.algorithm (omega (arith, h.algorithm))) (back_token (number_back 1 _ h.type (omega (arith, h.type))) (back_token (digits_back x.fingerprint h.octets h.some) back_nothing)));
}

pub tlsa_back : TextReadsBack tlsa_tokens tlsa_fields tlsa_text IsPrintedTlsa
tlsa_back = record {
  back = λ x h. token_row_back tlsa_tokens (tlsa_fields x) _ (_ ∷ _ ∷ _ ∷ []) _ refl
      (back_token (number_back 1 _ h.usage (omega (arith, h.usage))) (back_token (number_back 1 _ h.selector (omega (arith, h.selector)))
      (back_token (number_back 1 _ h.matching (omega (arith, h.matching))) (joined_back x.cert_data h.octets h.some))));
}
