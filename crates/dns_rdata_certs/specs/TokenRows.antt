-- The tokens of each record, and which values print in tokens that give them back.
use Rattle.std.specs.{Prelude.◌≡◌, Prelude.◌≢◌, Prelude.ℕ, Prelude.◌^◌, Prelude.◌<◌, Prelude.List, Prelude.[], Prelude.◌∷◌, Prelude.Ok, List.flat_map}
use Rattle.dns_fields.specs.{Octets.AreOctets, declared.Kind.TheVariants.Rest}
use Rattle.dns_tokens.specs.Forms.{Form, TokenRow, token, ignored, nothing, number, base64}
use Rattle.dns_rdata_certs.specs.Enums.{cert_usage_number, matching_number, selector_number, sshfp_algorithm_number, fingerprint_type_number}
use Rattle.dns_rdata_certs.specs.{CERT.cert_shape, HEX.octets_of_hex, SSHFP.sshfp_shape, SSHFP.IsReadSshfp}
use Rattle.dns_rdata_certs.specs.{TLSA.tlsa_shape, TLSA.IsReadTlsa, declared.sshfp.SSHFP.SSHFP, declared.tlsa.TLSA.TLSA}

-- hexadecimal digits; the token has a character
abbrev pub hex_digits : Form Rest
hex_digits = record { is = λ octets token. (token ≢ []) × (octets_of_hex token ≡ Ok octets) }

-- hexadecimal digits of one octet or more
abbrev pub IsSomeHex : List ℕ → List ℕ → Type 0
IsSomeHex text octets = (octets_of_hex text ≡ Ok octets) × (octets ≢ [])

-- all further tokens, one after the other, are hexadecimal digits of one octet or more
abbrev pub joined_hex : TokenRow (Rest ∷ [])
joined_hex = record { stand = λ vs tokens. IsSomeHex (flat_map (λ token. token) tokens) vs.0 }

-- type, key tag, algorithm, certificate
abbrev pub cert_tokens : TokenRow cert_shape
cert_tokens = token (number 2) (token (number 2) (token (number 1) (token base64 ignored)))

-- algorithm, fingerprint type, fingerprint
abbrev pub sshfp_tokens : TokenRow sshfp_shape
sshfp_tokens = token (number 1) (token (number 1) (token hex_digits nothing))

-- usage, selector, matching type, data; SMIMEA has the same (RFC 8162, 2)
abbrev pub tlsa_tokens : TokenRow tlsa_shape
tlsa_tokens = token (number 1) (token (number 1) (token (number 1) joined_hex))

-- ---- values whose printed tokens give them back

pub record IsPrintedSshfp (x : SSHFP) : Type 0 where
  pub enums : IsReadSshfp x
  pub algorithm : sshfp_algorithm_number x.algorithm < 2 ^ 8
  pub type : fingerprint_type_number x.fingerprint_type < 2 ^ 8
  pub octets : AreOctets x.fingerprint
  pub some : x.fingerprint ≢ []

pub record IsPrintedTlsa (x : TLSA) : Type 0 where
  pub enums : IsReadTlsa x
  pub usage : cert_usage_number x.cert_usage < 2 ^ 8
  pub selector : selector_number x.selector < 2 ^ 8
  pub matching : matching_number x.matching < 2 ^ 8
  pub octets : AreOctets x.cert_data
  pub some : x.cert_data ≢ []
