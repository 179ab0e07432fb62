-- TLSA: a certificate of a service (RFC 6698, 2.1).
use Rattle.std.specs.Prelude.{◌≡◌, ℕ, List, [], ◌∷◌, ◌++◌, codes, decimal}
use Rattle.hex.specs.Hex.{encode_lower}
use Rattle.dns_types.specs.declared.error.DecodeError.{DecodeError}
use Rattle.dns_fields.specs.Fields.{Values}
use Rattle.dns_fields.specs.declared.Kind.{Kind, TheVariants.Number, TheVariants.Rest}
use Rattle.dns_rows.specs.Table.{kinds_of}
use Rattle.dns_rows.specs.declared.row.TheConstants as rows
use Rattle.dns_names_wire.specs.{State.Reading, Facts.Facts, Facts.filling}
use Rattle.dns_rdata_base.specs.{Numbered.keyed, Ordered.by_keys}
use Rattle.dns_rdata_certs.specs.Enums.{selector_number, selector_variant, selector_of, matching_number, matching_variant, matching_of}
use Rattle.dns_rdata_certs.specs.Enums.{cert_usage_number, cert_usage_variant, cert_usage_of}
use Rattle.dns_rdata_certs.specs.{declared.tlsa.TLSA.TLSA}

-- usage, selector, matching type, data
abbrev pub tlsa_shape : List Kind
tlsa_shape = kinds_of rows.TLSA

abbrev pub tlsa_fields : TLSA → Values (kinds_of rows.TLSA)
tlsa_fields x =
    (cert_usage_number x.cert_usage, (selector_number x.selector, (matching_number x.matching, (x.cert_data, tt))))

-- what is compared: of each enum the number and then the variant
abbrev pub tlsa_key_shape : List Kind
tlsa_key_shape = Number 1 ∷ Number 1 ∷ Number 1 ∷ Number 1 ∷ Number 1 ∷ Number 1 ∷ Rest ∷ []

abbrev pub tlsa_keys : TLSA → Values tlsa_key_shape
tlsa_keys x = keyed cert_usage_number cert_usage_variant x.cert_usage (keyed selector_number selector_variant x.selector
    (keyed matching_number matching_variant x.matching (x.cert_data, tt)))

-- the enums are those of their numbers
pub record IsReadTlsa (x : TLSA) : Type 0 where
  pub usage : x.cert_usage ≡ cert_usage_of (cert_usage_number x.cert_usage)
  pub selector : x.selector ≡ selector_of (selector_number x.selector)
  pub matching : x.matching ≡ matching_of (matching_number x.matching)

-- the three numbers and the data in hexadecimal, a blank between
abbrev pub tlsa_text : TLSA → List ℕ
tlsa_text x = decimal (cert_usage_number x.cert_usage) ++ codes " " ++ decimal (selector_number x.selector) ++ codes " "
    ++ decimal (matching_number x.matching) ++ codes " " ++ encode_lower x.cert_data

abbrev pub tlsa_facts : Facts TLSA
tlsa_facts = by_keys tlsa_key_shape tlsa_keys (filling rows.TLSA tlsa_fields IsReadTlsa)
