-- CERT: a certificate (RFC 4398, 2).
use Rattle.std.specs.Prelude.{◌≡◌, ◌≢◌, ◌⊎◌, ℕ, ◌+◌, ◌-◌, ◌*◌, ◌/◌, ◌<◌, ◌≤◌, List, [], ◌∷◌, ◌++◌, codes, decimal, length, Result, Ok, Err}
use Rattle.base64.specs.{Engines.standard, GeneralPurpose.encode_of}
use Rattle.dns_types.specs.declared.error.DecodeError.{DecodeError}
use Rattle.dns_types.specs.declared.error.DecodeError.TheVariants as decode
use Rattle.dns_fields.specs.Fields.{Values}
use Rattle.dns_fields.specs.declared.Kind.{Kind, TheVariants.Number, TheVariants.Rest}
use Rattle.dns_rows.specs.{Table.kinds_of, Rules.MeetsRow}
use Rattle.dns_rows.specs.declared.row.TheConstants as rows
use Rattle.dns_names_wire.specs.{State.Reading, Terms.LacksOctets, Terms.UnlessMemory, Terms.Region, Terms.NoRegion, Facts.Facts, Facts.filling}
use Rattle.dns_rdata_base.specs.{Numbered.keyed, Ordered.by_keys}
use Rattle.dns_rdata_certs.specs.Enums.{cert_type_number, cert_type_variant, cert_type_of, cert_type_text, cert_algorithm_number}
use Rattle.dns_rdata_certs.specs.Enums.{cert_algorithm_variant, cert_algorithm_of, cert_algorithm_text}
use Rattle.dns_rdata_certs.specs.declared.cert.CERT.{CERT}

-- type, key tag, algorithm, certificate
abbrev pub cert_shape : List Kind
cert_shape = kinds_of rows.CERT

abbrev pub cert_fields : CERT → Values (kinds_of rows.CERT)
cert_fields x = (cert_type_number x.cert_type, (x.key_tag, (cert_algorithm_number x.algorithm, (x.cert_data, tt))))

-- the certificate has octets
abbrev pub MeetsCertCondition : Values cert_shape → Type 0
MeetsCertCondition vs = MeetsRow rows.CERT vs

-- what is compared: of each enum the number and then the variant
abbrev pub cert_key_shape : List Kind
cert_key_shape = Number 2 ∷ Number 1 ∷ Number 2 ∷ Number 1 ∷ Number 1 ∷ Rest ∷ []

abbrev pub cert_keys : CERT → Values cert_key_shape
cert_keys x = keyed cert_type_number cert_type_variant x.cert_type
    (x.key_tag, keyed cert_algorithm_number cert_algorithm_variant x.algorithm (x.cert_data, tt))

-- the enums are those of their numbers
pub record IsReadCert (x : CERT) : Type 0 where
  pub type : x.cert_type ≡ cert_type_of (cert_type_number x.cert_type)
  pub algorithm : x.algorithm ≡ cert_algorithm_of (cert_algorithm_number x.algorithm)

-- base64 (RFC 4648, 4)
abbrev pub cert_data_text : CERT → List ℕ
cert_data_text x = encode_of standard x.cert_data

-- the fields, a blank between
abbrev pub cert_text : CERT → List ℕ
cert_text x = cert_type_text x.cert_type ++ codes " " ++ decimal x.key_tag ++ codes " "
    ++ cert_algorithm_text x.algorithm ++ codes " "
    ++ cert_data_text x

-- ---- errors

-- the octets are a whole certificate record, and are rejected if they are none
abbrev pub ReadsWholeCert : List ℕ → Result CERT DecodeError → Type 0
ReadsWholeCert octets (Ok x) = Region octets 0 (length octets) cert_shape MeetsCertCondition (cert_fields x)
ReadsWholeCert octets (Err e) = UnlessMemory e (NoRegion octets 0 (length octets) cert_shape MeetsCertCondition)

-- of n octets: too few, or more than a record has
abbrev pub IsWholeCertError : ℕ → DecodeError → Type 0
IsWholeCertError n e =
    ((n ≤ 5) × (e ≡ decode.IncorrectRDataLengthRead n 6))
    ⊎ (((65535 < n) × (e ≡ decode.IncorrectRDataLengthRead n 65535))
    ⊎ ((5 < n) × (n ≤ 65535) × (e ≡ decode.Memory)))

abbrev pub cert_facts : Facts CERT
cert_facts = by_keys cert_key_shape cert_keys (filling rows.CERT cert_fields IsReadCert)
