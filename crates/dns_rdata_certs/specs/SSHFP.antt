-- SSHFP: the fingerprint of a host's key (RFC 4255, 3.1).
use Rattle.std.specs.Prelude.{◌≡◌, ℕ, List, [], ◌∷◌, ◌++◌, codes, decimal}
use Rattle.hex.specs.Hex.{encode_lower}
use Rattle.dns_types.specs.declared.error.DecodeError.{DecodeError}
use Rattle.dns_fields.specs.Fields.{Values}
use Rattle.dns_fields.specs.declared.Kind.{Kind, TheVariants.Number, TheVariants.Rest}
use Rattle.dns_rows.specs.Table.{kinds_of}
use Rattle.dns_rows.specs.declared.row.TheConstants as rows
use Rattle.dns_names_wire.specs.{State.Reading, Facts.Facts, Facts.filling}
use Rattle.dns_rdata_base.specs.{Numbered.keyed, Ordered.by_keys}
use Rattle.dns_rdata_certs.specs.{declared.sshfp.SSHFP.SSHFP}
use Rattle.dns_rdata_certs.specs.Enums.{sshfp_algorithm_number, sshfp_algorithm_variant, sshfp_algorithm_of, fingerprint_type_number}
use Rattle.dns_rdata_certs.specs.Enums.{fingerprint_type_variant, fingerprint_type_of}

-- algorithm, fingerprint type, fingerprint
abbrev pub sshfp_shape : List Kind
sshfp_shape = kinds_of rows.SSHFP

abbrev pub sshfp_fields : SSHFP → Values (kinds_of rows.SSHFP)
sshfp_fields x = (sshfp_algorithm_number x.algorithm, (fingerprint_type_number x.fingerprint_type, (x.fingerprint, tt)))

-- what is compared: of each enum the number and then the variant
abbrev pub sshfp_key_shape : List Kind
sshfp_key_shape = Number 1 ∷ Number 1 ∷ Number 1 ∷ Number 1 ∷ Rest ∷ []

abbrev pub sshfp_keys : SSHFP → Values sshfp_key_shape
sshfp_keys x = keyed sshfp_algorithm_number sshfp_algorithm_variant x.algorithm
    (keyed fingerprint_type_number fingerprint_type_variant x.fingerprint_type (x.fingerprint, tt))

-- the enums are those of their numbers
pub record IsReadSshfp (x : SSHFP) : Type 0 where
  pub algorithm : x.algorithm ≡ sshfp_algorithm_of (sshfp_algorithm_number x.algorithm)
  pub type : x.fingerprint_type ≡ fingerprint_type_of (fingerprint_type_number x.fingerprint_type)

-- the two numbers and the fingerprint in hexadecimal, a blank between
abbrev pub sshfp_text : SSHFP → List ℕ
sshfp_text x = decimal (sshfp_algorithm_number x.algorithm) ++ codes " "
    ++ decimal (fingerprint_type_number x.fingerprint_type) ++ codes " "
    ++ encode_lower x.fingerprint

abbrev pub sshfp_facts : Facts SSHFP
sshfp_facts =
    by_keys sshfp_key_shape sshfp_keys (filling rows.SSHFP sshfp_fields IsReadSshfp)
