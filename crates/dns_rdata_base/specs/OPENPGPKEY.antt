-- OPENPGPKEY: a public key (RFC 7929, 2.1).
use Rattle.std.specs.Prelude.{ℕ, List, [], ◌∷◌}
use Rattle.base64.specs.{Engines.standard, GeneralPurpose.encode_of}
use Rattle.dns_fields.specs.Fields.{Values}
use Rattle.dns_fields.specs.declared.Kind.{Kind, TheVariants.Rest}
use Rattle.dns_rows.specs.Table.{kinds_of}
use Rattle.dns_rows.specs.declared.row.TheConstants as rows
use Rattle.dns_types.specs.declared.error.DecodeError.{DecodeError}
use Rattle.dns_names_wire.specs.{State.Reading, Facts.Facts, Facts.filling}
use Rattle.dns_tokens.specs.Forms.{TokenRow, token, nothing, base64}
use Rattle.dns_rdata_base.specs.{declared.openpgpkey.OPENPGPKEY.OPENPGPKEY}

-- all octets are the key
abbrev pub openpgpkey_shape : List Kind
openpgpkey_shape = kinds_of rows.OPENPGPKEY

abbrev pub openpgpkey_fields : OPENPGPKEY → Values (kinds_of rows.OPENPGPKEY)
openpgpkey_fields x = (x.public_key, tt)

-- base64 (RFC 4648, 4)
abbrev pub openpgpkey_text : OPENPGPKEY → List ℕ
openpgpkey_text x = encode_of standard x.public_key

-- the key
abbrev pub openpgpkey_tokens : TokenRow openpgpkey_shape
openpgpkey_tokens = token base64 nothing

abbrev pub openpgpkey_facts : Facts OPENPGPKEY
openpgpkey_facts = filling rows.OPENPGPKEY openpgpkey_fields (λ _. Unit {0})
