-- NULL: octets without a form (RFC 1035, 3.3.10).
use Rattle.std.specs.Prelude.{◌≡◌, ◌⊎◌, ℕ, List, [], ◌∷◌}
use Rattle.base64.specs.{Engines.standard, GeneralPurpose.encode_of}
use Rattle.dns_fields.specs.Fields.{Values}
use Rattle.dns_fields.specs.declared.Kind.{Kind, TheVariants.Rest}
use Rattle.dns_rows.specs.Table.{kinds_of}
use Rattle.dns_rows.specs.declared.row.TheConstants as rows
use Rattle.dns_types.specs.declared.error.DecodeError.{DecodeError}
use Rattle.dns_types.specs.declared.error.DecodeError.TheVariants as decode
use Rattle.dns_names_wire.specs.{State.Reading, Terms.LacksOctets, Facts.Facts, Facts.filling}
use Rattle.dns_rdata_base.specs.declared.null.NULL.{NULL}

-- all octets
abbrev pub null_shape : List Kind
null_shape = kinds_of rows.NULL

abbrev pub null_fields : NULL → Values (kinds_of rows.NULL)
null_fields x = (x.anything, tt)

-- base64 (RFC 4648, 4)
abbrev pub null_text : NULL → List ℕ
null_text x = encode_of standard x.anything

abbrev pub null_facts : Facts NULL
null_facts = filling rows.NULL null_fields (λ _. Unit {0})
