-- HINFO: a machine and its system (RFC 1035, 3.3.2).
use Rattle.std.specs.Prelude.{◌≡◌, ◌⊎◌, ℕ, List, [], ◌∷◌, ◌++◌, codes}
use Rattle.dns_fields.specs.Fields.{Values}
use Rattle.dns_fields.specs.declared.Kind.{Kind, TheVariants.CharacterString}
use Rattle.dns_rows.specs.Table.{kinds_of}
use Rattle.dns_rows.specs.declared.row.TheConstants as rows
use Rattle.dns_types.specs.declared.error.DecodeError.{DecodeError}
use Rattle.dns_types.specs.declared.error.DecodeError.TheVariants as decode
use Rattle.dns_names_wire.specs.{State.Reading, Terms.TookField, Terms.LacksText, Facts.Facts, Facts.plain}
use Rattle.dns_tokens.specs.Forms.{TokenRow, token, ignored, kept}
use Rattle.dns_rdata_base.specs.{Lossy.lossy, declared.hinfo.HINFO.HINFO}

-- cpu, os
abbrev pub hinfo_shape : List Kind
hinfo_shape = kinds_of rows.HINFO

abbrev pub hinfo_fields : HINFO → Values (kinds_of rows.HINFO)
hinfo_fields x = (x.cpu, (x.os, tt))

-- the two strings, a blank between
abbrev pub hinfo_text : HINFO → List ℕ
hinfo_text x = lossy x.cpu ++ codes " " ++ lossy x.os

-- cpu, os
abbrev pub hinfo_tokens : TokenRow hinfo_shape
hinfo_tokens = token kept (token kept ignored)

abbrev pub hinfo_facts : Facts HINFO
hinfo_facts = plain rows.HINFO hinfo_fields
