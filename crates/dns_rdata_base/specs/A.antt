-- A: an IPv4 address (RFC 1035, 3.4.1).
use Rattle.std.specs.{Prelude.◌≡◌, Prelude.ℕ, Prelude.List, Prelude.[], Prelude.◌∷◌, Prelude.length, Net.Addr.ipv4_octets, Net.Text.ipv4_text}
use Rattle.dns_types.specs.declared.error.DecodeError.{DecodeError}
use Rattle.dns_fields.specs.Fields.{Values}
use Rattle.dns_fields.specs.declared.Kind.{Kind, TheVariants.Octets}
use Rattle.dns_rows.specs.Table.{kinds_of}
use Rattle.dns_rows.specs.declared.row.TheConstants as rows
use Rattle.dns_names_wire.specs.{Facts.Facts, Facts.plain}
use Rattle.dns_tokens.specs.Forms.{TokenRow, token, ignored, ipv4}
use Rattle.dns_rdata_base.specs.declared.a.A.{A}
use Rattle.dns_types.specs.declared.error.DecodeError.TheVariants as decode

-- the four octets of the address
abbrev pub a_shape : List Kind
a_shape = kinds_of rows.A

abbrev pub a_fields : A → Values (kinds_of rows.A)
a_fields x = (ipv4_octets x.0, tt)

-- four numbers joined by points
abbrev pub a_text : A → List ℕ
a_text x = ipv4_text (ipv4_octets x.0)

-- an address
abbrev pub a_tokens : TokenRow a_shape
a_tokens = token ipv4 ignored

abbrev pub a_facts : Facts A
a_facts = plain rows.A a_fields
