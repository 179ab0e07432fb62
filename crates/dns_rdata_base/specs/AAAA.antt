-- AAAA: an IPv6 address (RFC 3596, 2.2).
use Rattle.std.specs.Prelude.{◌≡◌, ◌+◌, ◌-◌, ◌*◌, ◌/◌, ℕ, List, [], ◌∷◌, length}
use Rattle.std.specs.{Net.Addr.ipv6_octets, Net.Addr.ipv6_segments, Net.Text.ipv6_text}
use Rattle.dns_types.specs.declared.error.DecodeError.{DecodeError}
use Rattle.dns_types.specs.declared.error.DecodeError.TheVariants as decode
use Rattle.dns_fields.specs.Fields.{Values}
use Rattle.dns_fields.specs.declared.Kind.{Kind, TheVariants.Octets}
use Rattle.dns_rows.specs.Table.{kinds_of}
use Rattle.dns_rows.specs.declared.row.TheConstants as rows
use Rattle.dns_names_wire.specs.{State.Reading, Terms.LacksOctets, Facts.Facts, Facts.plain}
use Rattle.dns_tokens.specs.Forms.{TokenRow, token, ignored, ipv6}
use Rattle.dns_rdata_base.specs.declared.aaaa.AAAA.{AAAA}

-- the sixteen octets of the address, the highest first
abbrev pub aaaa_shape : List Kind
aaaa_shape = kinds_of rows.AAAA

abbrev pub aaaa_fields : AAAA → Values (kinds_of rows.AAAA)
aaaa_fields x = (ipv6_octets x.0, tt)

-- groups joined by colons (RFC 5952, 4)
abbrev pub aaaa_text : AAAA → List ℕ
aaaa_text x = ipv6_text (ipv6_segments x.0)

-- an address
abbrev pub aaaa_tokens : TokenRow aaaa_shape
aaaa_tokens = token ipv6 ignored

abbrev pub aaaa_facts : Facts AAAA
aaaa_facts = plain rows.AAAA aaaa_fields
