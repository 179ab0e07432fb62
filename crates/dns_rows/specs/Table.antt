-- The RDATA of each type: the rows that the code declares.
use Rattle.std.specs.Prelude.{List, [], ◌∷◌}
use Rattle.dns_types.specs.declared.record_type.RecordType.{RecordType}
use Rattle.dns_types.specs.declared.record_type.RecordType.TheVariants as types
use Rattle.dns_fields.specs.declared.Kind.{Kind}
use Rattle.dns_rows.specs.declared.row.{Part.Part, Row.Row, Row.TheVariants.Unread, Row.TheVariants.Formatless, Row.TheVariants.Fields}
use Rattle.dns_rows.specs.declared.row.TheConstants as rows

-- what the RDATA of a type is
pub data TypeRow : Type 0 where
  -- RDATA is never read: a type that only questions have (RFC 1035, 3.2.3; RFC 1995, 2)
  unread : TypeRow
  -- a type without a format of its own: any octets (RFC 3597, 4)
  formatless : TypeRow
  -- these fields, one after the other
  fields : List Part → TypeRow

abbrev pub table : RecordType → TypeRow
table types.A = fields rows.A
table types.AAAA = fields rows.AAAA
table types.ANAME = fields rows.NAME
table types.ANY = unread
table types.AXFR = unread
table types.CAA = fields rows.CAA
table types.CERT = fields rows.CERT
table types.CNAME = fields rows.NAME
table types.CSYNC = fields rows.CSYNC
table types.HINFO = fields rows.HINFO
table types.HTTPS = fields rows.SVCB
table types.IXFR = unread
table types.MX = fields rows.MX
table types.NAPTR = fields rows.NAPTR
table types.NS = fields rows.NAME
table types.NULL = fields rows.NULL
table types.OPENPGPKEY = fields rows.OPENPGPKEY
table types.OPT = fields rows.OPT
table types.PTR = fields rows.NAME
table types.SMIMEA = fields rows.TLSA
table types.SOA = fields rows.SOA
table types.SRV = fields rows.SRV
table types.SSHFP = fields rows.SSHFP
table types.SVCB = fields rows.SVCB
table types.TLSA = fields rows.TLSA
table types.TXT = fields rows.TXT
table types.ZERO = fields rows.ZERO
table t = formatless

-- what the code returns
abbrev pub row_value : Row → TypeRow
row_value Unread = unread
row_value Formatless = formatless
row_value (Fields row front) = fields row.now

-- the kinds of the fields
abbrev pub kinds_of : List Part → List Kind
kinds_of [] = []
kinds_of (p ∷ row) = p.kind ∷ kinds_of row
