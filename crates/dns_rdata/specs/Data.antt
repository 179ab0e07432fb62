-- RDATA of every type: its fields, and when a value fills a region of a message (RFC 1035, 3.2.1).
use Rattle.std.specs.Prelude.{◌≡◌, ◌≢◌, ℕ, ◌+◌, true, if◌then◌else◌, List, [], Result, Ok, Err}
use Rattle.dns_fields.specs.{declared.RDataEncoding.RDataEncoding, declared.Kind.Kind, Fields.Values, Fields.all_emittable, Fields.canonical}
use Rattle.dns_fields.specs.declared.RDataEncoding.TheVariants as modes
use Rattle.dns_types.specs.{declared.record_type.RecordType.RecordType, declared.error.DecodeError.DecodeError, declared.error.ProtoError.ProtoError}
use Rattle.dns_types.specs.declared.record_type.RecordType.TheVariants as types
use Rattle.dns_names_wire.specs.{State.Reading, State.Writing, Terms.EmitsAs}
use Rattle.dns_names_wire.specs.Terms.{NoRegion, StaysBehind, UnlessMemory, Region}
use Rattle.dns_rows.specs.{declared.row.Part.Part, Table.TypeRow, Table.unread, Table.formatless, Table.fields, Table.table}
use Rattle.dns_rows.specs.{Table.kinds_of, Rules.MeetsRow}
use Rattle.dns_rows.specs.declared.row.TheConstants as rows
use Rattle.dns_rdata_base.specs as base
use Rattle.dns_rdata_certs.specs as certs
use Rattle.dns_rdata_options.specs as options
use Rattle.dns_rdata_service.specs as service
use Rattle.dns_rdata_policy.specs as policy
use Rattle.dns_rdata.specs.declared.record_data.RData.{RData}
use Rattle.dns_rdata.specs.declared.record_data.RData.TheVariants as rdata

-- the parts of the RDATA of a type
abbrev pub parts_of : TypeRow → List Part
parts_of (fields parts) = parts
parts_of unread = []
parts_of formatless = rows.NULL

-- the fields are as the row asks; the types that are never read have none
abbrev pub MeetsRule : (r : TypeRow) → Values (kinds_of (parts_of r)) → Type 0
MeetsRule (fields parts) vs = MeetsRow parts vs
MeetsRule unread vs = ⊥
MeetsRule formatless vs = Unit {0}

-- the kinds of the fields of each type, in order
abbrev pub shape : RecordType → List Kind
shape t = kinds_of (parts_of (table t))

-- the condition on the fields beyond the kinds
abbrev pub MeetsCondition : (t : RecordType) → Values (shape t) → Type 0
MeetsCondition t vs = MeetsRule (table t) vs

abbrev pub IsNever : TypeRow → Type 0
IsNever unread = Unit {0}
IsNever r = ⊥

abbrev pub IsFormatless : TypeRow → Type 0
IsFormatless formatless = Unit {0}
IsFormatless r = ⊥

-- RDATA of the type is never read
abbrev pub IsNeverRead : RecordType → Type 0
IsNeverRead t = IsNever (table t)

-- the type has no format of its own
abbrev pub IsUnknownType : RecordType → Type 0
IsUnknownType t = IsFormatless (table t)

-- fields of some kinds
pub record FieldsOf : Type 0 where
  pub kinds : List Kind
  pub values : Values kinds

abbrev pub by_row : (parts : List Part) → Values (kinds_of parts) → FieldsOf
by_row parts values = record { kinds = kinds_of parts; values = values }

-- the fields of a value
abbrev pub fields_of : RData → FieldsOf
fields_of (rdata.A x) = by_row rows.A (base.A.a_fields x)
fields_of (rdata.AAAA x) = by_row rows.AAAA (base.AAAA.aaaa_fields x)
fields_of (rdata.ANAME x) = by_row rows.NAME (base.NameRecords.name_fields x.0)
fields_of (rdata.CAA x) = by_row rows.CAA (policy.CAA.caa_fields x)
fields_of (rdata.CERT x) = by_row rows.CERT (certs.CERT.cert_fields x)
fields_of (rdata.CNAME x) = by_row rows.NAME (base.NameRecords.name_fields x.0)
fields_of (rdata.CSYNC x) = by_row rows.CSYNC (policy.CSYNC.csync_fields x)
fields_of (rdata.HINFO x) = by_row rows.HINFO (base.HINFO.hinfo_fields x)
fields_of (rdata.HTTPS x) = by_row rows.SVCB (service.SVCB.svcb_fields x.0)
fields_of (rdata.MX x) = by_row rows.MX (base.NameRecords.mx_fields x)
fields_of (rdata.NAPTR x) = by_row rows.NAPTR (base.NAPTR.naptr_fields x)
fields_of (rdata.NULL x) = by_row rows.NULL (base.NULL.null_fields x)
fields_of (rdata.NS x) = by_row rows.NAME (base.NameRecords.name_fields x.0)
fields_of (rdata.OPENPGPKEY x) = by_row rows.OPENPGPKEY (base.OPENPGPKEY.openpgpkey_fields x)
fields_of (rdata.OPT x) = by_row rows.OPT (options.OPT.opt_fields x)
fields_of (rdata.PTR x) = by_row rows.NAME (base.NameRecords.name_fields x.0)
fields_of (rdata.SMIMEA x) = by_row rows.TLSA (certs.TLSA.tlsa_fields x.0)
fields_of (rdata.SOA x) = by_row rows.SOA (base.SOA.soa_fields x)
fields_of (rdata.SRV x) = by_row rows.SRV (base.NameRecords.srv_fields x)
fields_of (rdata.SSHFP x) = by_row rows.SSHFP (certs.SSHFP.sshfp_fields x)
fields_of (rdata.SVCB x) = by_row rows.SVCB (service.SVCB.svcb_fields x)
fields_of (rdata.TLSA x) = by_row rows.TLSA (certs.TLSA.tlsa_fields x)
fields_of (rdata.TXT x) = by_row rows.TXT (base.TXT.txt_fields x)
fields_of (rdata.Unknown code x) = by_row rows.NULL (base.NULL.null_fields x)
fields_of (rdata.Update0 t) = by_row rows.ZERO tt
fields_of rdata.ZERO = by_row rows.ZERO tt

-- the type of a value
abbrev pub type_of : RData → RecordType
type_of (rdata.A x) = types.A
type_of (rdata.AAAA x) = types.AAAA
type_of (rdata.ANAME x) = types.ANAME
type_of (rdata.CAA x) = types.CAA
type_of (rdata.CERT x) = types.CERT
type_of (rdata.CNAME x) = types.CNAME
type_of (rdata.CSYNC x) = types.CSYNC
type_of (rdata.HINFO x) = types.HINFO
type_of (rdata.HTTPS x) = types.HTTPS
type_of (rdata.MX x) = types.MX
type_of (rdata.NAPTR x) = types.NAPTR
type_of (rdata.NULL x) = types.NULL
type_of (rdata.NS x) = types.NS
type_of (rdata.OPENPGPKEY x) = types.OPENPGPKEY
type_of (rdata.OPT x) = types.OPT
type_of (rdata.PTR x) = types.PTR
type_of (rdata.SMIMEA x) = types.SMIMEA
type_of (rdata.SOA x) = types.SOA
type_of (rdata.SRV x) = types.SRV
type_of (rdata.SSHFP x) = types.SSHFP
type_of (rdata.SVCB x) = types.SVCB
type_of (rdata.TLSA x) = types.TLSA
type_of (rdata.TXT x) = types.TXT
type_of (rdata.Unknown code x) = code
type_of (rdata.Update0 t) = t
type_of rdata.ZERO = types.ZERO

-- A value that reading can return. `Unknown` is of an unknown type; `Update0` is never read; of two variants of an enum
-- with one number, reading returns the named one; signed numbers fit their bits.
abbrev pub CanBeRead : RData → Type 0
CanBeRead (rdata.Unknown code x) = IsUnknownType code
CanBeRead (rdata.Update0 t) = ⊥
CanBeRead (rdata.CERT x) = certs.CERT.IsReadCert x
CanBeRead (rdata.SMIMEA x) = certs.TLSA.IsReadTlsa x.0
CanBeRead (rdata.SSHFP x) = certs.SSHFP.IsReadSshfp x
CanBeRead (rdata.TLSA x) = certs.TLSA.IsReadTlsa x
CanBeRead (rdata.SOA x) = base.SOA.HasSeconds x
CanBeRead (rdata.CAA x) = policy.CAA.IsReadCaa x
CanBeRead (rdata.CSYNC x) = policy.CSYNC.IsReadCsync x
CanBeRead (rdata.OPT x) = options.OPT.IsReadOpt x
CanBeRead (rdata.HTTPS x) = service.SVCB.IsReadSvcb x.0
CanBeRead (rdata.SVCB x) = service.SVCB.IsReadSvcb x
CanBeRead v = Unit {0}

-- v is the value of the type with these fields
pub record IsValue (t : RecordType) (vs : Values (shape t)) (v : RData) : Type 0 where
  pub type : type_of v ≡ t
  pub fields : fields_of v ≡ record { kinds = shape t; values = vs }
  pub can_be_read : CanBeRead v

-- In the message m, the n octets from p are the RDATA of a record of type t, and v is its value.
pub record Fills (m : List ℕ) (p n : ℕ) (t : RecordType) (v : RData) : Type 0 where
  pub values : Values (shape t)
  pub region : Region m p n (shape t) (MeetsCondition t) values
  pub value : IsValue t values v

-- the octets are the RDATA of a value of the type
pub record HasValue (m : List ℕ) (p n : ℕ) (t : RecordType) : Type 0 where
  pub value : RData
  pub fills : Fills m p n t value

-- the octets are the RDATA of no value of the type
pub record NoValue (m : List ℕ) (p n : ℕ) (t : RecordType) : Type 0 where
  pub none : (v : RData) → Fills m p n t v → ⊥

-- Each field of the value can be emitted. This is true of a value that was read. In one that a caller built, a string
-- may be too long, for example.
abbrev pub IsEmittable : RData → Type 0
IsEmittable v = all_emittable (fields_of v).kinds (fields_of v).values ≡ true

-- The canonical octets of a value: this library's own form, for equality, order and hashing. All names are uncompressed
-- and in lower case (those of SVCB, HTTPS and ANAME, too), options are sorted, and a set of types is in its shortest
-- form. It is not the form of RFC 4034, section 6.2, which DNSSEC signs. A value that cannot be emitted has none.
abbrev pub octets_of : FieldsOf → List ℕ
octets_of f = if all_emittable f.kinds f.values then canonical f.kinds f.values else []

abbrev pub data_octets : RData → List ℕ
data_octets v = octets_of (fields_of v)

-- the mode in which the names of a value are written: that of its type; a value without names keeps the encoder's mode
abbrev pub mode_for : RDataEncoding → RData → RDataEncoding
mode_for own (rdata.ANAME x) = modes.Other
mode_for own (rdata.CNAME x) = modes.StandardRecord
mode_for own (rdata.HTTPS x) = modes.Other
mode_for own (rdata.MX x) = modes.StandardRecord
mode_for own (rdata.NAPTR x) = modes.Canonical
mode_for own (rdata.NS x) = modes.StandardRecord
mode_for own (rdata.PTR x) = modes.StandardRecord
mode_for own (rdata.SOA x) = modes.StandardRecord
mode_for own (rdata.SRV x) = modes.Canonical
mode_for own (rdata.SVCB x) = modes.Other
mode_for own v = own

-- the fields of the value are emitted, its names in this mode
unfoldable pub EmitsData : RDataEncoding → RData → Result (Unit {0}) ProtoError → Writing → Writing → Type 0
EmitsData mode v r old new = EmitsAs mode (fields_of v).kinds (fields_of v).values r old new

-- ---- what a reader returns that may stop elsewhere than at the end of the region
