-- The zone row of each type of record in a zone file.
use Rattle.std.specs.Prelude.{List, [], ◌∷◌, Option, Some}
use Rattle.std.specs.Option.{option_map}
use Rattle.dns_types.specs.{RecordTypes.number_of, declared.record_type.RecordType.RecordType}
use Rattle.dns_types.specs.declared.record_type.RecordType.TheVariants as types
use Rattle.dns_zone_rows.specs.Registry.{registered, shape_of}
use Rattle.dns_zone_rows.specs.Mnemonics.{cert_types, algorithms}
use Rattle.dns_zone_rows.specs.Rows.{FieldKind, Number, NamedNumber, Ttl, Ipv4, Ipv6, Name, String, Tag, Octets, RestKind, NoToken, SomeStrings}
use Rattle.dns_zone_rows.specs.Rows.{SomeHex, SomeBase64, AnyTypes, AnyParameters, RowShape}

abbrev pub zone_row : List FieldKind → RestKind → Option RowShape
zone_row fields rest = Some (record { fields = fields; rest = rest })

-- Types that are named neither here nor in `registry` have only the unknown-data form (RFC 3597, 5).
abbrev pub zone_row_of : RecordType → Option RowShape
-- RFC 1035, 3.4.1
zone_row_of types.A = zone_row (Ipv4 ∷ []) NoToken
-- RFC 3596, 2.2
zone_row_of types.AAAA = zone_row (Ipv6 ∷ []) NoToken
-- flags, tag, value: RFC 8659, 4.1
zone_row_of types.CAA = zone_row (Number 1 ∷ Tag ∷ Octets ∷ []) NoToken
-- type, key tag, algorithm, certificate: RFC 4398, 2
zone_row_of types.CERT = zone_row (NamedNumber 2 cert_types ∷ Number 2 ∷ NamedNumber 1 algorithms ∷ []) SomeBase64
-- RFC 1035, 3.3.1
zone_row_of types.CNAME = zone_row (Name ∷ []) NoToken
-- serial, flags, types: RFC 7477, 2.1
zone_row_of types.CSYNC = zone_row (Number 4 ∷ Number 2 ∷ []) AnyTypes
-- cpu, os: RFC 1035, 3.3.2
zone_row_of types.HINFO = zone_row (String ∷ String ∷ []) NoToken
-- priority, target, parameters: RFC 9460, 2.1
zone_row_of types.HTTPS = zone_row (Number 2 ∷ Name ∷ []) AnyParameters
-- preference, exchange: RFC 1035, 3.3.9
zone_row_of types.MX = zone_row (Number 2 ∷ Name ∷ []) NoToken
-- order, preference, flags, services, regexp, replacement: RFC 3403, 4.1
zone_row_of types.NAPTR = zone_row (Number 2 ∷ Number 2 ∷ String ∷ String ∷ String ∷ Name ∷ []) NoToken
-- RFC 1035, 3.3.11
zone_row_of types.NS = zone_row (Name ∷ []) NoToken
-- RFC 7929, 2.1
zone_row_of types.OPENPGPKEY = zone_row [] SomeBase64
-- RFC 1035, 3.3.12
zone_row_of types.PTR = zone_row (Name ∷ []) NoToken
-- usage, selector, matching type, data: RFC 8162, 2
zone_row_of types.SMIMEA = zone_row (Number 1 ∷ Number 1 ∷ Number 1 ∷ []) SomeHex
-- mname, rname, serial, refresh, retry, expire, minimum: RFC 1035, 3.3.13
zone_row_of types.SOA = zone_row (Name ∷ Name ∷ Number 4 ∷ Ttl ∷ Ttl ∷ Ttl ∷ Ttl ∷ []) NoToken
-- priority, weight, port, target: RFC 2782
zone_row_of types.SRV = zone_row (Number 2 ∷ Number 2 ∷ Number 2 ∷ Name ∷ []) NoToken
-- algorithm, type, fingerprint: RFC 4255, 3.1
zone_row_of types.SSHFP = zone_row (Number 1 ∷ Number 1 ∷ []) SomeHex
-- priority, target, parameters: RFC 9460, 2.1
zone_row_of types.SVCB = zone_row (Number 2 ∷ Name ∷ []) AnyParameters
-- usage, selector, matching type, data: RFC 6698, 2.1
zone_row_of types.TLSA = zone_row (Number 1 ∷ Number 1 ∷ Number 1 ∷ []) SomeHex
-- RFC 1035, 3.3.14
zone_row_of types.TXT = zone_row [] SomeStrings
-- a type without a struct
zone_row_of record_type = option_map shape_of (registered (number_of record_type))
