-- The zone rows of types without a struct, by number (IANA's "Resource Record (RR) TYPEs"). A field has the name that
-- errors have.
use Rattle.std.specs.Prelude.{ℕ, ◌==◌, nat_le, if◌then◌else◌, List, [], ◌∷◌, ◌++◌, map, codes, Option, Some, None}
use Rattle.dns_zone_rows.specs.{Groups.colons, Groups.hyphens, Mnemonics.algorithms, Mnemonics.schemes}
use Rattle.dns_zone_rows.specs.Rows.{FieldKind, Number, NamedNumber, Ttl, Ipv4, Name, String, QuotedOctets, Digits, TypeNumber, Time, Salt, Base32, Grouped, RestKind, NoToken, SomeStrings, MaybeString}
use Rattle.dns_zone_rows.specs.Rows.{SomeHex, LongHex, SomeBase64, AnyBase64, AnyTypes, RowShape}

-- a field that is one token
pub record NamedField : Type 0 where
  pub name : List ℕ
  pub kind : FieldKind

-- what all tokens after the fields are
pub record NamedRest : Type 0 where
  pub name : List ℕ
  pub kind : RestKind

-- a type
pub record Registered : Type 0 where
  pub number : ℕ
  pub mnemonic : List ℕ
  pub fields : List NamedField
  pub rest : NamedRest

abbrev pub field : List ℕ → FieldKind → NamedField
field name kind = record { name = name; kind = kind }

abbrev pub rest : List ℕ → RestKind → NamedRest
rest name kind = record { name = name; kind = kind }

abbrev pub nothing : NamedRest
nothing = rest [] NoToken

abbrev pub row : ℕ → List ℕ → List NamedField → NamedRest → Registered
row number mnemonic fields rest = record { number = number; mnemonic = mnemonic; fields = fields; rest = rest }

-- the first type with this number
abbrev pub listed : List Registered → ℕ → Option Registered
listed [] n = None
listed (first ∷ others) n = if first.number == n then Some first else listed others n

abbrev pub shape_of : Registered → RowShape
shape_of of_type = record { fields = map (λ (f : NamedField). f.kind) of_type.fields; rest = of_type.rest.kind }

abbrev pub types_to_9 : List Registered
types_to_9 =
    -- RFC 1035, 3.3.4
    row 3 (codes "MD") (field (codes "target") Name ∷ []) nothing
    -- RFC 1035, 3.3.5
    ∷ row 4 (codes "MF") (field (codes "target") Name ∷ []) nothing
    -- RFC 1035, 3.3.3
    ∷ row 7 (codes "MB") (field (codes "target") Name ∷ []) nothing
    -- RFC 1035, 3.3.6
    ∷ row 8 (codes "MG") (field (codes "target") Name ∷ []) nothing
    -- RFC 1035, 3.3.8
    ∷ row 9 (codes "MR") (field (codes "target") Name ∷ []) nothing
    ∷ []

abbrev pub types_to_19 : List Registered
types_to_19 =
    -- RFC 1035, 3.3.7
    row 14 (codes "MINFO") (field (codes "rmailbx") Name ∷ field (codes "emailbx") Name ∷ []) nothing
    -- RFC 1183, 2.2
    ∷ row 17 (codes "RP") (field (codes "mbox") Name ∷ field (codes "txt") Name ∷ []) nothing
    -- RFC 1183, 1
    ∷ row 18 (codes "AFSDB") (field (codes "subtype") (Number 2) ∷ field (codes "hostname") Name ∷ []) nothing
    -- RFC 1183, 3.1
    ∷ row 19 (codes "X25") (field (codes "address") Digits ∷ []) nothing
    ∷ []

abbrev pub types_to_24 : List Registered
types_to_24 =
    -- RFC 1183, 3.2
    row 20 (codes "ISDN") (field (codes "address") String ∷ []) (rest (codes "subaddress") MaybeString)
    -- RFC 1183, 3.3
    ∷ row 21 (codes "RT") (field (codes "preference") (Number 2) ∷ field (codes "intermediate_host") Name ∷ []) nothing
    -- RFC 1706, 6
    ∷ row 23 (codes "NSAP-PTR") (field (codes "owner") Name ∷ []) nothing
    -- RFC 2535, 4.1
    ∷ row 24 (codes "SIG") (field (codes "type_covered") TypeNumber ∷ field (codes "algorithm") (NamedNumber 1 algorithms) ∷ field (codes "labels") (Number 1) ∷ field (codes "original_ttl") Ttl ∷ field (codes "expiration") Time ∷ field (codes "inception") Time ∷ field (codes "key_tag") (Number 2) ∷ field (codes "signer") Name ∷ []) (rest (codes "signature") SomeBase64)
    ∷ []

abbrev pub types_to_32 : List Registered
types_to_32 =
    -- RFC 2535, 3.1
    row 25 (codes "KEY") (field (codes "flags") (Number 2) ∷ field (codes "protocol") (Number 1) ∷ field (codes "algorithm") (NamedNumber 1 algorithms) ∷ []) (rest (codes "public_key") AnyBase64)
    -- RFC 2163, 4
    ∷ row 26 (codes "PX") (field (codes "preference") (Number 2) ∷ field (codes "map822") Name ∷ field (codes "mapx400") Name ∷ []) nothing
    -- RFC 1712, 3
    ∷ row 27 (codes "GPOS") (field (codes "longitude") String ∷ field (codes "latitude") String ∷ field (codes "altitude") String ∷ []) nothing
    -- draft-ietf-nimrod-dns
    ∷ row 31 (codes "EID") [] (rest (codes "data") SomeHex)
    -- draft-ietf-nimrod-dns
    ∷ row 32 (codes "NIMLOC") [] (rest (codes "data") SomeHex)
    ∷ []

abbrev pub types_to_46 : List Registered
types_to_46 =
    -- RFC 2230, 3.1
    row 36 (codes "KX") (field (codes "preference") (Number 2) ∷ field (codes "exchanger") Name ∷ []) nothing
    -- RFC 6672, 2.1
    ∷ row 39 (codes "DNAME") (field (codes "target") Name ∷ []) nothing
    -- draft-eastlake-kitchen-sink
    ∷ row 40 (codes "SINK") (field (codes "meaning") (Number 1) ∷ field (codes "coding") (Number 1) ∷ field (codes "subcoding") (Number 1) ∷ []) (rest (codes "data") AnyBase64)
    -- RFC 4034, 5.1
    ∷ row 43 (codes "DS") (field (codes "key_tag") (Number 2) ∷ field (codes "algorithm") (NamedNumber 1 algorithms) ∷ field (codes "digest_type") (Number 1) ∷ []) (rest (codes "digest") SomeHex)
    -- RFC 4034, 3.1
    ∷ row 46 (codes "RRSIG") (field (codes "type_covered") TypeNumber ∷ field (codes "algorithm") (NamedNumber 1 algorithms) ∷ field (codes "labels") (Number 1) ∷ field (codes "original_ttl") Ttl ∷ field (codes "expiration") Time ∷ field (codes "inception") Time ∷ field (codes "key_tag") (Number 2) ∷ field (codes "signer") Name ∷ []) (rest (codes "signature") SomeBase64)
    ∷ []

abbrev pub types_to_51 : List Registered
types_to_51 =
    -- RFC 4034, 4.1
    row 47 (codes "NSEC") (field (codes "next") Name ∷ []) (rest (codes "types") AnyTypes)
    -- RFC 4034, 2.1
    ∷ row 48 (codes "DNSKEY") (field (codes "flags") (Number 2) ∷ field (codes "protocol") (Number 1) ∷ field (codes "algorithm") (NamedNumber 1 algorithms) ∷ []) (rest (codes "public_key") SomeBase64)
    -- RFC 4701, 3.1
    ∷ row 49 (codes "DHCID") [] (rest (codes "data") SomeBase64)
    -- RFC 5155, 3.2
    ∷ row 50 (codes "NSEC3") (field (codes "hash_algorithm") (Number 1) ∷ field (codes "flags") (Number 1) ∷ field (codes "iterations") (Number 2) ∷ field (codes "salt") Salt ∷ field (codes "next_hashed_owner") Base32 ∷ []) (rest (codes "types") AnyTypes)
    -- RFC 5155, 4.2
    ∷ row 51 (codes "NSEC3PARAM") (field (codes "hash_algorithm") (Number 1) ∷ field (codes "flags") (Number 1) ∷ field (codes "iterations") (Number 2) ∷ field (codes "salt") Salt ∷ []) nothing
    ∷ []

abbrev pub types_to_60 : List Registered
types_to_60 =
    -- draft-reid-dnsext-zs
    row 56 (codes "NINFO") [] (rest (codes "data") SomeStrings)
    -- draft-reid-dnsext-rkey
    ∷ row 57 (codes "RKEY") (field (codes "flags") (Number 2) ∷ field (codes "protocol") (Number 1) ∷ field (codes "algorithm") (NamedNumber 1 algorithms) ∷ []) (rest (codes "public_key") SomeBase64)
    -- draft-wijngaards-dnsop-trust-history
    ∷ row 58 (codes "TALINK") (field (codes "start") Name ∷ field (codes "end") Name ∷ []) nothing
    -- RFC 7344, 3.1
    ∷ row 59 (codes "CDS") (field (codes "key_tag") (Number 2) ∷ field (codes "algorithm") (NamedNumber 1 algorithms) ∷ field (codes "digest_type") (Number 1) ∷ []) (rest (codes "digest") SomeHex)
    -- RFC 7344, 3.2
    ∷ row 60 (codes "CDNSKEY") (field (codes "flags") (Number 2) ∷ field (codes "protocol") (Number 1) ∷ field (codes "algorithm") (NamedNumber 1 algorithms) ∷ []) (rest (codes "public_key") SomeBase64)
    ∷ []

abbrev pub types_to_99 : List Registered
types_to_99 =
    -- RFC 8976, 2.2
    row 63 (codes "ZONEMD") (field (codes "serial") (Number 4) ∷ field (codes "scheme") (Number 1) ∷ field (codes "hash_algorithm") (Number 1) ∷ []) (rest (codes "digest") (LongHex 12))
    -- RFC 9859, 2.1
    ∷ row 66 (codes "DSYNC") (field (codes "rrtype") TypeNumber ∷ field (codes "scheme") (NamedNumber 1 schemes) ∷ field (codes "port") (Number 2) ∷ field (codes "target") Name ∷ []) nothing
    -- RFC 9886, 5.1
    ∷ row 67 (codes "HHIT") [] (rest (codes "data") SomeBase64)
    -- RFC 9886, 5.2
    ∷ row 68 (codes "BRID") [] (rest (codes "data") SomeBase64)
    -- RFC 4408, 3.1.1
    ∷ row 99 (codes "SPF") [] (rest (codes "data") SomeStrings)
    ∷ []

abbrev pub types_to_109 : List Registered
types_to_109 =
    -- RFC 6742, 2.1
    row 104 (codes "NID") (field (codes "preference") (Number 2) ∷ field (codes "node_id") (Grouped colons) ∷ []) nothing
    -- RFC 6742, 2.2
    ∷ row 105 (codes "L32") (field (codes "preference") (Number 2) ∷ field (codes "locator") Ipv4 ∷ []) nothing
    -- RFC 6742, 2.3
    ∷ row 106 (codes "L64") (field (codes "preference") (Number 2) ∷ field (codes "locator") (Grouped colons) ∷ []) nothing
    -- RFC 6742, 2.4
    ∷ row 107 (codes "LP") (field (codes "preference") (Number 2) ∷ field (codes "fqdn") Name ∷ []) nothing
    -- RFC 7043, 3
    ∷ row 108 (codes "EUI48") (field (codes "address") (Grouped (hyphens 6)) ∷ []) nothing
    -- RFC 7043, 4
    ∷ row 109 (codes "EUI64") (field (codes "address") (Grouped (hyphens 8)) ∷ []) nothing
    ∷ []

abbrev pub types_above_109 : List Registered
types_above_109 =
    -- RFC 7553, 4.5
    row 256 (codes "URI") (field (codes "priority") (Number 2) ∷ field (codes "weight") (Number 2) ∷ field (codes "target") QuotedOctets ∷ []) nothing
    -- IANA's template AVC/avc-completed-template
    ∷ row 258 (codes "AVC") [] (rest (codes "data") SomeStrings)
    -- RFC 9606, 4
    ∷ row 261 (codes "RESINFO") [] (rest (codes "data") SomeStrings)
    -- IANA's template WALLET/wallet-completed-template
    ∷ row 262 (codes "WALLET") [] (rest (codes "data") SomeStrings)
    -- draft-johnson-dns-ipn-cla
    ∷ row 263 (codes "CLA") [] (rest (codes "data") SomeStrings)
    -- IANA's template; as DS
    ∷ row 32768 (codes "TA") (field (codes "key_tag") (Number 2) ∷ field (codes "algorithm") (NamedNumber 1 algorithms) ∷ field (codes "digest_type") (Number 1) ∷ []) (rest (codes "digest") SomeHex)
    -- RFC 4431, 2
    ∷ row 32769 (codes "DLV") (field (codes "key_tag") (Number 2) ∷ field (codes "algorithm") (NamedNumber 1 algorithms) ∷ field (codes "digest_type") (Number 1) ∷ []) (rest (codes "digest") SomeHex)
    ∷ []

-- the types among which a number is
abbrev pub registry : ℕ → List Registered
registry n =
    if nat_le n 9 then types_to_9
    else if nat_le n 19 then types_to_19
    else if nat_le n 24 then types_to_24
    else if nat_le n 32 then types_to_32
    else if nat_le n 46 then types_to_46
    else if nat_le n 51 then types_to_51
    else if nat_le n 60 then types_to_60
    else if nat_le n 99 then types_to_99
    else if nat_le n 109 then types_to_109
    else types_above_109

-- the type with this number
abbrev pub registered : ℕ → Option Registered
registered n = listed (registry n) n
