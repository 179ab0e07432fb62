-- The names of record types in zone files.
use Rattle.std.specs.Prelude.{◌≡◌, ◌⊎◌, ℕ, List, [], ◌∷◌, Some, codes}
use Rattle.dns_types.specs.{RecordTypes.IsTypeText, RecordTypes.record_type_of, declared.record_type.RecordType.RecordType}
use Rattle.dns_zone_tokens.specs.Mnemonics.{Named, named, number_named}

-- The names and numbers of IANA's registry "Resource Record (RR) TYPEs", by number, without those that are unassigned
-- or reserved. The registry has `*` for 255, which RFC 8482 and programs call ANY.
abbrev pub registry : List Named
registry =
    named (codes "A") 1
    ∷ named (codes "NS") 2
    ∷ named (codes "MD") 3
    ∷ named (codes "MF") 4
    ∷ named (codes "CNAME") 5
    ∷ named (codes "SOA") 6
    ∷ named (codes "MB") 7
    ∷ named (codes "MG") 8
    ∷ named (codes "MR") 9
    ∷ named (codes "NULL") 10
    ∷ named (codes "WKS") 11
    ∷ named (codes "PTR") 12
    ∷ named (codes "HINFO") 13
    ∷ named (codes "MINFO") 14
    ∷ named (codes "MX") 15
    ∷ named (codes "TXT") 16
    ∷ named (codes "RP") 17
    ∷ named (codes "AFSDB") 18
    ∷ named (codes "X25") 19
    ∷ named (codes "ISDN") 20
    ∷ named (codes "RT") 21
    ∷ named (codes "NSAP") 22
    ∷ named (codes "NSAP-PTR") 23
    ∷ named (codes "SIG") 24
    ∷ named (codes "KEY") 25
    ∷ named (codes "PX") 26
    ∷ named (codes "GPOS") 27
    ∷ named (codes "AAAA") 28
    ∷ named (codes "LOC") 29
    ∷ named (codes "NXT") 30
    ∷ named (codes "EID") 31
    ∷ named (codes "NIMLOC") 32
    ∷ named (codes "SRV") 33
    ∷ named (codes "ATMA") 34
    ∷ named (codes "NAPTR") 35
    ∷ named (codes "KX") 36
    ∷ named (codes "CERT") 37
    ∷ named (codes "A6") 38
    ∷ named (codes "DNAME") 39
    ∷ named (codes "SINK") 40
    ∷ named (codes "OPT") 41
    ∷ named (codes "APL") 42
    ∷ named (codes "DS") 43
    ∷ named (codes "SSHFP") 44
    ∷ named (codes "IPSECKEY") 45
    ∷ named (codes "RRSIG") 46
    ∷ named (codes "NSEC") 47
    ∷ named (codes "DNSKEY") 48
    ∷ named (codes "DHCID") 49
    ∷ named (codes "NSEC3") 50
    ∷ named (codes "NSEC3PARAM") 51
    ∷ named (codes "TLSA") 52
    ∷ named (codes "SMIMEA") 53
    ∷ named (codes "HIP") 55
    ∷ named (codes "NINFO") 56
    ∷ named (codes "RKEY") 57
    ∷ named (codes "TALINK") 58
    ∷ named (codes "CDS") 59
    ∷ named (codes "CDNSKEY") 60
    ∷ named (codes "OPENPGPKEY") 61
    ∷ named (codes "CSYNC") 62
    ∷ named (codes "ZONEMD") 63
    ∷ named (codes "SVCB") 64
    ∷ named (codes "HTTPS") 65
    ∷ named (codes "DSYNC") 66
    ∷ named (codes "HHIT") 67
    ∷ named (codes "BRID") 68
    ∷ named (codes "SPF") 99
    ∷ named (codes "UINFO") 100
    ∷ named (codes "UID") 101
    ∷ named (codes "GID") 102
    ∷ named (codes "UNSPEC") 103
    ∷ named (codes "NID") 104
    ∷ named (codes "L32") 105
    ∷ named (codes "L64") 106
    ∷ named (codes "LP") 107
    ∷ named (codes "EUI48") 108
    ∷ named (codes "EUI64") 109
    ∷ named (codes "NXNAME") 128
    ∷ named (codes "TKEY") 249
    ∷ named (codes "TSIG") 250
    ∷ named (codes "IXFR") 251
    ∷ named (codes "AXFR") 252
    ∷ named (codes "MAILB") 253
    ∷ named (codes "MAILA") 254
    ∷ named (codes "ANY") 255
    ∷ named (codes "*") 255
    ∷ named (codes "URI") 256
    ∷ named (codes "CAA") 257
    ∷ named (codes "AVC") 258
    ∷ named (codes "DOA") 259
    ∷ named (codes "AMTRELAY") 260
    ∷ named (codes "RESINFO") 261
    ∷ named (codes "WALLET") 262
    ∷ named (codes "CLA") 263
    ∷ named (codes "IPN") 264
    ∷ named (codes "TA") 32768
    ∷ named (codes "DLV") 32769
    ∷ []

-- the text is a name of the registry in either case, which `RecordType` does not read: it reads the names that it
-- prints, in capitals, and TYPE and a number
pub record IsRegistered (text : List ℕ) (t : RecordType) : Type 0 where
  pub others : (u : RecordType) → IsTypeText text u → ⊥
  pub number : ℕ
  pub listed : number_named registry text ≡ Some number
  pub value : t ≡ record_type_of number

-- the text is a name of the type, or TYPE and its number
abbrev pub IsZoneType : List ℕ → RecordType → Type 0
IsZoneType text t = IsTypeText text t ⊎ IsRegistered text t
