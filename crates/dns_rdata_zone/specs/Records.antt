-- The zone texts of records.
use Rattle.std.specs.Prelude.{ℕ, ◌&&◌, Bool, if◌then◌else◌, List, [], ◌∷◌, ◌++◌, flat_map, codes, decimal}
use Rattle.std.specs.{List.list_all, Char.is_ascii_alphanumeric, Int.cast_unsigned, Int.w32}
use Rattle.base64.specs.{Engines.standard, GeneralPurpose.encode_of}
use Rattle.hex.specs.Hex.{encode_lower}
use Rattle.dns_fields.specs.{Fields.canonical, Tlvs.is_some}
use Rattle.dns_types.specs.{RecordTypes.type_text, RecordTypes.record_type_of, declared.record_type.RecordType.RecordType}
use Rattle.dns_types.specs.declared.record_type.RecordType.TheVariants.{ZERO, ANAME}
use Rattle.dns_rdata_base.specs.{declared.hinfo.HINFO.HINFO, declared.naptr.NAPTR.NAPTR, declared.openpgpkey.OPENPGPKEY.OPENPGPKEY}
use Rattle.dns_rdata_base.specs.{declared.soa.SOA.SOA, declared.txt.TXT.TXT}
use Rattle.dns_rdata_certs.specs.{declared.cert.CERT.CERT, declared.sshfp.SSHFP.SSHFP, declared.tlsa.TLSA.TLSA, CERT.cert_shape, CERT.cert_fields}
use Rattle.dns_rdata_certs.specs.Enums.{cert_type_number, cert_algorithm_number, cert_usage_number, matching_number, selector_number}
use Rattle.dns_rdata_certs.specs.Enums.{sshfp_algorithm_number, fingerprint_type_number}
use Rattle.dns_rdata_certs.specs.{SSHFP.sshfp_shape, SSHFP.sshfp_fields, TLSA.tlsa_shape, TLSA.tlsa_fields}
use Rattle.dns_rdata_policy.specs.{declared.caa.CAA.CAA, declared.csync.CSYNC.CSYNC, CAA.caa_shape, CAA.caa_fields, CAA.caa_flags, CSYNC.csync_flags}
use Rattle.dns_rdata_zone.specs.{Generic.generic, Strings.quoted, Strings.spaced, Names.zone_name, Tokens.in_tokens}

-- two strings
abbrev pub zone_hinfo : HINFO → List ℕ
zone_hinfo x = quoted x.cpu ++ codes " " ++ quoted x.os

-- strings; no strings have no text of their own
abbrev pub zone_strings : List (List ℕ) → List ℕ
zone_strings [] = generic []
zone_strings (s ∷ strings) = quoted s ++ spaced strings

abbrev pub zone_txt : TXT → List ℕ
zone_txt x = zone_strings x.txt_data

-- order and preference, flags, services and regular expression, the replacement
abbrev pub zone_naptr : NAPTR → List ℕ
zone_naptr x = (decimal x.order ++ codes " " ++ decimal x.preference)
    ++ (codes " " ++ quoted x.flags ++ codes " " ++ quoted x.services ++ codes " " ++ quoted x.regexp ++ codes " "
    ++ zone_name x.replacement)

-- two names and five numbers; refresh, retry and expire as the unsigned numbers of their 32 bits
abbrev pub zone_soa : SOA → List ℕ
zone_soa x = (zone_name x.mname ++ codes " " ++ zone_name x.rname ++ codes " " ++ decimal x.serial)
    ++ (codes " " ++ decimal (cast_unsigned w32 x.refresh) ++ codes " " ++ decimal (cast_unsigned w32 x.retry)
    ++ codes " " ++ decimal (cast_unsigned w32 x.expire) ++ codes " " ++ decimal x.minimum)

-- letters and digits, at least one
abbrev pub has_plain_tag : CAA → Bool
has_plain_tag x = is_some x.tag && list_all is_ascii_alphanumeric x.tag

-- flags, tag, and the value in quotes; another tag has no text
abbrev pub zone_caa : CAA → List ℕ
zone_caa x = if has_plain_tag x then decimal (caa_flags x) ++ codes " " ++ x.tag ++ codes " " ++ quoted x.value
    else generic (canonical caa_shape (caa_fields x))

-- type, key tag and algorithm in decimal, and base64; no certificate has no text
abbrev pub zone_cert : CERT → List ℕ
zone_cert x = if is_some x.cert_data then decimal (cert_type_number x.cert_type) ++ codes " "
    ++ decimal x.key_tag ++ codes " "
    ++ decimal (cert_algorithm_number x.algorithm) ++ codes " " ++ in_tokens (encode_of standard x.cert_data)
    else generic (canonical cert_shape (cert_fields x))

abbrev pub zone_sshfp : SSHFP → List ℕ
zone_sshfp x = if is_some x.fingerprint then decimal (sshfp_algorithm_number x.algorithm) ++ codes " "
    ++ decimal (fingerprint_type_number x.fingerprint_type) ++ codes " " ++ in_tokens (encode_lower x.fingerprint)
    else generic (canonical sshfp_shape (sshfp_fields x))

abbrev pub zone_tlsa : TLSA → List ℕ
zone_tlsa x = if is_some x.cert_data then decimal (cert_usage_number x.cert_usage) ++ codes " "
    ++ decimal (selector_number x.selector) ++ codes " "
    ++ decimal (matching_number x.matching) ++ codes " " ++ in_tokens (encode_lower x.cert_data)
    else generic (canonical tlsa_shape (tlsa_fields x))

abbrev pub zone_openpgpkey : OPENPGPKEY → List ℕ
zone_openpgpkey x = if is_some x.public_key then in_tokens (encode_of standard x.public_key) else generic []

-- types 0 and 65305 have no mnemonic in zone files
abbrev pub zone_type : RecordType → List ℕ
zone_type ZERO = codes "TYPE0"
zone_type ANAME = codes "TYPE65305"
zone_type t = type_text t

-- serial and flags, and each type
abbrev pub zone_csync : CSYNC → List ℕ
zone_csync x = (decimal x.soa_serial ++ codes " " ++ decimal (csync_flags x))
    ++ flat_map (λ n. codes " " ++ zone_type (record_type_of n)) x.type_bit_maps
