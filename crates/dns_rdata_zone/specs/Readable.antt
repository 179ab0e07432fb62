-- What is true of every value that can be emitted. Contracts see numbers and octets as numbers of any size, so laws
-- require it.
use Rattle.std.specs.Prelude.{◌≢◌, ℕ, ◌<◌, ◌^◌, List, [], length, map}
use Rattle.std.specs.{Int.cast_unsigned, Int.w32, List.AllByRecursion, Net.Addr.IsIpv4Addr, Net.Addr.IsIpv6Addr}
use Rattle.dns_fields.specs.{Labels.DomainName, Labels.IsName, Octets.AreOctets, Tlvs.parameter_octets, Tlvs.Rising}
use Rattle.dns_rdata.specs.declared.record_data.RData.{RData}
use Rattle.dns_rdata.specs.declared.record_data.RData.TheVariants as rdata
use Rattle.dns_rdata_base.specs.declared.soa.SOA.{SOA}
use Rattle.dns_rdata_certs.specs.Enums.{cert_algorithm_number, cert_type_number, cert_usage_number, matching_number, selector_number}
use Rattle.dns_rdata_certs.specs.{Enums.sshfp_algorithm_number, Enums.fingerprint_type_number, declared.tlsa.TLSA.TLSA}
use Rattle.dns_rdata_service.specs.{Parameters.Parameter, Parameters.parameter_of, SvcParamKey.key_number, SvcParamValue.value_of}
use Rattle.dns_rdata_service.specs.{declared.svcb.SVCB.SVCB, declared.svcb.value.SvcParamValue.SvcParamValue}
use Rattle.dns_rdata_service.specs.declared.svcb.value.SvcParamValue.TheVariants as values
use Rattle.dns_rdata_policy.specs.{CAA.caa_flags, CSYNC.csync_flags}
use Rattle.dns_rdata_zone.specs.ZoneTexts.{zone_octets}

-- octets, fewer than 2 ^ 64
pub record AreData (s : List ℕ) : Type 0 where
  pub octets : AreOctets s
  pub short : length s < 2 ^ 64

-- each item is a list of octets
abbrev pub AllOctets : List (List ℕ) → Type 0
AllOctets ss = AllByRecursion AreOctets ss

-- a string of at most 255 octets
pub record IsString (s : List ℕ) : Type 0 where
  pub octets : AreOctets s
  pub fits : length s < 256

-- a name whose labels are octets
pub record IsWritable (x : DomainName) : Type 0 where
  pub octets : AllOctets x.labels
  pub is_name : IsName x

-- the numbers fit 32 bits
pub record AreSmall (x : SOA) : Type 0 where
  pub serial : x.serial < 2 ^ 32
  pub refresh : cast_unsigned w32 x.refresh < 2 ^ 32
  pub retry : cast_unsigned w32 x.retry < 2 ^ 32
  pub expire : cast_unsigned w32 x.expire < 2 ^ 32
  pub minimum : x.minimum < 2 ^ 32

-- the data that follows the numbers of TLSA and SMIMEA, and these numbers
abbrev pub IsWritableTlsa : TLSA → Type 0
IsWritableTlsa x = (cert_usage_number x.cert_usage < 2 ^ 8) × (selector_number x.selector < 2 ^ 8)
    × (matching_number x.matching < 2 ^ 8)
    × AreOctets x.cert_data

-- There are keys and protocols, names of protocols are strings, numbers fit 16 bits, and octets are octets.
abbrev pub IsWritableValue : SvcParamValue → Type 0
IsWritableValue (values.Mandatory x) = (x.0 ≢ []) × AllByRecursion (λ k. key_number k < 2 ^ 16) x.0
IsWritableValue (values.Alpn x) = (x.0 ≢ []) × AllByRecursion IsString x.0
IsWritableValue values.NoDefaultAlpn = Unit {0}
IsWritableValue (values.Port n) = n < 2 ^ 16
IsWritableValue (values.Ipv4Hint x) = AllByRecursion (λ a. IsIpv4Addr a.0) x.0
IsWritableValue (values.Ipv6Hint x) = AllByRecursion (λ a. IsIpv6Addr a.0) x.0
IsWritableValue v = AreOctets (parameter_octets (value_of v))

abbrev pub IsWritableParameter : Parameter → Type 0
IsWritableParameter p =
    (key_number p.0 < 2 ^ 16) × IsWritableValue p.1 × (length (parameter_octets (value_of p.1)) < 2 ^ 16)

pub record IsWritableService (x : SVCB) : Type 0 where
  pub priority : x.svc_priority < 2 ^ 16
  pub target : IsWritable x.target_name
  pub parameters : AllByRecursion IsWritableParameter x.svc_params
  pub rising : Rising (map parameter_of x.svc_params)

-- numbers fit the octets of their fields, strings and labels are octets
abbrev pub FieldsFit : RData → Type 0
FieldsFit (rdata.A x) = IsIpv4Addr x.0
FieldsFit (rdata.AAAA x) = IsIpv6Addr x.0
FieldsFit (rdata.CAA x) = (caa_flags x < 2 ^ 8) × (length x.tag < 256) × AreOctets x.value
FieldsFit (rdata.CERT x) =
    (cert_type_number x.cert_type < 2 ^ 16) × (x.key_tag < 2 ^ 16) × (cert_algorithm_number x.algorithm < 2 ^ 8)
    × AreOctets x.cert_data
FieldsFit (rdata.CNAME x) = IsWritable x.0
FieldsFit (rdata.CSYNC x) =
    (x.soa_serial < 2 ^ 32) × (csync_flags x < 2 ^ 16) × AllByRecursion (λ n. n < 2 ^ 16) x.type_bit_maps
FieldsFit (rdata.HINFO x) = IsString x.cpu × IsString x.os
FieldsFit (rdata.HTTPS x) = IsWritableService x.0
FieldsFit (rdata.MX x) = (x.preference < 2 ^ 16) × IsWritable x.exchange
FieldsFit (rdata.NAPTR x) =
    (x.order < 2 ^ 16) × (x.preference < 2 ^ 16) × IsString x.flags × IsString x.services × IsString x.regexp
    × IsWritable x.replacement
FieldsFit (rdata.NS x) = IsWritable x.0
FieldsFit (rdata.OPENPGPKEY x) = AreOctets x.public_key
FieldsFit (rdata.PTR x) = IsWritable x.0
FieldsFit (rdata.SMIMEA x) = IsWritableTlsa x.0
FieldsFit (rdata.SOA x) = IsWritable x.mname × IsWritable x.rname × AreSmall x
FieldsFit (rdata.SRV x) = (x.priority < 2 ^ 16) × (x.weight < 2 ^ 16) × (x.port < 2 ^ 16) × IsWritable x.target
FieldsFit (rdata.SSHFP x) =
    (sshfp_algorithm_number x.algorithm < 2 ^ 8) × (fingerprint_type_number x.fingerprint_type < 2 ^ 8)
    × AreOctets x.fingerprint
FieldsFit (rdata.SVCB x) = IsWritableService x
FieldsFit (rdata.TLSA x) = IsWritableTlsa x
FieldsFit (rdata.TXT x) = AllByRecursion IsString x.txt_data
FieldsFit v = Unit {0}

pub record IsReadable (v : RData) : Type 0 where
  pub octets : AreData (zone_octets v)
  pub fields : FieldsFit v
