-- Service parameters in zone files (RFC 9460, 2.1, 7 and appendix A).
use Rattle.std.specs.Prelude.{ℕ, ◌==◌, ◌&&◌, nat_lt, Bool, true, false, Option, Some, None, if◌then◌else◌, List, [], ◌∷◌, ◌++◌, flat_map, map, codes, decimal}
use Rattle.std.specs.List.{list_all}
use Rattle.base64.specs.{Engines.standard, GeneralPurpose.encode_of}
use Rattle.dns_fields.specs.Tlvs.{is_some, parameter_octets}
use Rattle.dns_rdata_base.specs.{A.a_text, AAAA.aaaa_text}
use Rattle.dns_rdata_service.specs.SvcParamKey.{is_unnamed, key_number, key_of, key_text}
use Rattle.dns_rdata_service.specs.{Parameters.Parameter, SvcParamValue.own_key, SvcParamValue.value_of, declared.svcb.key.SvcParamKey.SvcParamKey}
use Rattle.dns_rdata_service.specs.declared.svcb.value.SvcParamValue.{SvcParamValue}
use Rattle.dns_rdata_service.specs.declared.svcb.value.SvcParamValue.TheVariants.{Mandatory, Alpn, NoDefaultAlpn, Port, Ipv4Hint, EchConfigList}
use Rattle.dns_rdata_service.specs.declared.svcb.value.SvcParamValue.TheVariants.{Ipv6Hint, Unknown}
use Rattle.dns_rdata_zone.specs.{Lists.commas, Spellings.protocol_octet, Strings.quoted}

-- A key's name (RFC 9460, 14.3.2), or `key` and the number if it has no name (2.1). Key 7 is written as a number, since
-- readers from before RFC 9461 do not know `dohpath`.
abbrev pub key_name : ℕ → List ℕ
key_name n = if nat_lt n 7 then key_text (key_of n) else codes "key" ++ decimal n

abbrev pub named_key : SvcParamKey → List ℕ
named_key key = key_name (key_number key)

-- a protocol's name, as an item of a list in quotes
abbrev pub protocol : List ℕ → List ℕ
protocol name = flat_map protocol_octet name

-- an equals sign and the value; nothing if there is no value
abbrev pub zone_value : SvcParamValue → List ℕ
zone_value (Mandatory x) = codes "=" ++ commas named_key x.0
zone_value (Alpn x) = codes "=\"" ++ commas protocol x.0 ++ codes "\""
zone_value NoDefaultAlpn = []
zone_value (Port n) = codes "=" ++ decimal n
zone_value (Ipv4Hint x) = codes "=" ++ commas a_text x.0
zone_value (EchConfigList x) = codes "=\"" ++ encode_of standard x.0 ++ codes "\""
zone_value (Ipv6Hint x) = codes "=" ++ commas aaaa_text x.0
zone_value (Unknown x) = if is_some x.0 then codes "=" ++ quoted x.0 else []
zone_value v = codes "=" ++ quoted (parameter_octets (value_of v))

abbrev pub zone_parameter : Parameter → List ℕ
zone_parameter p = named_key p.0 ++ zone_value p.1

-- ---- which have a text

-- strictly greater than the last one, less than 65535 (8)
abbrev pub rises_from : ℕ → List ℕ → Bool
rises_from last [] = true
rises_from last (k ∷ keys) = nat_lt last k && (nat_lt k 65535 && rises_from k keys)

-- no name is empty
abbrev pub are_some : List (List ℕ) → Bool
are_some names = list_all is_some names

-- the number is that of a key, if there is one
abbrev pub is_number_of : ℕ → Option SvcParamKey → Bool
is_number_of n None = false
is_number_of n (Some key) = n == key_number key

-- The value has the format of the key with this number, and a text can have it. No text has: no addresses, no
-- configuration, no path, an empty name of a protocol, mandatory keys that do not rise or are not greater than 0, or
-- the invalid key 65535.
abbrev pub value_has_text : ℕ → SvcParamValue → Bool
value_has_text n (Mandatory x) = n == 0 && rises_from 0 (map key_number x.0)
value_has_text n (Alpn x) = n == 1 && are_some x.0
value_has_text n NoDefaultAlpn = n == 2
value_has_text n (Port port) = n == 3
value_has_text n (Ipv4Hint x) = n == 4 && is_some x.0
value_has_text n (EchConfigList x) = n == 5 && is_some x.0
value_has_text n (Ipv6Hint x) = n == 6 && is_some x.0
value_has_text n (Unknown x) = is_unnamed (key_of n) && nat_lt n 65535
value_has_text n v = is_number_of n (own_key v) && is_some (parameter_octets (value_of v))

abbrev pub has_text : Parameter → Bool
has_text p = value_has_text (key_number p.0) p.1
