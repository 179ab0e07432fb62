-- Values of service parameters in texts of zone files (RFC 9460, 2.1, 7 and 8; RFC 9461, 5).
use Rattle.std.specs.Prelude.{◌≡◌, ◌≢◌, ℕ, ◌<◌, ◌^◌, ◌==◌, Bool, true, false, List, [], length, map, Ok, codes}
use Rattle.std.specs.{Int.bytes_high_first, List.AllByRecursion, Str.Parse.IsNumeral, Str.Parse.digits_value}
use Rattle.base64.specs.{Engines.standard, GeneralPurpose.decode_of}
use Rattle.dns_zone_tokens.specs.Letters.{letters, octet_of, escapes_stand}
use Rattle.dns_rdata_service.specs.declared.svcb.key.SvcParamKey.{SvcParamKey}
use Rattle.dns_zone_rows.specs.ParameterLists.{IsList, IsKeyList}
use Rattle.dns_rdata_service.specs.declared.svcb.key.SvcParamKey.TheVariants.{Mandatory, Alpn, NoDefaultAlpn, Port, Ipv4Hint, EchConfigList}
use Rattle.dns_rdata_service.specs.declared.svcb.key.SvcParamKey.TheVariants.{Ipv6Hint, DohPath}
use Rattle.dns_zone_rows.specs.declared.parameters.lists.ListItem.TheVariants.{Protocol, Ipv4, Ipv6}

-- a decimal number of 16 bits
pub record IsPort (text octets : List ℕ) : Type 0 where
  pub digits : IsNumeral 10 text
  pub fits : digits_value 10 text < 2 ^ 16
  pub value : octets ≡ bytes_high_first 2 (digits_value 10 text)

-- the keys whose values are text
abbrev pub is_text_key : SvcParamKey → Bool
is_text_key DohPath = true
is_text_key key = false

-- The octets on the wire that a value of the key has, by the octets of its text. If the key's value is text, or if the
-- key is written as a number, whatever the number, they are the octets of the text.
abbrev pub HasOctets : SvcParamKey → List ℕ → List ℕ → Type 0
HasOctets Mandatory text octets = IsKeyList text octets
HasOctets Alpn text octets = IsList Protocol text octets
HasOctets NoDefaultAlpn text octets = (text ≡ []) × (octets ≡ [])
HasOctets Port text octets = IsPort text octets
HasOctets Ipv4Hint text octets = IsList Ipv4 text octets
HasOctets EchConfigList text octets = (decode_of standard text ≡ Ok octets) × (octets ≢ [])
HasOctets Ipv6Hint text octets = IsList Ipv6 text octets
HasOctets key text octets = (octets ≡ text) × (is_text_key key ≡ true → octets ≢ [])

-- the text of the error for a value that does not have the format of the key
abbrev pub wrong_value : SvcParamKey → List ℕ
wrong_value Mandatory = codes "no list of different keys in mandatory"
wrong_value Alpn = codes "no list of protocols in alpn"
wrong_value NoDefaultAlpn = codes "value of no-default-alpn"
wrong_value Port = codes "no number of 16 bits in port"
wrong_value Ipv4Hint = codes "no list of addresses in ipv4hint"
wrong_value EchConfigList = codes "no base64 in ech"
wrong_value Ipv6Hint = codes "no list of addresses in ipv6hint"
wrong_value DohPath = codes "no path in dohpath"
wrong_value key = codes "no value of a service parameter"

-- The keys whose values have no escapes in texts of zone files (RFC 9460, 7.2, 7.3 and 8; for `ech` RFC 9848, 3).
abbrev pub forbids_escapes : SvcParamKey → Bool
forbids_escapes Mandatory = true
forbids_escapes Port = true
forbids_escapes Ipv4Hint = true
forbids_escapes EchConfigList = true
forbids_escapes Ipv6Hint = true
forbids_escapes key = false

-- if the key forbids escapes, the text of the value has no `\`
abbrev pub IsPlain : SvcParamKey → List ℕ → Type 0
IsPlain key text = forbids_escapes key ≡ true → AllByRecursion (λ c. (c == 92) ≡ false) text

-- the text of a value, as it is written, has these octets on the wire
pub record IsValue (key : SvcParamKey) (text octets : List ℕ) : Type 0 where
  pub plain : IsPlain key text
  pub escapes : escapes_stand text ≡ true
  pub has : HasOctets key (map octet_of (letters text)) octets
  pub fits : length octets < 2 ^ 16
