-- The keys of service parameters: the numbers of their variants (RFC 9460, 14.3.2; RFC 9461, 5). A variant with a
-- number inside has that number.
use Rattle.std.specs.Prelude.{ℕ, nat_le, Bool, true, false, if◌then◌else◌, List, [], ◌∷◌, ◌++◌, codes, decimal}
use Rattle.dns_rdata_base.specs.Numbered.{numbered_of}
use Rattle.dns_rdata_service.specs.declared.svcb.key.SvcParamKey.{SvcParamKey}
use Rattle.dns_rdata_service.specs.declared.svcb.key.SvcParamKey.TheVariants.{Mandatory, Alpn, NoDefaultAlpn, Port, Ipv4Hint, EchConfigList, Ipv6Hint}
use Rattle.dns_rdata_service.specs.declared.svcb.key.SvcParamKey.TheVariants.{DohPath, Key, Key65535, Unknown}

abbrev pub key_number : SvcParamKey → ℕ
key_number Mandatory = 0
key_number Alpn = 1
key_number NoDefaultAlpn = 2
key_number Port = 3
key_number Ipv4Hint = 4
key_number EchConfigList = 5
key_number Ipv6Hint = 6
key_number DohPath = 7
key_number (Key n) = n
key_number Key65535 = 65535
key_number (Unknown n) = n

-- the rank of the variant
abbrev pub key_variant : SvcParamKey → ℕ
key_variant Mandatory = 0
key_variant Alpn = 1
key_variant NoDefaultAlpn = 2
key_variant Port = 3
key_variant Ipv4Hint = 4
key_variant EchConfigList = 5
key_variant Ipv6Hint = 6
key_variant DohPath = 7
key_variant (Key n) = 8
key_variant Key65535 = 9
key_variant (Unknown n) = 10

abbrev pub named_keys : List SvcParamKey
named_keys = Mandatory ∷ Alpn ∷ NoDefaultAlpn ∷ Port ∷ Ipv4Hint ∷ EchConfigList ∷ Ipv6Hint ∷ DohPath ∷ Key65535 ∷ []

-- whether a key has no name of its own and no format
abbrev pub is_unnamed : SvcParamKey → Bool
is_unnamed (Key n) = true
is_unnamed Key65535 = true
is_unnamed (Unknown n) = true
is_unnamed key = false

-- for the other numbers: from 65280 on they are for private use
abbrev pub other_key : ℕ → SvcParamKey
other_key n = if nat_le 65280 n then Key n else Unknown n

-- the variant of a number
unfoldable pub key_of : ℕ → SvcParamKey
key_of = numbered_of key_number named_keys other_key

-- its name (RFC 9460, 2.1 and 14.3.2; RFC 9461, 5); without a name `key` or `unknown`, and the number
unfoldable pub key_text : SvcParamKey → List ℕ
key_text Mandatory = codes "mandatory"
key_text Alpn = codes "alpn"
key_text NoDefaultAlpn = codes "no-default-alpn"
key_text Port = codes "port"
key_text Ipv4Hint = codes "ipv4hint"
key_text EchConfigList = codes "ech"
key_text Ipv6Hint = codes "ipv6hint"
key_text DohPath = codes "dohpath"
key_text (Key n) = codes "key" ++ decimal n
key_text Key65535 = codes "key65535"
key_text (Unknown n) = codes "unknown" ++ decimal n
