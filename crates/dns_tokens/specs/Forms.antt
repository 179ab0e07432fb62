-- The grammar of tokens: each type of record is a token row of forms, one for each of its tokens, and what follows
-- them.
use Rattle.std.specs.Prelude.{◌≡◌, ℕ, ◌*◌, ◌^◌, ◌<◌, ◌≤◌, List, [], ◌∷◌, Option, Ok}
use Rattle.std.specs.{Net.Addr.ipv4_octets, Net.Addr.ipv6_octets, declared.net.ipv4_addr.Ipv4Addr.Ipv4Addr, declared.net.ipv6_addr.Ipv6Addr.Ipv6Addr}
use Rattle.std.specs.Str.Parse.{IsNumeral, digits_value, without_leading_plus}
use Rattle.std.specs.Net.Grammar.{IsIpv4Text, IsIpv6Text}
use Rattle.base64.specs.{Engines.standard, GeneralPurpose.decode_of}
use Rattle.dns_fields.specs.Labels.{DomainName}
use Rattle.dns_fields.specs.Fields.{Value, Values}
use Rattle.dns_fields.specs.declared.Kind.{Kind, TheVariants.Number, TheVariants.Octets, TheVariants.Name}
use Rattle.dns_fields.specs.declared.Kind.{TheVariants.CharacterString, TheVariants.CharacterStrings, TheVariants.Rest}
use Rattle.dns_tokens.specs.Ttl.{IsTtl}
use Rattle.dns_names_wire.specs.NameValues.{IsParsed}

-- which values of a field a token has
pub record Form (k : Kind) : Type 1 where
  pub is : Value k → List ℕ → Type 0

-- which values of the fields a list of tokens has
pub record TokenRow (kinds : List Kind) : Type 1 where
  pub stand : Values kinds → List (List ℕ) → Type 0

-- ---- token rows

-- the first token has the form, and those after it the token row; no token has it
abbrev pub StandInOrder : {k : Kind} {kinds : List Kind} → Form k → TokenRow kinds → Values (k ∷ kinds) → List (List ℕ)
    → Type 0
StandInOrder form token_row vs [] = ⊥
StandInOrder form token_row vs (first ∷ tokens) = form.is vs.0 first × token_row.stand vs.1 tokens

-- a token of the form, and after it tokens of the token row
unfoldable pub token : {k : Kind} {kinds : List Kind} → Form k → TokenRow kinds → TokenRow (k ∷ kinds)
token form token_row = record { stand = StandInOrder form token_row }

-- whatever is there is not read
abbrev pub ignored : TokenRow []
ignored = record { stand = λ vs tokens. Unit {0} }

-- nothing may be there
abbrev pub nothing : TokenRow []
nothing = record { stand = λ vs tokens. tokens ≡ [] }

-- every further token is a string, its octets as they are
abbrev pub every_text : TokenRow (CharacterStrings ∷ [])
every_text = record { stand = λ vs tokens. vs.0 ≡ tokens }

-- ---- forms of tokens

-- An optional `+` and one decimal digit or more, leading zeros allowed, of a number of so many bits.
pub record IsNumberToken (bits n : ℕ) (token : List ℕ) : Type 0 where
  pub digits : IsNumeral 10 (without_leading_plus token)
  pub value : n ≡ digits_value 10 (without_leading_plus token)
  pub fits : n < 2 ^ bits

-- a decimal number of so many octets
abbrev pub number : (octets : ℕ) → Form (Number octets)
number octets = record { is = IsNumberToken (8 * octets) }

-- a time to live, of at most so many seconds
abbrev pub ttl : ℕ → Form (Number 4)
ttl most = record { is = λ n token. IsTtl token n × (n ≤ most) }

-- the text of a name, which an origin completes
abbrev pub name : Option DomainName → Form Name
name origin = record { is = λ x token. IsParsed token origin x }

-- base64 (RFC 4648, 4)
abbrev pub base64 : Form Rest
base64 = record { is = λ octets token. decode_of standard token ≡ Ok octets }

-- the token's octets, as a string
abbrev pub kept : Form CharacterString
kept = record { is = λ octets token. octets ≡ token }

-- the token's octets, as the last field
abbrev pub kept_rest : Form Rest
kept_rest = record { is = λ octets token. octets ≡ token }

-- the text of an IPv4 address
abbrev pub ipv4 : Form (Octets 4)
ipv4 = record { is = λ octets token. (address : Ipv4Addr) × IsIpv4Text token address × (octets ≡ ipv4_octets address) }

-- the text of an IPv6 address (RFC 4291, 2.2)
abbrev pub ipv6 : Form (Octets 16)
ipv6 = record { is = λ octets token. (address : Ipv6Addr) × IsIpv6Text token address × (octets ≡ ipv6_octets address) }
