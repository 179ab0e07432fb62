-- Laws of service parameters.
use Rattle.std.specs.Prelude.{◌≡◌, ◌≢◌, ℕ, ◌≤◌, ◌==◌, ◌||◌, if◌then◌else◌, true, false, List, [], ◌∷◌, ◌++◌, length, map}
use Rattle.std.specs.List.{AllByRecursion, AllZip, flat_map, join_with_byte}
use Rattle.dns_fields.specs.Tlvs.{string}
use Rattle.dns_zone_tokens.specs.Tokens.{Token}
use Rattle.dns_zone_rows.specs.{ParameterLists.IsItem, ParameterLists.IsList, declared.parameters.lists.ListItem.ListItem, declared.parameters.lists.ListItem.TheVariants.Protocol}
use Rattle.dns_zone_rows.specs.Parameters.{Parameter, HasParameter, IsParameter, AreParameters}

-- tokens have at most one list of octets
abbrev pub OneReading : Type 0
OneReading = (tokens : List Token) (a b : List ℕ) → AreParameters a tokens → AreParameters b tokens → a ≡ b

-- ---- lists that are written

-- a name as it is written in a list: a `\` before each comma and each `\` (RFC 9460, A.1)
abbrev pub escaped : List ℕ → List ℕ
escaped name = flat_map (λ c. if c == 44 || c == 92 then 92 ∷ c ∷ [] else c ∷ []) name

-- one to 255 octets
abbrev pub IsProtocolName : List ℕ → Type 0
IsProtocolName name = (1 ≤ length name) × (length name ≤ 255)

-- names of protocols are read from the list that they are written as
abbrev pub NamesRead : Type 0
NamesRead = (names : List (List ℕ)) → names ≢ [] → AllByRecursion IsProtocolName names
    → IsList Protocol (join_with_byte 44 (map escaped names)) (flat_map string names)

-- no octet of the item has a meaning in a list
abbrev pub IsPlainItem : List ℕ → Type 0
IsPlainItem item = AllByRecursion (λ c. (c ≢ 44) × (c ≢ 92)) item

-- items of only such octets are read from the list that they are written as
abbrev pub PlainItemsRead : Type 0
PlainItemsRead = (item : ListItem) (items parts : List (List ℕ)) → items ≢ [] → AllByRecursion IsPlainItem items
    → AllZip (IsItem item) items parts
    → IsList item (join_with_byte 44 items) (flat_map (λ part. part) parts)

-- ---- parameters that are written

-- the name has no `=`
abbrev pub HasNoEquals : List ℕ → Type 0
HasNoEquals name = AllByRecursion (λ c. c ≢ 61) name

-- a token of these octets without quotes that does not directly follow another, and one in quotes that does
abbrev pub alone : List ℕ → Token
alone octets = record { octets = octets; quoted = false; joined = false }

abbrev pub in_quotes : List ℕ → Token
in_quotes octets = record { octets = octets; quoted = true; joined = true }

-- a parameter is read from its name, `=` and its value, in quotes or without
abbrev pub TokensRead : Type 0
TokensRead = (name value : List ℕ) (p : Parameter) → HasNoEquals name → HasParameter name value p
    → IsParameter p (alone (name ++ 61 ∷ value) ∷ []) × IsParameter p (alone (name ++ 61 ∷ []) ∷ in_quotes value ∷ [])
