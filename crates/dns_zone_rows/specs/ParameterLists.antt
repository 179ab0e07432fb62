-- Values that are lists (RFC 9460, 7.1.1, 7.3, 8 and appendix A.1).
use Rattle.std.specs.Prelude.{◌≡◌, ◌≢◌, ℕ, ◌≤◌, ◌==◌, if◌then◌else◌, Bool, true, false, List, [], ◌∷◌, ◌++◌, length, IsPermutation}
use Rattle.std.specs.{Int.bytes_high_first, List.AllZip, List.flat_map, List.Sorted.IsStrictlyIncreasing}
use Rattle.dns_fields.specs.Tlvs.{string}
use Rattle.dns_tokens.specs.Forms.{ipv4, ipv6}
use Rattle.dns_rdata_service.specs.{SvcParamKey.key_number, declared.svcb.key.SvcParamKey.SvcParamKey}
use Rattle.dns_zone_rows.specs.{ParameterKeys.IsKeyName, declared.parameters.lists.ListItem.ListItem}
use Rattle.dns_zone_rows.specs.declared.parameters.lists.ListItem.TheVariants.{Protocol, Ipv4, Ipv6}

-- The items of a text, after the front of the first of them. A comma ends an item, unless a `\` is before it that is
-- not escaped itself.
abbrev pub items_from : Bool → List ℕ → List ℕ → List (List ℕ)
items_from escaped front [] = front ∷ []
items_from true front (c ∷ text) = items_from false (front ++ c ∷ []) text
items_from false front (c ∷ text) =
    if c == 44 then front ∷ items_from false [] text else items_from (c == 92) (front ++ c ∷ []) text

-- the items of a list, as they are between its commas
abbrev pub items_in : List ℕ → List (List ℕ)
items_in text = items_from false [] text

-- what an item means: each `\` gives the octet after it
abbrev pub unescaped_from : Bool → List ℕ → List ℕ
unescaped_from escaped [] = []
unescaped_from true (c ∷ item) = c ∷ unescaped_from false item
unescaped_from false (c ∷ item) = if c == 92 then unescaped_from true item else c ∷ unescaped_from false item

-- an octet follows each `\`
abbrev pub escapes_end_from : Bool → List ℕ → Bool
escapes_end_from true [] = false
escapes_end_from false [] = true
escapes_end_from true (c ∷ item) = escapes_end_from false item
escapes_end_from false (c ∷ item) = escapes_end_from (c == 92) item

-- the item is this name of a protocol
pub record IsProtocol (name item : List ℕ) : Type 0 where
  pub escapes : escapes_end_from false item ≡ true
  pub value : name ≡ unescaped_from false item
  pub some : 1 ≤ length name
  pub fits : length name ≤ 255

-- the item has these octets on the wire
abbrev pub IsItem : ListItem → List ℕ → List ℕ → Type 0
IsItem Protocol item octets = (name : List ℕ) × IsProtocol name item × (octets ≡ string name)
IsItem Ipv4 item octets = ipv4.is octets item
IsItem Ipv6 item octets = ipv6.is octets item

-- The list has these octets: those of its items, in their order.
pub record IsList (item : ListItem) (text octets : List ℕ) : Type 0 where
  pub parts : List (List ℕ)
  pub each : AllZip (IsItem item) (items_in text) parts
  pub joined : octets ≡ flat_map (λ part. part) parts

-- the item names the key of this number, which is not `mandatory` itself
pub record IsListedKey (item : List ℕ) (n : ℕ) : Type 0 where
  pub key : SvcParamKey
  pub named : IsKeyName key item
  pub number : n ≡ key_number key
  pub other : n ≢ 0

-- The list of keys has these octets: the keys' numbers in rising order, none twice.
pub record IsKeyList (text octets : List ℕ) : Type 0 where
  pub keys : List ℕ
  pub each : AllZip IsListedKey (items_in text) keys
  pub order : List ℕ
  pub same : IsPermutation keys order
  pub rising : IsStrictlyIncreasing order
  pub joined : octets ≡ flat_map (bytes_high_first 2) order
