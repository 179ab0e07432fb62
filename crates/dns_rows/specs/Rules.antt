-- What is asked of a field beyond its kind.
use Rattle.std.specs.Prelude.{◌≡◌, ◌≢◌, ℕ, ◌≤◌, ◌==◌, Bool, true, List, [], ◌∷◌, length, bit_and, IsUtf8}
use Rattle.std.specs.{Char.is_ascii_alphanumeric, List.list_all, List.AllByRecursion}
use Rattle.dns_fields.specs.declared.Kind.{Kind, TheVariants.Number, TheVariants.CharacterString, TheVariants.Rest}
use Rattle.dns_fields.specs.declared.Kind.{TheVariants.Parameters}
use Rattle.dns_fields.specs.{Fields.Value, Fields.Values, Tlvs.Numbered, Tlvs.ParameterValue, Tlvs.parameter_octets}
use Rattle.dns_rows.specs.declared.row.{Part.Part, Rule.Rule}
use Rattle.dns_rows.specs.declared.row.Rule.TheVariants as rules
use Rattle.dns_rows.specs.Table.{kinds_of}

-- letters and digits of ASCII
abbrev pub AreLetters : List ℕ → Type 0
AreLetters octets = list_all is_ascii_alphanumeric octets ≡ true

-- 1 to 15 letters and digits
pub record IsTag (tag : List ℕ) : Type 0 where
  pub some : 1 ≤ length tag
  pub short : length tag ≤ 15
  pub letters : AreLetters tag

-- flags without any of the bits 2 to 7
abbrev pub AreKnownFlags : ℕ → Type 0
AreKnownFlags flags = bit_and flags 252 ≡ 0

-- the numbers of the keys whose values are UTF-8: the path of DNS queries (RFC 9461, 5)
abbrev pub is_text_key : ℕ → Bool
is_text_key key = key == 7

abbrev pub HasText : ℕ → ParameterValue → Type 0
HasText key value = is_text_key key ≡ true → IsUtf8 (parameter_octets value)

abbrev pub HaveTexts : List (Numbered ParameterValue) → Type 0
HaveTexts v = AllByRecursion (λ x. HasText x.0 x.1) v

-- the field is as its rule asks, and then the rest holds
abbrev pub also : Rule → (k : Kind) → Value k → Type 0 → Type 0
also rules.Letters CharacterString v rest = AreLetters v × rest
also rules.Tag CharacterString v rest = IsTag v × rest
also rules.KnownFlags (Number w) v rest = AreKnownFlags v × rest
also rules.Some Rest v rest = (v ≢ []) × rest
also rules.Paths Parameters v rest = HaveTexts v × rest
also rule k v rest = rest

-- each field is as its rule asks
abbrev pub MeetsRow : (row : List Part) → Values (kinds_of row) → Type 0
MeetsRow [] vs = Unit {0}
MeetsRow (p ∷ row) vs = also p.rule p.kind vs.0 (MeetsRow row vs.1)
