-- Domain names in tokens (RFC 1035, 5.1).
use Rattle.std.specs.Prelude.{◌≡◌, ◌⊎◌, ℕ, ◌+◌, ◌<◌, ◌≤◌, Bool, true, false, ◌==◌, if◌then◌else◌, List, [], ◌∷◌, ◌++◌, length, Option, Some, None}
use Rattle.dns_fields.specs.{declared.Kind.TheVariants.Name, Labels.DomainName, Labels.AreLabels, Labels.IsName, Labels.wire}
use Rattle.dns_names_wire.specs.NameValues.{root_name, completed}
use Rattle.dns_zone_tokens.specs.{Forms.ZoneForm, Tokens.Token, declared.field.NameField.NameField}
use Rattle.dns_zone_tokens.specs.Letters.{Letter, letters, octet_of, stands_for, escapes_stand, BeginsWithNone}
use Rattle.dns_types.specs.declared.error.ParseError.{ParseError}
use Rattle.dns_types.specs.declared.error.ParseError.TheVariants as parse

-- the octets of letters, split at their dots, after the front of a part
abbrev pub parts_from : List ℕ → List Letter → List (List ℕ)
parts_from front [] = front ∷ []
parts_from front (x ∷ xs) =
    if stands_for 46 x then front ∷ parts_from [] xs else parts_from (front ++ octet_of x ∷ []) xs

abbrev pub with_label : List ℕ → DomainName → DomainName
with_label label name = record name { labels = label ∷ name.labels }

-- the name with these parts as labels; an empty part at the end is no label, and the name then is fully qualified
abbrev pub name_of_parts : List (List ℕ) → DomainName
name_of_parts [] = record { labels = []; fully_qualified = false }
name_of_parts ([] ∷ []) = root_name
name_of_parts (part ∷ parts) = with_label part (name_of_parts parts)

-- the name whose labels the text has, joined by dots
abbrev pub labelled : List ℕ → DomainName
labelled text = name_of_parts (parts_from [] (letters text))

-- the text is only this character
abbrev pub is_alone : ℕ → List ℕ → Bool
is_alone c (d ∷ []) = d == c
is_alone c text = false

-- `@` is the origin, and a dot the root; any other text has labels, which the origin completes if no dot ends them
abbrev pub named : Option DomainName → List ℕ → Option DomainName
named origin text =
    if is_alone 64 text then origin
    else if is_alone 46 text then Some root_name
    else Some (completed (labelled text) origin)

-- the token is this name, without quotes
pub record IsNameToken (origin : Option DomainName) (name : DomainName) (token : Token) : Type 0 where
  pub bare : token.quoted ≡ false
  pub escapes : escapes_stand token.octets ≡ true
  pub named : named origin token.octets ≡ Some name
  pub is_name : IsName name

-- a name, which an origin completes
abbrev pub name : Option DomainName → ZoneForm Name
name origin = record { is = IsNameToken origin }

-- a name's octets, uncompressed with case preserved
abbrev pub name_octets : DomainName → List ℕ
name_octets x = wire x.labels ++ 0 ∷ []

-- ---- why a token is no name, as the field's texts say

-- Up to the rest of it the text is these labels and the front of a part; each label is right, together they have room, and
-- each `\` has a meaning.
pub record ReadTo (text rest : List ℕ) (labels : List (List ℕ)) (front : List ℕ) : Type 0 where
  pub seen : List ℕ
  pub split : text ≡ seen ++ rest
  pub escapes : escapes_stand seen ≡ true
  pub parts : parts_from [] (letters seen) ≡ labels ++ front ∷ []
  pub are : AreLabels labels
  pub fits : length (wire labels) ≤ 254

-- a dot comes first
pub record BeginsWithDot (text : List ℕ) : Type 0 where
  pub behind : List ℕ
  pub is : text ≡ 46 ∷ behind

-- a part ends before the rest: with the text, or at a dot
abbrev pub EndsPart : List ℕ → Type 0
EndsPart rest = (rest ≡ []) ⊎ BeginsWithDot rest

-- more than 255 octets with the 0 at the end
abbrev pub IsLongName : List (List ℕ) → Type 0
IsLongName labels = 255 < length (wire labels) + 1

-- What is wrong after labels and the front of a part: a `\` without a meaning, before the part has more than 63 octets; a
-- part without octets, which a dot ends; one of more than 63 octets; or one that ends there, for which a name has no room.
abbrev pub PartFault : NameField → List (List ℕ) → List ℕ → List ℕ → ParseError → Type 0
PartFault field labels front rest e =
    ((e ≡ parse.Message field.escape) × (length front ≤ 63) × BeginsWithNone rest)
    ⊎ ((e ≡ parse.Message field.empty_label) × (length front ≡ 0) × BeginsWithDot rest)
    ⊎ ((e ≡ parse.Message field.long_label) × (63 < length front))
    ⊎ ((e ≡ parse.Message field.long_name) × (1 ≤ length front) × (length front ≤ 63)
    × (253 < length (wire labels) + length front) × EndsPart rest)

-- the first fault in the labels of a text
pub record LabelsFault (field : NameField) (text : List ℕ) (e : ParseError) : Type 0 where
  pub rest : List ℕ
  pub labels : List (List ℕ)
  pub front : List ℕ
  pub read : ReadTo text rest labels front
  pub why : PartFault field labels front rest e

-- the labels of the text are a name without fault, and too many with the origin's
pub record PastRoom (origin : Option DomainName) (text : List ℕ) : Type 0 where
  pub escapes : escapes_stand text ≡ true
  pub own : IsName (labelled text)
  pub long : IsLongName (completed (labelled text) origin).labels

-- `@` without an origin, the first fault of the labels, or too many of them with the origin's
abbrev pub BareNameFault : NameField → Option DomainName → List ℕ → ParseError → Type 0
BareNameFault field origin text e =
    ((e ≡ parse.Message field.no_origin) × (is_alone 64 text ≡ true) × (origin ≡ None))
    ⊎ LabelsFault field text e
    ⊎ ((e ≡ parse.Message field.long_name) × PastRoom origin text)

-- quotes, or else what is wrong with the octets
abbrev pub NameFault : NameField → Option DomainName → Token → ParseError → Type 0
NameFault field origin token e =
    ((e ≡ parse.Message field.quoted) × (token.quoted ≡ true))
    ⊎ ((token.quoted ≡ false) × BareNameFault field origin token.octets e)
