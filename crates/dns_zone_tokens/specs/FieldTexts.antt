-- The texts of errors about a field, by the name of the field.
use Rattle.std.specs.Prelude.{ℕ, List, [], ◌∷◌, ◌++◌, codes}
use Rattle.dns_tokens.specs.declared.field.Field.{Field}
use Rattle.dns_zone_tokens.specs.{declared.field.HexField.HexField, declared.field.NameField.NameField}
use Rattle.dns_zone_tokens.specs.declared.field.StringField.{StringField}

-- ---- the texts that the code keeps for a field, in the order of their declaration

abbrev pub field_texts : Field → List (List ℕ)
field_texts f = f.name.now ∷ f.wrong.now ∷ []

abbrev pub string_texts : StringField → List (List ℕ)
string_texts f = f.name.now ∷ f.escape.now ∷ f.long.now ∷ []

abbrev pub name_texts : NameField → List (List ℕ)
name_texts f =
    f.name.now ∷ f.quoted.now ∷ f.no_origin.now ∷ f.escape.now ∷ f.empty_label.now ∷ f.long_label.now ∷
    f.long_name.now ∷ []

abbrev pub hex_texts : HexField → List (List ℕ)
hex_texts f = f.quoted.now ∷ f.odd.now ∷ f.digit.now ∷ []

-- ---- the texts of a field of this name

-- `Invalid digit found in MX preference token`
abbrev pub in_token : List ℕ → List ℕ → List ℕ
in_token what name = what ++ name ++ codes " token"

-- the name of the field, if its token is missing, and the text for a wrong token
abbrev pub named : List ℕ → List ℕ → List (List ℕ)
named name what = name ∷ in_token what name ∷ []

abbrev pub number_called : List ℕ → List (List ℕ)
number_called name = named name (codes "Invalid digit found in ")

abbrev pub ttl_called : List ℕ → List (List ℕ)
ttl_called name = named name (codes "no time of at most 4294967295 seconds in ")

abbrev pub address_called : List ℕ → List (List ℕ)
address_called name = named name (codes "no address in ")

abbrev pub text_called : List ℕ → List (List ℕ)
text_called name = named name (codes "`\\` without a meaning in ")

abbrev pub string_called : List ℕ → List (List ℕ)
string_called name =
    name
    ∷ in_token (codes "`\\` without a meaning in ") name
    ∷ in_token (codes "character data past 255 octets in ") name
    ∷ []

abbrev pub name_called : List ℕ → List (List ℕ)
name_called name =
    name
    ∷ in_token (codes "domain name in quotes in ") name
    ∷ in_token (codes "`@` without an origin in ") name
    ∷ in_token (codes "`\\` without a meaning in ") name
    ∷ in_token (codes "empty label in a domain name in ") name
    ∷ in_token (codes "label past 63 octets in a domain name in ") name
    ∷ in_token (codes "domain name past 255 octets in ") name
    ∷ []

-- base64 to the end of the record, in one token or more
abbrev pub base64_called : List ℕ → List (List ℕ)
base64_called name = named name (codes "Invalid base64 in ")

-- hexadecimal digits to the end of the record, in one token or more
abbrev pub hex_called : List ℕ → List (List ℕ)
hex_called name =
    in_token (codes "hexadecimal digits in quotes in ") name
    ∷ in_token (codes "odd number of hexadecimal digits in ") name
    ∷ in_token (codes "Invalid hexadecimal digit found in ") name
    ∷ []
