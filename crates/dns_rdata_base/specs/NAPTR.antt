-- NAPTR: a rule that rewrites a name (RFC 3403, 4.1).
use Rattle.std.specs.Prelude.{◌≡◌, ◌⊎◌, ℕ, IsTrue, List, [], ◌∷◌, ◌++◌, codes, decimal, Option}
use Rattle.std.specs.{Char.is_ascii_alphanumeric, List.list_all}
use Rattle.dns_types.specs.declared.error.DecodeError.{DecodeError}
use Rattle.dns_types.specs.declared.error.DecodeError.TheVariants as decode
use Rattle.dns_fields.specs.{Labels.DomainName, declared.Kind.Kind, declared.Kind.TheVariants.Number}
use Rattle.dns_fields.specs.{declared.Kind.TheVariants.CharacterString, declared.Kind.TheVariants.Name, Fields.Values}
use Rattle.dns_rows.specs.{Table.kinds_of, Rules.AreLetters, Rules.MeetsRow}
use Rattle.dns_rows.specs.declared.row.TheConstants as rows
use Rattle.dns_labels.specs.Text.{name_text}
use Rattle.dns_names_wire.specs.{State.Reading, Terms.Took, Facts.Facts, Facts.plain}
use Rattle.dns_tokens.specs.Forms.{Form, TokenRow, token, ignored, number, kept, name}
use Rattle.dns_rdata_base.specs.{Lossy.lossy, declared.naptr.NAPTR.NAPTR}

-- order, preference
abbrev pub naptr_numbers_shape : List Kind
naptr_numbers_shape = Number 2 ∷ Number 2 ∷ []

abbrev pub naptr_numbers : NAPTR → Values naptr_numbers_shape
naptr_numbers x = (x.order, (x.preference, tt))

-- flags, services, regexp, replacement
abbrev pub naptr_rest_shape : List Kind
naptr_rest_shape = CharacterString ∷ CharacterString ∷ CharacterString ∷ Name ∷ []

abbrev pub naptr_rest : NAPTR → Values naptr_rest_shape
naptr_rest x = (x.flags, (x.services, (x.regexp, (x.replacement, tt))))

-- order, preference, flags, services, regexp, replacement
abbrev pub naptr_shape : List Kind
naptr_shape = kinds_of rows.NAPTR

abbrev pub naptr_fields : NAPTR → Values (kinds_of rows.NAPTR)
naptr_fields x = (x.order, (x.preference, (x.flags, (x.services, (x.regexp, (x.replacement, tt))))))

-- the flags are digits and letters
abbrev pub MeetsNaptrCondition : Values naptr_shape → Type 0
MeetsNaptrCondition vs = MeetsRow rows.NAPTR vs

abbrev pub naptr_facts : Facts NAPTR
naptr_facts = plain rows.NAPTR naptr_fields

-- the fields, a blank between, the strings in quotes
abbrev pub naptr_text : NAPTR → List ℕ
naptr_text x = decimal x.order ++ codes " " ++ decimal x.preference
    ++ codes " \"" ++ lossy x.flags ++ codes "\" \"" ++ lossy x.services
    ++ codes "\" \"" ++ lossy x.regexp ++ codes "\" " ++ name_text x.replacement

-- the token's octets, which are digits and letters
abbrev pub flags_token : Form CharacterString
flags_token = record { is = λ octets token. (octets ≡ token) × AreLetters octets }

-- order, preference, flags, services, regexp, replacement
abbrev pub naptr_tokens : Option DomainName → TokenRow naptr_shape
naptr_tokens origin =
    token (number 2) (token (number 2) (token flags_token (token kept (token kept (token (name origin) ignored)))))
