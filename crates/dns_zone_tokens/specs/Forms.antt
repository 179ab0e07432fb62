-- The forms of tokens: which values of a field a token of a text has (RFC 1035, 5.1).
use Rattle.std.specs.Prelude.{◌≡◌, ◌⊎◌, ℕ, ◌*◌, ◌^◌, ◌<◌, ◌≤◌, true, false, List, length, map}
use Rattle.std.specs.Str.Parse.{IsNumeral, digits_value}
use Rattle.dns_fields.specs.Fields.{Value}
use Rattle.dns_fields.specs.declared.Kind.{Kind, TheVariants.Number, TheVariants.CharacterString, TheVariants.Rest}
use Rattle.dns_types.specs.{declared.record_type.RecordType.RecordType, declared.error.ParseError.ParseError}
use Rattle.dns_types.specs.declared.error.ParseError.TheVariants as parse
use Rattle.dns_tokens.specs.Forms.{Form}
use Rattle.dns_zone_tokens.specs.{declared.field.StringField.StringField, Letters.letters, Letters.octet_of, Letters.escapes_stand, TypeNames.IsZoneType, Tokens.Token}

-- which values of a field a token has
pub record ZoneForm (k : Kind) : Type 1 where
  pub is : Value k → Token → Type 0

-- a token without quotes, whose octets as they are have the form
abbrev pub bare : {k : Kind} → Form k → ZoneForm k
bare form = record { is = λ v token. (token.quoted ≡ false) × form.is v token.octets }

-- One decimal digit or more, leading zeros allowed, without quotes.
pub record IsNumber (n : ℕ) (token : Token) : Type 0 where
  pub bare : token.quoted ≡ false
  pub digits : IsNumeral 10 token.octets
  pub value : n ≡ digits_value 10 token.octets

-- a decimal number of so many octets
abbrev pub number : (octets : ℕ) → ZoneForm (Number octets)
number octets = record { is = λ n token. IsNumber n token × (n < 2 ^ (8 * octets)) }

-- The octets that the letters of a token are, in quotes or not.
pub record IsText (octets : List ℕ) (token : Token) : Type 0 where
  pub escapes : escapes_stand token.octets ≡ true
  pub value : octets ≡ map octet_of (letters token.octets)

-- a character string (RFC 1035, 3.3)
abbrev pub string : ZoneForm CharacterString
string = record { is = λ octets token. IsText octets token × (length octets ≤ 255) }

-- why a token is no character string, as the field's texts say
abbrev pub StringFault : StringField → Token → ParseError → Type 0
StringFault field token e =
    ((e ≡ parse.Message field.escape) × (escapes_stand token.octets ≡ false))
    ⊎ ((e ≡ parse.Message field.long) × (escapes_stand token.octets ≡ true)
    × (255 < length (map octet_of (letters token.octets))))

-- why a token is no text: a `\` has no meaning
abbrev pub TextFault : ParseError → Token → ParseError → Type 0
TextFault wrong token e = (e ≡ wrong) × (escapes_stand token.octets ≡ false)

-- octets to the end of a record, of any number
abbrev pub text : ZoneForm Rest
text = record { is = IsText }

-- the name or the number of a record type, without quotes
pub record IsType (t : RecordType) (token : Token) : Type 0 where
  pub bare : token.quoted ≡ false
  pub text : IsZoneType token.octets t
