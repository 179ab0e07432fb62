-- Why the tokens of RDATA give no octets by a zone row: the first field with a fault.
use Rattle.std.specs.Prelude.{◌≡◌, ◌≢◌, ◌⊎◌, ℕ, ◌<◌, List, [], ◌∷◌, length, map, Option, Ok}
use Rattle.std.specs.Borrow.{Bor}
use Rattle.dns_fields.specs.{Labels.DomainName, Tlvs.string as string_octets}
use Rattle.dns_types.specs.{declared.record_type.RecordType.RecordType, declared.error.ParseError.ParseError}
use Rattle.dns_types.specs.declared.error.ParseError.TheVariants as parse
use Rattle.dns_tokens.specs.{Forms.ttl, Forms.ipv4, Forms.ipv6, Reads.HoldsOfNone, declared.field.Field.Field}
use Rattle.dns_zone_tokens.specs.{Forms.bare, Forms.number, Forms.string, Forms.StringFault, Forms.TextFault, Forms.IsType, NameTokens.NameFault, Remaining.AmongFault, Remaining.AreHex, Remaining.HexFault, Remaining.TookAll}
use Rattle.dns_zone_tokens.specs.{declared.field.StringField.StringField, Remaining.Base64Fault, Tokens.Token, Tokens.Cursor, Tokens.tokens_at, Tokens.seen_at, Tokens.with_token}
use Rattle.dns_zone_tokens.specs.ZoneReads.{IsUndividedError, FirstFault, LacksFirst, WhyFirst, WrongToken}
use Rattle.dns_zone_rows.specs.ParameterFaults.{ParametersFault}
use Rattle.dns_zone_rows.specs.{declared.zone_row.ZoneField.ZoneField, declared.zone_row.ZoneRest.ZoneRest, declared.zone_row.ZoneRow.ZoneRow, declared.zone_row.LongHexField.LongHexField}
use Rattle.dns_zone_rows.specs.{Groups.colons, Groups.hyphens, Times.time, Mnemonics.named_number, Mnemonics.cert_types, Mnemonics.algorithms, Mnemonics.schemes}
use Rattle.dns_zone_rows.specs.Rows.{FieldKind, Number, NamedNumber, Ttl, Ipv4, Ipv6, Name, String, Tag, Octets, QuotedOctets, Digits, TypeNumber, Time, Salt, Base32, Grouped, RestKind, NoToken, SomeStrings, MaybeString}
use Rattle.dns_zone_rows.specs.Rows.{SomeHex, LongHex, SomeBase64, AnyBase64, AnyTypes, AnyParameters, RowShape, Gives, FieldGives, digits, quoted_text, tag, type_number, base32, salt, grouped}
use Rattle.dns_zone_rows.specs.declared.zone_row.ZoneField.TheVariants as field
use Rattle.dns_zone_rows.specs.declared.zone_row.ZoneRest.TheVariants as rest

-- ---- the code's zone row as the definitions have it

abbrev pub kind_of : ZoneField → FieldKind
kind_of (field.U8 f) = Number 1
kind_of (field.U16 f) = Number 2
kind_of (field.U32 f) = Number 4
kind_of (field.Ttl f) = Ttl
kind_of (field.Ipv4 f) = Ipv4
kind_of (field.Ipv6 f) = Ipv6
kind_of (field.Name f) = Name
kind_of (field.String f) = String
kind_of (field.Tag f) = Tag
kind_of (field.CertType f) = NamedNumber 2 cert_types
kind_of (field.Algorithm f) = NamedNumber 1 algorithms
kind_of (field.RawText f) = Octets
kind_of (field.QuotedText f) = QuotedOctets
kind_of (field.Digits f) = Digits
kind_of (field.Type f) = TypeNumber
kind_of (field.Scheme f) = NamedNumber 1 schemes
kind_of (field.Time f) = Time
kind_of (field.Salt f) = Salt
kind_of (field.Base32 f) = Base32
kind_of (field.Groups f) = Grouped colons
kind_of (field.Eui48 f) = Grouped (hyphens 6)
kind_of (field.Eui64 f) = Grouped (hyphens 8)

abbrev pub rest_kind_of : ZoneRest → RestKind
rest_kind_of (rest.Nothing surplus) = NoToken
rest_kind_of (rest.Strings f) = SomeStrings
rest_kind_of (rest.MaybeString f surplus) = MaybeString
rest_kind_of (rest.Hex missing f) = SomeHex
rest_kind_of (rest.LongHex f) = LongHex f.least
rest_kind_of (rest.Base64 f) = SomeBase64
rest_kind_of (rest.MaybeBase64 f) = AnyBase64
rest_kind_of (rest.Types f) = AnyTypes
rest_kind_of rest.Parameters = AnyParameters

abbrev pub row_value : ZoneRow → RowShape
row_value zone_row = record { fields = map kind_of zone_row.fields.now; rest = rest_kind_of zone_row.rest }

-- ---- faults

-- the field's name, as an error has it if the token is missing
abbrev pub name_of : ZoneField → Bor (List ℕ)
name_of (field.U8 f) = f.name
name_of (field.U16 f) = f.name
name_of (field.U32 f) = f.name
name_of (field.Ttl f) = f.name
name_of (field.Ipv4 f) = f.name
name_of (field.Ipv6 f) = f.name
name_of (field.Name f) = f.name
name_of (field.String f) = f.name
name_of (field.Tag f) = f.name
name_of (field.CertType f) = f.name
name_of (field.Algorithm f) = f.name
name_of (field.RawText f) = f.name
name_of (field.QuotedText f) = f.name
name_of (field.Digits f) = f.name
name_of (field.Type f) = f.name
name_of (field.Scheme f) = f.name
name_of (field.Time f) = f.name
name_of (field.Salt f) = f.name
name_of (field.Base32 f) = f.name
name_of (field.Groups f) = f.name
name_of (field.Eui48 f) = f.name
name_of (field.Eui64 f) = f.name

-- why a token gives no octets of the field
abbrev pub TokenFault : Option DomainName → ZoneField → Token → ParseError → Type 0
TokenFault origin (field.U8 f) = WrongToken (number 1) (parse.Message f.wrong)
TokenFault origin (field.U16 f) = WrongToken (number 2) (parse.Message f.wrong)
TokenFault origin (field.U32 f) = WrongToken (number 4) (parse.Message f.wrong)
TokenFault origin (field.Ttl f) = WrongToken (bare (ttl 4294967295)) (parse.Message f.wrong)
TokenFault origin (field.Ipv4 f) = WrongToken (bare ipv4) (parse.Message f.wrong)
TokenFault origin (field.Ipv6 f) = WrongToken (bare ipv6) (parse.Message f.wrong)
TokenFault origin (field.Name f) = NameFault f origin
TokenFault origin (field.String f) = StringFault f
TokenFault origin (field.Tag f) = WrongToken tag (parse.Message f.wrong)
TokenFault origin (field.CertType f) = WrongToken (named_number 2 cert_types) (parse.Message f.wrong)
TokenFault origin (field.Algorithm f) = WrongToken (named_number 1 algorithms) (parse.Message f.wrong)
TokenFault origin (field.RawText f) = TextFault (parse.Message f.wrong)
TokenFault origin (field.QuotedText f) = WrongToken quoted_text (parse.Message f.wrong)
TokenFault origin (field.Digits f) = WrongToken digits (parse.Message f.wrong)
TokenFault origin (field.Type f) = WrongToken type_number (parse.Message f.wrong)
TokenFault origin (field.Scheme f) = WrongToken (named_number 1 schemes) (parse.Message f.wrong)
TokenFault origin (field.Time f) = WrongToken time (parse.Message f.wrong)
TokenFault origin (field.Salt f) = WrongToken salt (parse.Message f.wrong)
TokenFault origin (field.Base32 f) = WrongToken base32 (parse.Message f.wrong)
TokenFault origin (field.Groups f) = WrongToken (grouped colons) (parse.Message f.wrong)
TokenFault origin (field.Eui48 f) = WrongToken (grouped (hyphens 6)) (parse.Message f.wrong)
TokenFault origin (field.Eui64 f) = WrongToken (grouped (hyphens 8)) (parse.Message f.wrong)

-- why no first token gives octets of the field
abbrev pub FieldFault : Option DomainName → ZoneField → Cursor → ParseError → Type 0
FieldFault origin field = WhyFirst (parse.MissingToken (name_of field)) (TokenFault origin field)

-- the token is no type
abbrev pub TypeFault : Field → Token → ParseError → Type 0
TypeFault f token e = (e ≡ parse.Message f.wrong) × HoldsOfNone (λ (t : RecordType). IsType t token)

-- a token is left, or the text is rejected before the next one
abbrev pub SurplusFault : ParseError → Cursor → ParseError → Type 0
SurplusFault surplus cursor e =
    (tokens_at cursor ≢ Ok []) × (((e ≡ surplus) × (seen_at cursor ≢ [])) ⊎ IsUndividedError cursor e)

-- the first token gives octets, and after it there is a fault
pub record FaultBehind (gives : List ℕ → Token → Type 0) (fault : Cursor → ParseError → Type 0) (cursor : Cursor)
    (e : ParseError) : Type 0 where
  pub token : Token
  pub behind : Cursor
  pub first : tokens_at cursor ≡ with_token token (tokens_at behind)
  pub seen : seen_at cursor ≡ token ∷ seen_at behind
  pub octets : List ℕ
  pub given : gives octets token
  pub has : fault behind e

-- the text is rejected before its first token; the first token is no string; or another token follows it
abbrev pub MaybeStringFault : StringField → ParseError → Cursor → ParseError → Type 0
MaybeStringFault field surplus cursor e =
    IsUndividedError cursor e ⊎ FirstFault (StringFault field) cursor e
    ⊎ FaultBehind (Gives string string_octets) (SurplusFault surplus) cursor e

-- the tokens are hexadecimal digits of fewer octets
pub record FewFault (field : LongHexField) (cursor : Cursor) (e : ParseError) : Type 0 where
  pub says : e ≡ parse.Message field.few
  pub octets : List ℕ
  pub took : TookAll AreHex octets cursor
  pub few : length octets < field.least

-- no token is left, the tokens are no hexadecimal digits, or they are of too few octets
abbrev pub LongHexFault : LongHexField → Cursor → ParseError → Type 0
LongHexFault field cursor e =
    LacksFirst (parse.MissingToken field.name) cursor e ⊎ HexFault field.digits cursor e ⊎ FewFault field cursor e

-- why the remaining tokens give no octets
abbrev pub RestFault : ZoneRest → Cursor → ParseError → Type 0
RestFault (rest.Nothing surplus) cursor e = SurplusFault (parse.Message surplus) cursor e
RestFault (rest.Strings f) cursor e =
    LacksFirst (parse.MissingToken f.name) cursor e ⊎ AmongFault (StringFault f) cursor e
RestFault (rest.MaybeString f surplus) cursor e = MaybeStringFault f (parse.Message surplus) cursor e
RestFault (rest.Hex missing f) cursor e = LacksFirst (parse.MissingToken missing) cursor e ⊎ HexFault f cursor e
RestFault (rest.LongHex f) cursor e = LongHexFault f cursor e
RestFault (rest.Base64 f) cursor e =
    LacksFirst (parse.MissingToken f.name) cursor e ⊎ Base64Fault (parse.Message f.wrong) cursor e
RestFault (rest.MaybeBase64 f) cursor e = Base64Fault (parse.Message f.wrong) cursor e
RestFault (rest.Types f) cursor e = AmongFault (TypeFault f) cursor e
RestFault rest.Parameters cursor e = ParametersFault cursor e

-- a fault of the first field, or of those after it at the tokens after the first
abbrev pub FieldsFault : Option DomainName → List ZoneField → ZoneRest → Cursor → ParseError → Type 0
FieldsFault origin [] rest cursor e = RestFault rest cursor e
FieldsFault origin (field ∷ fields) rest cursor e = FieldFault origin field cursor e
    ⊎ FaultBehind (FieldGives origin (kind_of field)) (FieldsFault origin fields rest) cursor e

-- the tokens give no octets by the zone row, and the error says why
pub record RowFault (origin : Option DomainName) (zone_row : ZoneRow) (cursor : Cursor) (e : ParseError) : Type 0 where
  pub fault : FieldsFault origin zone_row.fields.now zone_row.rest cursor e
