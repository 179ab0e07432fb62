-- Zone rows: which octets the tokens of RDATA give (RFC 1035, 5.1), as on the wire, names uncompressed with case
-- preserved.
use Rattle.std.specs.Prelude.{◌≡◌, ◌≢◌, ◌⊎◌, ℕ, ◌≤◌, true, false, List, [], ◌∷◌, ◌++◌, length, Option, Some}
use Rattle.std.specs.{List.AllZip, List.flat_map, List.list_all, Int.bytes_high_first}
use Rattle.dns_fields.specs.{Bitmaps.block, Bitmaps.minimal, Labels.DomainName, Tlvs.string as string_octets}
use Rattle.dns_fields.specs.{Fields.Value, declared.Kind.Kind, declared.Kind.TheVariants.CharacterString, declared.Kind.TheVariants.Rest, declared.Kind.TheVariants.Number as NumberKind}
use Rattle.dns_types.specs.{RecordTypes.number_of, declared.record_type.RecordType.RecordType}
use Rattle.dns_tokens.specs.Forms.{ttl, ipv4, ipv6}
use Rattle.dns_zone_tokens.specs.{NameTokens.name, NameTokens.name_octets, Mnemonics.Named, Remaining.AreHex, Remaining.AreBase64, Remaining.AreStrings, Tokens.Token}
use Rattle.dns_zone_tokens.specs.Forms.{ZoneForm, bare, number, string, text, IsText, IsType}
use Rattle.dns_zone_tokens.specs.Letters.{is_digit}
use Rattle.dns_zone_rows.specs.Parameters.{AreParameters}
use Rattle.dns_zone_rows.specs.{Base32.base32_octets, Groups.groups_from, HexDigits.hex_octets, Mnemonics.named_number, Times.time, declared.groups.Groups.Groups}

-- a field that is one token
pub data FieldKind : Type 0 where
  -- an unsigned number of so many octets, the highest first
  Number : ℕ → FieldKind
  -- the same, or one of these names
  NamedNumber : ℕ → List Named → FieldKind
  -- seconds in four octets
  Ttl : FieldKind
  Ipv4 : FieldKind
  Ipv6 : FieldKind
  -- labels, and a 0 after them
  Name : FieldKind
  -- a length and at most 255 octets
  String : FieldKind
  -- the same of a token without quotes and `\` (RFC 8659, 4.1)
  Tag : FieldKind
  -- octets of any number
  Octets : FieldKind
  -- the same in quotes, of any number but none (RFC 7553, 4.4)
  QuotedOctets : FieldKind
  -- a length and 4 to 255 decimal digits (RFC 1183, 3.1)
  Digits : FieldKind
  -- the number of a record type in two octets (RFC 4034, 3.2)
  TypeNumber : FieldKind
  -- seconds since 1970 in four octets (RFC 4034, 3.2)
  Time : FieldKind
  -- a length and at most 255 octets, in hexadecimal digits (RFC 5155, 3.3)
  Salt : FieldKind
  -- a length and 1 to 255 octets, in base32 (RFC 5155, 3.3)
  Base32 : FieldKind
  -- octets in groups of hexadecimal digits (RFC 6742, 2.1; RFC 7043, 3.2)
  Grouped : Groups → FieldKind

-- what all tokens after these fields are
pub data RestKind : Type 0 where
  -- no token
  NoToken : RestKind
  -- one string or more
  SomeStrings : RestKind
  -- one string or none
  MaybeString : RestKind
  -- hexadecimal digits
  SomeHex : RestKind
  -- hexadecimal digits of so many octets or more
  LongHex : ℕ → RestKind
  -- base64 (RFC 4648, 4)
  SomeBase64 : RestKind
  -- the same, or no token
  AnyBase64 : RestKind
  -- types of records, none or more, in any order, as a bitmap (RFC 4034, 4.1.2; RFC 7477, 2.1.2)
  AnyTypes : RestKind
  -- parameters of a service, none or more, in any order (RFC 9460, 2.1)
  AnyParameters : RestKind

-- RDATA in tokens
pub record RowShape : Type 0 where
  pub fields : List FieldKind
  pub rest : RestKind

-- ---- one token

-- the token has a value of the form, whose octets these are
pub record Gives {k : Kind} (form : ZoneForm k) (written : Value k → List ℕ) (octets : List ℕ)
    (token : Token) : Type 0 where
  pub value : Value k
  pub is : form.is value token
  pub same : octets ≡ written value

-- a token of 1 to 255 octets, without quotes, as it is
pub record IsTag (octets : List ℕ) (token : Token) : Type 0 where
  pub bare : token.quoted ≡ false
  pub some : 1 ≤ length token.octets
  pub most : length token.octets ≤ 255
  pub value : octets ≡ token.octets

abbrev pub tag : ZoneForm CharacterString
tag = record { is = IsTag }

-- the octets of a text in quotes, at least one
pub record IsQuotedText (octets : List ℕ) (token : Token) : Type 0 where
  pub quoted : token.quoted ≡ true
  pub text : IsText octets token
  pub some : 1 ≤ length octets

abbrev pub quoted_text : ZoneForm Rest
quoted_text = record { is = IsQuotedText }

-- 4 to 255 decimal digits, in quotes or not
pub record AreDigits (octets : List ℕ) (token : Token) : Type 0 where
  pub digits : list_all is_digit token.octets ≡ true
  pub some : 4 ≤ length token.octets
  pub most : length token.octets ≤ 255
  pub value : octets ≡ token.octets

abbrev pub digits : ZoneForm CharacterString
digits = record { is = AreDigits }

-- the token is a type with this number
pub record IsTypeNumber (n : ℕ) (token : Token) : Type 0 where
  pub record_type : RecordType
  pub is : IsType record_type token
  pub number : n ≡ number_of record_type

abbrev pub type_number : ZoneForm (NumberKind 2)
type_number = record { is = IsTypeNumber }

-- the octets are those of the token's characters, 1 to 255, without quotes
pub record IsDecoded (decode : List ℕ → Option (List ℕ)) (octets : List ℕ) (token : Token) : Type 0 where
  pub bare : token.quoted ≡ false
  pub value : decode token.octets ≡ Some octets
  pub some : 1 ≤ length octets
  pub most : length octets ≤ 255

abbrev pub base32 : ZoneForm CharacterString
base32 = record { is = IsDecoded base32_octets }

abbrev pub hex_string : ZoneForm CharacterString
hex_string = record { is = IsDecoded hex_octets }

-- `-`, without quotes
pub record IsHyphen (token : Token) : Type 0 where
  pub bare : token.quoted ≡ false
  pub hyphen : token.octets ≡ 45 ∷ []

-- no octets are `-`
abbrev pub salt : ZoneForm CharacterString
salt = record { is = λ octets token. (IsHyphen token × (octets ≡ [])) ⊎ IsDecoded hex_octets octets token }

abbrev pub grouped : Groups → ZoneForm Rest
grouped form = record { is = λ octets token. (token.quoted ≡ false) × (groups_from form [] 0 0 token.octets ≡ Some octets) }

-- the octets that a token gives for a field; the origin completes a name
abbrev pub FieldGives : Option DomainName → FieldKind → List ℕ → Token → Type 0
FieldGives origin (Number w) = Gives (number w) (bytes_high_first w)
FieldGives origin (NamedNumber w table) = Gives (named_number w table) (bytes_high_first w)
FieldGives origin Ttl = Gives (bare (ttl 4294967295)) (bytes_high_first 4)
FieldGives origin Ipv4 = Gives (bare ipv4) (λ s. s)
FieldGives origin Ipv6 = Gives (bare ipv6) (λ s. s)
FieldGives origin Name = Gives (name origin) name_octets
FieldGives origin String = Gives string string_octets
FieldGives origin Tag = Gives tag string_octets
FieldGives origin Octets = Gives text (λ s. s)
FieldGives origin QuotedOctets = Gives quoted_text (λ s. s)
FieldGives origin Digits = Gives digits string_octets
FieldGives origin TypeNumber = Gives type_number (bytes_high_first 2)
FieldGives origin Time = Gives time (bytes_high_first 4)
FieldGives origin Salt = Gives salt string_octets
FieldGives origin Base32 = Gives base32 string_octets
FieldGives origin (Grouped form) = Gives (grouped form) (λ s. s)

-- ---- all remaining tokens

-- the tokens are strings, each after its length
pub record StringsGive (octets : List ℕ) (tokens : List Token) : Type 0 where
  pub strings : List (List ℕ)
  pub are : AreStrings strings tokens
  pub same : octets ≡ flat_map string_octets strings

-- there is one token, a string, or none
pub record OneString (octets : List ℕ) (tokens : List Token) : Type 0 where
  pub token : Token
  pub only : tokens ≡ token ∷ []
  pub given : Gives string string_octets octets token

abbrev pub MaybeStringGives : List ℕ → List Token → Type 0
MaybeStringGives octets tokens = ((tokens ≡ []) × (octets ≡ [])) ⊎ OneString octets tokens

-- each token is a type with this number
abbrev pub AreTypes : List ℕ → List Token → Type 0
AreTypes numbers tokens = AllZip (λ token n. IsTypeNumber n token) tokens numbers

-- the tokens are types, and the octets the shortest bitmap of them
pub record TypesGive (octets : List ℕ) (tokens : List Token) : Type 0 where
  pub numbers : List ℕ
  pub are : AreTypes numbers tokens
  pub same : octets ≡ flat_map block (minimal numbers)

-- the octets that all remaining tokens give
abbrev pub RestGives : RestKind → List ℕ → List Token → Type 0
RestGives NoToken octets tokens = (tokens ≡ []) × (octets ≡ [])
RestGives SomeStrings octets tokens = (tokens ≢ []) × StringsGive octets tokens
RestGives MaybeString octets tokens = MaybeStringGives octets tokens
RestGives SomeHex octets tokens = (tokens ≢ []) × AreHex octets tokens
RestGives (LongHex least) octets tokens = (tokens ≢ []) × AreHex octets tokens × (least ≤ length octets)
RestGives SomeBase64 octets tokens = (tokens ≢ []) × AreBase64 octets tokens
RestGives AnyBase64 octets tokens = AreBase64 octets tokens
RestGives AnyTypes octets tokens = TypesGive octets tokens
RestGives AnyParameters octets tokens = AreParameters octets tokens

-- ---- zone rows

-- octets of one kind, and octets of another after them
pub record InTwo (First Behind : List ℕ → Type 0) (octets : List ℕ) : Type 0 where
  pub front : List ℕ
  pub behind : List ℕ
  pub same : octets ≡ front ++ behind
  pub first : First front
  pub others : Behind behind

-- the octets that tokens give: a token for each field, and the tokens after them
abbrev pub FieldsGive : Option DomainName → List FieldKind → RestKind → List ℕ → List Token → Type 0
FieldsGive origin [] rest octets tokens = RestGives rest octets tokens
FieldsGive origin (field ∷ fields) rest octets [] = ⊥
FieldsGive origin (field ∷ fields) rest octets (token ∷ tokens) =
    InTwo (λ front. FieldGives origin field front token) (λ behind. FieldsGive origin fields rest behind tokens) octets

-- the octets that the tokens give by the zone row
pub record RowGives (origin : Option DomainName) (zone_row : RowShape) (octets : List ℕ)
    (tokens : List Token) : Type 0 where
  pub fields : FieldsGive origin zone_row.fields zone_row.rest octets tokens
