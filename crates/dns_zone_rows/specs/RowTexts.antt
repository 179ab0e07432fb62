-- The texts of errors about each field of each record type: the field's name, and a text for each thing that may be
-- wrong with its token.
use Rattle.std.specs.Prelude.{◌≡◌, ◌<◌, ℕ, suc, length, slice_get, List, [], ◌∷◌, ◌++◌, map, codes, Option, Some}
use Rattle.std.specs.Option.{option_map}
use Rattle.dns_types.specs.{RecordTypes.number_of, declared.record_type.RecordType.RecordType}
use Rattle.dns_types.specs.declared.record_type.RecordType.TheVariants as types
use Rattle.dns_zone_tokens.specs.FieldTexts.{field_texts, string_texts, name_texts, hex_texts, number_called, ttl_called, address_called}
use Rattle.dns_zone_tokens.specs.FieldTexts.{text_called, string_called, name_called, base64_called, named}
use Rattle.dns_zone_rows.specs.{Registry.registered, RegistryTexts.digits_called, RegistryTexts.no_more, RegistryTexts.registered_texts}
use Rattle.dns_zone_rows.specs.{declared.zone_row.ZoneField.ZoneField, declared.zone_row.ZoneRest.ZoneRest, declared.zone_row.ZoneRow.ZoneRow}
use Rattle.dns_zone_rows.specs.declared.zone_row.ZoneField.TheVariants as field
use Rattle.dns_zone_rows.specs.declared.zone_row.ZoneRest.TheVariants as rest

-- ---- the texts of the code's zone row

abbrev pub texts_of_field : ZoneField → List (List ℕ)
texts_of_field (field.U8 f) = field_texts f
texts_of_field (field.U16 f) = field_texts f
texts_of_field (field.U32 f) = field_texts f
texts_of_field (field.Ttl f) = field_texts f
texts_of_field (field.Ipv4 f) = field_texts f
texts_of_field (field.Ipv6 f) = field_texts f
texts_of_field (field.Name f) = name_texts f
texts_of_field (field.String f) = string_texts f
texts_of_field (field.Tag f) = field_texts f
texts_of_field (field.CertType f) = field_texts f
texts_of_field (field.Algorithm f) = field_texts f
texts_of_field (field.RawText f) = field_texts f
texts_of_field (field.QuotedText f) = field_texts f
texts_of_field (field.Digits f) = field_texts f
texts_of_field (field.Type f) = field_texts f
texts_of_field (field.Scheme f) = field_texts f
texts_of_field (field.Time f) = field_texts f
texts_of_field (field.Salt f) = field_texts f
texts_of_field (field.Base32 f) = field_texts f
texts_of_field (field.Groups f) = field_texts f
texts_of_field (field.Eui48 f) = field_texts f
texts_of_field (field.Eui64 f) = field_texts f

abbrev pub texts_of_rest : ZoneRest → List (List ℕ)
texts_of_rest (rest.Nothing surplus) = surplus.now ∷ []
texts_of_rest (rest.Strings f) = string_texts f
texts_of_rest (rest.MaybeString f surplus) = string_texts f ++ surplus.now ∷ []
texts_of_rest (rest.Hex missing f) = missing.now ∷ hex_texts f
texts_of_rest (rest.LongHex f) = f.name.now ∷ hex_texts f.digits ++ f.few.now ∷ []
texts_of_rest (rest.Base64 f) = field_texts f
texts_of_rest (rest.MaybeBase64 f) = field_texts f
texts_of_rest (rest.Types f) = field_texts f
-- service parameters have texts of their own, which no zone row gives
texts_of_rest rest.Parameters = []

-- one list of texts for each field, and one for the rest
abbrev pub row_texts : ZoneRow → List (List (List ℕ))
row_texts zone_row = map texts_of_field zone_row.fields.now ++ texts_of_rest zone_row.rest ∷ []

-- the text is the first of these
abbrev pub IsFirstOf : List ℕ → List (List ℕ) → Type 0
IsFirstOf text [] = ⊥
IsFirstOf text (first ∷ others) = text ≡ first

-- the zone row's field with this index, of those that are one token, has this name, which is the first of its texts
pub record HasFieldAt (zone_row : ZoneRow) (name : List ℕ) (index : ℕ) : Type 0 where
  pub field : ZoneField
  pub at : slice_get zone_row.fields.now index ≡ Some field
  pub named : IsFirstOf name (texts_of_field field)

-- ---- the table

abbrev pub service_texts : List (List (List ℕ))
service_texts = number_called (codes "service priority") ∷ name_called (codes "service target") ∷ [] ∷ []

-- the texts of TLSA, which SMIMEA has too
abbrev pub certificate_texts : List (List (List ℕ))
certificate_texts =
    number_called (codes "certificate usage")
    ∷ number_called (codes "selector")
    ∷ number_called (codes "matching type")
    ∷ digits_called (codes "certificate association data")
    ∷ []

-- the texts of errors about each field of a type, in the order of the fields
abbrev pub texts_of : RecordType → Option (List (List (List ℕ)))
texts_of types.A = Some (address_called (codes "A address") ∷ no_more ∷ [])
texts_of types.AAAA = Some (address_called (codes "AAAA address") ∷ no_more ∷ [])
texts_of types.CAA = Some (
    number_called (codes "CAA flags")
    ∷ named (codes "CAA tag") (codes "not 1 to 255 octets in ")
    ∷ text_called (codes "CAA value")
    ∷ no_more
    ∷ [])
texts_of types.CERT = Some (
    number_called (codes "CERT cert_type")
    ∷ number_called (codes "CERT key_tag")
    ∷ number_called (codes "CERT algorithm")
    ∷ base64_called (codes "CERT data")
    ∷ [])
texts_of types.CNAME = Some (name_called (codes "CNAME name") ∷ no_more ∷ [])
texts_of types.CSYNC = Some (
    number_called (codes "CSYNC soa_serial")
    ∷ number_called (codes "CSYNC flags")
    ∷ named (codes "CSYNC types") (codes "no record type in ")
    ∷ [])
texts_of types.HINFO = Some (string_called (codes "HINFO cpu") ∷ string_called (codes "HINFO os") ∷ no_more ∷ [])
texts_of types.HTTPS = Some service_texts
texts_of types.MX = Some (number_called (codes "MX preference") ∷ name_called (codes "MX exchange") ∷ no_more ∷ [])
texts_of types.NAPTR = Some (
    number_called (codes "NAPTR order")
    ∷ number_called (codes "NAPTR preference")
    ∷ string_called (codes "NAPTR flags")
    ∷ string_called (codes "NAPTR services")
    ∷ string_called (codes "NAPTR regexp")
    ∷ name_called (codes "NAPTR replacement")
    ∷ no_more
    ∷ [])
texts_of types.NS = Some (name_called (codes "NS name") ∷ no_more ∷ [])
texts_of types.OPENPGPKEY = Some (base64_called (codes "OPENPGPKEY public key") ∷ [])
texts_of types.PTR = Some (name_called (codes "PTR name") ∷ no_more ∷ [])
texts_of types.SMIMEA = Some certificate_texts
texts_of types.SOA = Some (
    name_called (codes "SOA mname")
    ∷ name_called (codes "SOA rname")
    ∷ number_called (codes "SOA serial")
    ∷ ttl_called (codes "SOA refresh")
    ∷ ttl_called (codes "SOA retry")
    ∷ ttl_called (codes "SOA expire")
    ∷ ttl_called (codes "SOA minimum")
    ∷ no_more
    ∷ [])
texts_of types.SRV = Some (
    number_called (codes "SRV priority")
    ∷ number_called (codes "SRV weight")
    ∷ number_called (codes "SRV port")
    ∷ name_called (codes "SRV target")
    ∷ no_more
    ∷ [])
texts_of types.SSHFP = Some (
    number_called (codes "SSHFP algorithm")
    ∷ number_called (codes "SSHFP fingerprint type")
    ∷ digits_called (codes "SSHFP fingerprint")
    ∷ [])
texts_of types.SVCB = Some service_texts
texts_of types.TLSA = Some certificate_texts
texts_of types.TXT = Some (string_called (codes "TXT data") ∷ [])
-- a type without a struct
texts_of record_type = option_map registered_texts (registered (number_of record_type))

-- The type's field with this index, of those that are one token, has this name. The last texts of a type are those of
-- the rest.
pub record IsFieldOf (t : RecordType) (name : List ℕ) (index : ℕ) : Type 0 where
  pub texts : List (List (List ℕ))
  pub of_type : texts_of t ≡ Some texts
  pub field : List (List ℕ)
  pub at : slice_get texts index ≡ Some field
  pub before_rest : suc index < length texts
  pub named : IsFirstOf name field
