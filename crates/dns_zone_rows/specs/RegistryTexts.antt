-- The texts of errors about the fields of types without a struct: what kind of field it is, and its type and name.
use Rattle.std.specs.Prelude.{ℕ, List, [], ◌∷◌, ◌++◌, map, codes}
use Rattle.dns_zone_tokens.specs.FieldTexts.{number_called, ttl_called, address_called, text_called, string_called, name_called, base64_called}
use Rattle.dns_zone_tokens.specs.FieldTexts.{hex_called, in_token, named}
use Rattle.dns_zone_rows.specs.Registry.{NamedField, NamedRest, Registered}
use Rattle.dns_zone_rows.specs.Rows.{FieldKind, Number, NamedNumber, Ttl, Ipv4, Ipv6, Name, String, Tag, Octets, QuotedOctets, Digits, TypeNumber, Time, Salt, Base32, Grouped}
use Rattle.dns_zone_rows.specs.Rows.{RestKind, NoToken, SomeStrings, MaybeString, SomeHex, LongHex, SomeBase64, AnyBase64, AnyTypes, AnyParameters}

-- a token after the last field
abbrev pub no_more : List (List ℕ)
no_more = codes "surplus token after the RDATA" ∷ []

abbrev pub digits_called : List ℕ → List (List ℕ)
digits_called name = name ∷ hex_called name

abbrev pub field_called : FieldKind → List ℕ → List (List ℕ)
field_called (Number w) name = number_called name
field_called (NamedNumber w table) name = number_called name
field_called Ttl name = ttl_called name
field_called Ipv4 name = address_called name
field_called Ipv6 name = address_called name
field_called Name name = name_called name
field_called String name = string_called name
field_called Tag name = named name (codes "not 1 to 255 octets in ")
field_called Octets name = text_called name
field_called QuotedOctets name = named name (codes "no text in quotes in ")
field_called Digits name = named name (codes "not 4 to 255 digits in ")
field_called TypeNumber name = named name (codes "no record type in ")
field_called Time name = named name (codes "no time in ")
field_called Salt name = named name (codes "no salt in ")
field_called Base32 name = named name (codes "Invalid base32 in ")
field_called (Grouped form) name = named name (codes "no groups of hexadecimal digits in ")

abbrev pub rest_called : RestKind → List ℕ → List (List ℕ)
rest_called NoToken name = no_more
rest_called SomeStrings name = string_called name
rest_called MaybeString name = string_called name ++ no_more
rest_called SomeHex name = digits_called name
rest_called (LongHex least) name = digits_called name ++ in_token (codes "too few octets in ") name ∷ []
rest_called SomeBase64 name = base64_called name
rest_called AnyBase64 name = base64_called name
rest_called AnyTypes name = named name (codes "no record type in ")
-- service parameters have texts of their own
rest_called AnyParameters name = []

-- a field's name in errors: `DS key_tag`
abbrev pub of_type : List ℕ → List ℕ → List ℕ
of_type mnemonic name = mnemonic ++ codes " " ++ name

-- one list of texts for each field, and one for the rest
abbrev pub registered_texts : Registered → List (List (List ℕ))
registered_texts t =
    map (λ (f : NamedField). field_called f.kind (of_type t.mnemonic f.name)) t.fields
    ++ rest_called t.rest.kind (of_type t.mnemonic t.rest.name) ∷ []
