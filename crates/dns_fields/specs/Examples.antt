-- The grammar at work: octets that hold values, and octets that hold none.
use Rattle.std.specs.Prelude.{◌≡◌, ℕ, true, false, List, [], ◌∷◌, length}
use Rattle.std.specs.declared.cmp.Ordering.TheVariants.{Less, Equal}
use Rattle.dns_fields.specs.{Labels.DomainName, Equal.values_eq, Order.values_cmp}
use Rattle.dns_fields.specs.Tlvs.{Subnet, OpaqueOption, Mandatory, Alpn, Port, Ipv4Hint, Ipv6Hint, Opaque}
use Rattle.dns_fields.specs.Fields.{Values, Stands, canonical}
use Rattle.dns_fields.specs.declared.Kind.{Kind, TheVariants.Number, TheVariants.Octets, TheVariants.Name}
use Rattle.dns_fields.specs.declared.Kind.{TheVariants.CharacterString, TheVariants.CharacterStrings, TheVariants.Rest}
use Rattle.dns_fields.specs.declared.Kind.{TheVariants.Options, TheVariants.Parameters, TheVariants.Bitmap}

-- in the message the values are between two offsets, and these are their canonical octets
pub record Reads (message : List ℕ) (start end : ℕ) (kinds : List Kind) (values : Values kinds)
    (octets : List ℕ) : Type 0 where
  pub stands : Stands message start kinds values end
  pub canonical_octets : canonical kinds values ≡ octets

-- the octets, whole, hold the values, and are their canonical octets
abbrev pub AreCanonical : (kinds : List Kind) → List ℕ → Values kinds → Type 0
AreCanonical kinds octets values = Reads octets 0 (length octets) kinds values octets

-- no values are there
abbrev pub HoldsNone : List ℕ → ℕ → ℕ → List Kind → Type 0
HoldsNone message start end kinds = (v : Values kinds) → Stands message start kinds v end → ⊥

-- a fully qualified name
abbrev pub full : List (List ℕ) → DomainName
full labels = record { labels = labels; fully_qualified = true }

abbrev pub relative : List (List ℕ) → DomainName
relative labels = record { labels = labels; fully_qualified = false }

abbrev pub www_label : List ℕ
www_label = 0x77 ∷ 0x77 ∷ 0x77 ∷ []

-- "www." at offset 0, and at offset 5 a pointer to it
abbrev pub www_twice : List ℕ
www_twice = 0x03 ∷ 0x77 ∷ 0x77 ∷ 0x77 ∷ 0x00 ∷ 0xc0 ∷ 0x00 ∷ []

abbrev pub example_label : List ℕ
example_label = 0x65 ∷ 0x78 ∷ 0x61 ∷ 0x6d ∷ 0x70 ∷ 0x6c ∷ 0x65 ∷ []

abbrev pub com_label : List ℕ
com_label = 0x63 ∷ 0x6f ∷ 0x6d ∷ []

abbrev pub xxx_label : List ℕ
xxx_label = 0x78 ∷ 0x78 ∷ 0x78 ∷ []

abbrev pub address_of_six : List ℕ
address_of_six = 0x20 ∷ 0x01 ∷ 0x0d ∷ 0xb8 ∷ 0x00 ∷ 0x00 ∷ 0x00 ∷ 0x00 ∷ 0x00 ∷ 0x00 ∷ 0x00 ∷ 0x00 ∷ 0x00 ∷ 0x00 ∷ 0x00
    ∷ 0x01 ∷ []

-- five numbers of four octets, all of them 255
abbrev pub twenty : List ℕ
twenty = 0xff ∷ 0xff ∷ 0xff ∷ 0xff ∷ 0xff ∷ 0xff ∷ 0xff ∷ 0xff ∷ 0xff ∷ 0xff ∷ 0xff ∷ 0xff ∷ 0xff ∷ 0xff ∷ 0xff ∷ 0xff
    ∷ 0xff ∷ 0xff ∷ 0xff ∷ 0xff ∷ []

pub record StringExamples : Type 0 where
  -- 1.2.3.4
  pub address_reads : AreCanonical (Octets 4 ∷ []) (0x01 ∷ 0x02 ∷ 0x03 ∷ 0x04 ∷ []) (0x01 ∷ 0x02 ∷ 0x03 ∷ 0x04 ∷ [], tt)
  -- three of four octets, and a window past the message's end
  pub address_is_four : HoldsNone (0x01 ∷ 0x02 ∷ 0x03 ∷ 0x04 ∷ []) 0 3 (Octets 4 ∷ [])
      × HoldsNone (0x01 ∷ 0x02 ∷ 0x03 ∷ []) 0 4 (Octets 4 ∷ [])
  -- "cpu" "os"
  pub two_texts_read : AreCanonical (CharacterString ∷ CharacterString ∷ [])
      (0x03 ∷ 0x63 ∷ 0x70 ∷ 0x75 ∷ 0x02 ∷ 0x6f ∷ 0x73 ∷ []) (0x63 ∷ 0x70 ∷ 0x75 ∷ [], (0x6f ∷ 0x73 ∷ [], tt))
  -- no octets are no strings, and one octet 0 is one empty string, which is another value
  pub empty_strings_read : AreCanonical (CharacterStrings ∷ []) [] ([], tt)
      × AreCanonical (CharacterStrings ∷ []) (0x00 ∷ []) ([] ∷ [], tt)
      × (values_eq (CharacterStrings ∷ []) ([], tt) ([] ∷ [], tt) ≡ false)
  -- a string of two octets of which one is there
  pub truncated_string : HoldsNone (0x02 ∷ 0x61 ∷ []) 0 2 (CharacterStrings ∷ [])
  -- every octet of a window, and none of those after it
  pub rest_reads : Reads (0x00 ∷ 0x01 ∷ 0x02 ∷ []) 0 2 (Rest ∷ []) (0x00 ∷ 0x01 ∷ [], tt) (0x00 ∷ 0x01 ∷ [])
      × Reads (0x00 ∷ 0x01 ∷ 0x02 ∷ []) 1 1 (Rest ∷ []) ([], tt) []

pub record NameExamples : Type 0 where
  pub pointed_name_reads : Reads www_twice 5 7 (Name ∷ []) (full (www_label ∷ []), tt)
      (0x03 ∷ 0x77 ∷ 0x77 ∷ 0x77 ∷ 0x00 ∷ [])
  -- a window that ends within the pointer
  pub truncated_pointer : HoldsNone www_twice 5 6 (Name ∷ [])
  -- a pointer to its own offset
  pub pointer_to_itself : HoldsNone (0xc0 ∷ 0x00 ∷ []) 0 2 (Name ∷ [])
  -- an octet that is neither the length of a label nor of a pointer
  pub reserved_label : HoldsNone (0x40 ∷ 0x00 ∷ []) 0 2 (Name ∷ [])
  -- 256 "N." and 256 "n.": different letters, the same canonical octets, equal
  pub letters_read : Reads (0x01 ∷ 0x00 ∷ 0x01 ∷ 0x4e ∷ 0x00 ∷ []) 0 5 (Number 2 ∷ Name ∷ [])
      (256, (full ((0x4e ∷ []) ∷ []), tt)) (0x01 ∷ 0x00 ∷ 0x01 ∷ 0x6e ∷ 0x00 ∷ [])
      × Reads (0x01 ∷ 0x00 ∷ 0x01 ∷ 0x6e ∷ 0x00 ∷ []) 0 5 (Number 2 ∷ Name ∷ []) (256, (full ((0x6e ∷ []) ∷ []), tt))
      (0x01 ∷ 0x00 ∷ 0x01 ∷ 0x6e ∷ 0x00 ∷ [])
      × (values_eq (Number 2 ∷ Name ∷ []) (256, (full ((0x4e ∷ []) ∷ []), tt))
      (256, (full ((0x6e ∷ []) ∷ []), tt)) ≡ true)
      × (values_cmp (Number 2 ∷ Name ∷ []) (256, (full ((0x4e ∷ []) ∷ []), tt))
      (256, (full ((0x6e ∷ []) ∷ []), tt)) ≡ Equal)
  -- "www" is not "www.", and comes before it
  pub marks_apart : (values_eq (Name ∷ []) (relative (www_label ∷ []), tt) (full (www_label ∷ []), tt) ≡ false)
      × (values_cmp (Name ∷ []) (relative (www_label ∷ []), tt) (full (www_label ∷ []), tt) ≡ Less)
  -- "www.example.com." and "xxx.example.com.", the second by a pointer into the first; canonical octets have it whole
  pub start_of_authority_reads : Reads
      (0x03 ∷ 0x77 ∷ 0x77 ∷ 0x77 ∷ 0x07 ∷ 0x65 ∷ 0x78 ∷ 0x61 ∷ 0x6d ∷ 0x70 ∷ 0x6c ∷ 0x65 ∷ 0x03 ∷ 0x63 ∷ 0x6f ∷ 0x6d
      ∷ 0x00 ∷ 0x03 ∷ 0x78 ∷ 0x78 ∷ 0x78 ∷
      0xc0 ∷ 0x04 ∷ twenty)
      0 43 (Name ∷ Name ∷ Number 4 ∷ Number 4 ∷ Number 4 ∷ Number 4 ∷ Number 4 ∷ []) (
        full (www_label ∷ example_label ∷ com_label ∷ []),
        (
          full (xxx_label ∷ example_label ∷ com_label ∷ []),
          (4294967295, (4294967295, (4294967295, (4294967295, (4294967295, tt))))),
        ),
      )
      (0x03 ∷ 0x77 ∷ 0x77 ∷ 0x77 ∷ 0x07 ∷ 0x65 ∷ 0x78 ∷ 0x61 ∷ 0x6d ∷ 0x70 ∷ 0x6c ∷ 0x65 ∷ 0x03 ∷ 0x63 ∷ 0x6f ∷ 0x6d
      ∷ 0x00
      ∷ 0x03 ∷ 0x78 ∷ 0x78 ∷ 0x78 ∷ 0x07 ∷ 0x65 ∷ 0x78 ∷ 0x61 ∷ 0x6d ∷ 0x70 ∷ 0x6c ∷ 0x65 ∷ 0x03 ∷ 0x63 ∷ 0x6f ∷ 0x6d
      ∷ 0x00 ∷ twenty)

pub record OptionExamples : Type 0 where
  -- A code alone, and an option whose length is at most that of the record and more than what is there, are no
  -- options, also if the message goes on after the record.
  pub truncated_option_reads : Reads (0x00 ∷ 0x0a ∷ []) 0 2 (Options ∷ []) ([], tt) []
      × Reads (0x00 ∷ 0x0a ∷ 0x00 ∷ 0x05 ∷ 0x01 ∷ 0x02 ∷ []) 0 6 (Options ∷ []) ([], tt) []
      × Reads (0x00 ∷ 0x0a ∷ 0x00 ∷ 0x05 ∷ 0x01 ∷ 0x02 ∷ 0x03 ∷ 0x04 ∷ 0x05 ∷ []) 0 6 (Options ∷ []) ([], tt) []
  -- A code alone after a whole option, and a length that reaches over a whole option and past the record's end: the
  -- RDATA is truncated, and no option is kept, neither before that option nor after it.
  pub truncated_drops_all : Reads (0x00 ∷ 0x0f ∷ 0x00 ∷ 0x01 ∷ 0x05 ∷ 0x00 ∷ 0x0a ∷ []) 0 7 (Options ∷ []) ([], tt) []
      × Reads (0x00 ∷ 0x0a ∷ 0x00 ∷ 0x09 ∷ 0x00 ∷ 0x0f ∷ 0x00 ∷ 0x01 ∷ 0x05 ∷ []) 0 9 (Options ∷ []) ([], tt) []
  -- a length of more than the record's, half a code and half a length
  pub broken_option : HoldsNone (0x00 ∷ 0x0a ∷ 0x00 ∷ 0x05 ∷ []) 0 4 (Options ∷ [])
      × HoldsNone (0x00 ∷ []) 0 1 (Options ∷ [])
      × HoldsNone (0x00 ∷ 0x0a ∷ 0x00 ∷ []) 0 3 (Options ∷ [])
  -- options 15 and 10 are equal to 10 and 15, and their canonical octets are in rising order
  pub options_in_order : Reads (0x00 ∷ 0x0f ∷ 0x00 ∷ 0x01 ∷ 0x05 ∷ 0x00 ∷ 0x0a ∷ 0x00 ∷ 0x01 ∷ 0x05 ∷ []) 0 10
      (Options ∷ [])
      ((15, OpaqueOption (0x05 ∷ [])) ∷ (10, OpaqueOption (0x05 ∷ [])) ∷ [], tt)
      (0x00 ∷ 0x0a ∷ 0x00 ∷ 0x01 ∷ 0x05 ∷ 0x00 ∷ 0x0f ∷ 0x00 ∷ 0x01 ∷ 0x05 ∷ [])
      × (values_eq (Options ∷ []) ((15, OpaqueOption (0x05 ∷ [])) ∷ (10, OpaqueOption (0x05 ∷ [])) ∷ [], tt)
      ((10, OpaqueOption (0x05 ∷ [])) ∷ (15, OpaqueOption (0x05 ∷ [])) ∷ [], tt) ≡ true)
  -- one option twice is not that option and another
  pub options_counted :
      (values_eq (Options ∷ []) ((10, OpaqueOption []) ∷ (10, OpaqueOption []) ∷ [], tt)
      ((10, OpaqueOption []) ∷ (15, OpaqueOption []) ∷ [], tt) ≡ false)
      × (values_eq (Options ∷ []) ((10, OpaqueOption []) ∷ (15, OpaqueOption []) ∷ [], tt)
      ((10, OpaqueOption []) ∷ (10, OpaqueOption []) ∷ [], tt) ≡ false)
  -- a cookie, the subnet 0.0.0.0/0 and an option 11 without octets
  pub subnet_reads : Reads
      (0x00 ∷ 0x0a ∷ 0x00 ∷ 0x08 ∷ 0x0b ∷ 0x64 ∷ 0xb4 ∷ 0xdc ∷ 0xd7 ∷ 0xb0 ∷ 0xcc ∷ 0x8f ∷ 0x00 ∷ 0x08 ∷ 0x00 ∷ 0x04
      ∷ 0x00 ∷ 0x01 ∷ 0x00 ∷ 0x00 ∷ 0x00 ∷
      0x0b ∷ 0x00 ∷ 0x00 ∷ [])
      0 24 (Options ∷ []) (
        (10, OpaqueOption (0x0b ∷ 0x64 ∷ 0xb4 ∷ 0xdc ∷ 0xd7 ∷ 0xb0 ∷ 0xcc ∷ 0x8f ∷ [])) ∷ (8, Subnet 1 0 0 [])
            ∷ (11, OpaqueOption []) ∷ [],
        tt,
      )
      (0x00 ∷ 0x08 ∷ 0x00 ∷ 0x04 ∷ 0x00 ∷ 0x01 ∷ 0x00 ∷ 0x00 ∷ 0x00 ∷ 0x0a ∷ 0x00 ∷ 0x08 ∷ 0x0b ∷ 0x64 ∷ 0xb4 ∷ 0xdc
      ∷ 0xd7 ∷ 0xb0 ∷ 0xcc ∷ 0x8f ∷ 0x00 ∷
      0x0b ∷ 0x00 ∷ 0x00 ∷ [])
  -- a source prefix of 25 bits asks for four octets, and what follows them is dropped
  pub subnet_ends : Reads
      (0x00 ∷ 0x08 ∷ 0x00 ∷ 0x09 ∷ 0x00 ∷ 0x01 ∷ 0x19 ∷ 0x00 ∷ 0xac ∷ 0x01 ∷ 0x01 ∷ 0xff ∷ 0xff ∷ [])
      0 13 (Options ∷ [])
      ((8, Subnet 1 25 0 (0xac ∷ 0x01 ∷ 0x01 ∷ 0xff ∷ [])) ∷ [], tt)
      (0x00 ∷ 0x08 ∷ 0x00 ∷ 0x08 ∷ 0x00 ∷ 0x01 ∷ 0x19 ∷ 0x00 ∷ 0xac ∷ 0x01 ∷ 0x01 ∷ 0xff ∷ [])
  -- the subnet 2001:d00::/24 of IPv6
  pub subnet_of_six_reads : AreCanonical (Options ∷ [])
      (0x00 ∷ 0x08 ∷ 0x00 ∷ 0x07 ∷ 0x00 ∷ 0x02 ∷ 0x18 ∷ 0x00 ∷ 0x20 ∷ 0x01 ∷ 0x0d ∷ [])
      ((8, Subnet 2 24 0 (0x20 ∷ 0x01 ∷ 0x0d ∷ [])) ∷ [], tt)
  -- the identifier of a name server (RFC 5001, 2.3) is any octets
  pub server_identifier_reads : AreCanonical (Options ∷ []) (0x00 ∷ 0x03 ∷ 0x00 ∷ 0x03 ∷ 0xc0 ∷ 0xff ∷ 0xee ∷ [])
      ((3, OpaqueOption (0xc0 ∷ 0xff ∷ 0xee ∷ [])) ∷ [], tt)
  -- a subnet of a family that is neither 1 nor 2, and one whose prefix asks for five octets of an address of four
  pub broken_subnet : HoldsNone (0x00 ∷ 0x08 ∷ 0x00 ∷ 0x04 ∷ 0x00 ∷ 0x03 ∷ 0x00 ∷ 0x00 ∷ []) 0 8 (Options ∷ [])
      × HoldsNone (0x00 ∷ 0x08 ∷ 0x00 ∷ 0x09 ∷ 0x00 ∷ 0x01 ∷ 0x21 ∷ 0x00 ∷ 0x01 ∷ 0x02 ∷ 0x03 ∷ 0x04 ∷ 0x05 ∷ []) 0 13
      (Options ∷ [])

pub record ParameterExamples : Type 0 where
  -- priority 1, the root, the protocol "h2" and port 443, after which two octets are dropped
  pub service_reads : Reads
      (0x00 ∷ 0x01 ∷ 0x00 ∷ 0x00 ∷ 0x01 ∷ 0x00 ∷ 0x03 ∷ 0x02 ∷ 0x68 ∷ 0x32 ∷ 0x00 ∷ 0x03 ∷ 0x00 ∷ 0x04 ∷ 0x01 ∷ 0xbb
      ∷ 0xff ∷ 0xff ∷ [])
      0 18 (Number 2 ∷ Name ∷ Parameters ∷ [])
      (1, (full [], ((1, Alpn ((0x68 ∷ 0x32 ∷ []) ∷ [])) ∷ (3, Port 443) ∷ [], tt)))
      (0x00 ∷ 0x01 ∷ 0x00 ∷ 0x00 ∷ 0x01 ∷ 0x00 ∷ 0x03 ∷ 0x02 ∷ 0x68 ∷ 0x32 ∷ 0x00 ∷ 0x03 ∷ 0x00 ∷ 0x02 ∷ 0x01 ∷ 0xbb
      ∷ [])
  -- addresses may be none
  pub no_hints_read : AreCanonical (Parameters ∷ []) (0x00 ∷ 0x04 ∷ 0x00 ∷ 0x00 ∷ []) ((4, Ipv4Hint []) ∷ [], tt)
  -- the key 1 is mandatory
  pub mandatory_reads : AreCanonical (Parameters ∷ []) (0x00 ∷ 0x00 ∷ 0x00 ∷ 0x02 ∷ 0x00 ∷ 0x01 ∷ [])
      ((0, Mandatory (1 ∷ [])) ∷ [], tt)
  -- octets of any form for key 5
  pub octets_of_key_five : AreCanonical (Parameters ∷ []) (0x00 ∷ 0x05 ∷ 0x00 ∷ 0x03 ∷ 0x00 ∷ 0x01 ∷ 0x02 ∷ [])
      ((5, Opaque (0x00 ∷ 0x01 ∷ 0x02 ∷ [])) ∷ [], tt)
  -- one address of sixteen octets, 2001:db8::1
  pub hint_of_six_reads : AreCanonical (Parameters ∷ []) (0x00 ∷ 0x06 ∷ 0x00 ∷ 0x10 ∷ address_of_six)
      ((6, Ipv6Hint (address_of_six ∷ [])) ∷ [], tt)
  -- one key twice
  pub keys_rise : HoldsNone
      (0x00 ∷ 0x03 ∷ 0x00 ∷ 0x02 ∷ 0x00 ∷ 0x35 ∷ 0x00 ∷ 0x03 ∷ 0x00 ∷ 0x02 ∷ 0x00 ∷ 0x35 ∷ []) 0 12 (Parameters ∷ [])
  -- key 3 and then key 1
  pub keys_do_not_fall : HoldsNone
      (0x00 ∷ 0x03 ∷ 0x00 ∷ 0x02 ∷ 0x00 ∷ 0x35 ∷ 0x00 ∷ 0x01 ∷ 0x00 ∷ 0x03 ∷ 0x02 ∷ 0x68 ∷ 0x32 ∷ [])
      0 13 (Parameters ∷ [])
  -- no default protocols with an octet, and a protocol whose name is not UTF-8
  pub broken_protocols : HoldsNone (0x00 ∷ 0x02 ∷ 0x00 ∷ 0x01 ∷ 0x00 ∷ []) 0 5 (Parameters ∷ [])
      × HoldsNone (0x00 ∷ 0x01 ∷ 0x00 ∷ 0x02 ∷ 0x01 ∷ 0xff ∷ []) 0 6 (Parameters ∷ [])
  -- mandatory keys that are none, and a port of one octet
  pub broken_parameter : HoldsNone (0x00 ∷ 0x00 ∷ 0x00 ∷ 0x00 ∷ []) 0 4 (Parameters ∷ [])
      × HoldsNone (0x00 ∷ 0x03 ∷ 0x00 ∷ 0x01 ∷ 0x35 ∷ []) 0 5 (Parameters ∷ [])

pub record BitmapExamples : Type 0 where
  -- types 1, 2 and 28, after a serial and flags
  pub types_read : AreCanonical (Number 4 ∷ Number 2 ∷ Bitmap ∷ [])
      (0x00 ∷ 0x00 ∷ 0x00 ∷ 0x7b ∷ 0x00 ∷ 0x03 ∷ 0x00 ∷ 0x04 ∷ 0x60 ∷ 0x00 ∷ 0x00 ∷ 0x08 ∷ [])
      (123, (3, (1 ∷ 2 ∷ 28 ∷ [], tt)))
  -- types 1, 256 and 257 in two windows
  pub windows_read : AreCanonical (Bitmap ∷ []) (0x00 ∷ 0x01 ∷ 0x40 ∷ 0x01 ∷ 0x01 ∷ 0xc0 ∷ []) (1 ∷ 256 ∷ 257 ∷ [], tt)
  -- a bitmap with an octet 0 at its end is read, and its canonical octets are without it
  pub zeros_dropped : Reads (0x00 ∷ 0x02 ∷ 0x60 ∷ 0x00 ∷ []) 0 4 (Bitmap ∷ []) (1 ∷ 2 ∷ [], tt)
      (0x00 ∷ 0x01 ∷ 0x60 ∷ [])
  -- a window without octets, and one that is longer than what is there
  pub broken_window : HoldsNone (0x00 ∷ 0x00 ∷ []) 0 2 (Bitmap ∷ [])
      × HoldsNone (0x00 ∷ 0x02 ∷ 0x60 ∷ []) 0 3 (Bitmap ∷ [])
