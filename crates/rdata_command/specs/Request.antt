-- What the words of a command ask for.
use Rattle.std.specs.Prelude.{◌≡◌, ◌≢◌, ℕ, ◌<◌, ◌≤◌, ◌⊎◌, List, [], ◌∷◌, codes, length, map, string_bytes, Ok}
use Rattle.std.specs.{Global.Global, declared.string.String.String, Str.Parse.IsNumeral, Str.Parse.digits_value}
use Rattle.hex.specs.Hex.{decode_of}
use Rattle.dns_types.specs.{declared.record_type.RecordType.RecordType, RecordTypes.record_type_of, RecordTypes.IsTypeText}

abbrev pub texts : List (String Global) → List (List ℕ)
texts words = map string_bytes words

-- one to five decimal digits
pub record IsDecimalWord (word : List ℕ) (n : ℕ) : Type 0 where
  pub numeral : IsNumeral 10 word
  pub few : length word ≤ 5
  pub value : n ≡ digits_value 10 word

-- the text of a type, or the number of one
abbrev pub IsTypeWord : List ℕ → RecordType → Type 0
IsTypeWord word t = ((n : ℕ) × IsDecimalWord word n × (n < 65536) × (t ≡ record_type_of n)) ⊎ IsTypeText word t

-- two or more hexadecimal digits, evenly many, or a dash for no octets
abbrev pub IsOctetsWord : List ℕ → List ℕ → Type 0
IsOctetsWord word octets = ((word ≡ codes "-") × (octets ≡ [])) ⊎ ((word ≢ []) × (decode_of word ≡ Ok octets))

-- `read TYPE PLACE LENGTH OCTETS`: the data of a record of this type, in the n octets of the message from p
pub record Asks (words : List (List ℕ)) (t : RecordType) (p n : ℕ) (m : List ℕ) : Type 0 where
  pub type_word : List ℕ
  pub offset_word : List ℕ
  pub length_word : List ℕ
  pub octets_word : List ℕ
  pub spelled : words ≡ codes "read" ∷ type_word ∷ offset_word ∷ length_word ∷ octets_word ∷ []
  pub type_is : IsTypeWord type_word t
  pub offset_is : IsDecimalWord offset_word p
  pub length_is : IsDecimalWord length_word n
  pub octets_are : IsOctetsWord octets_word m
  pub inside : p ≤ length m
  pub short : n < 65536

-- the words ask for nothing
pub record NoRequest (words : List (List ℕ)) : Type 0 where
  pub none : (t : RecordType) (p n : ℕ) (m : List ℕ) → Asks words t p n m → ⊥

-- the words are not `read` and four more
abbrev pub NotRead : List (List ℕ) → Type 0
NotRead words = (a b c d : List ℕ) → words ≢ codes "read" ∷ a ∷ b ∷ c ∷ d ∷ []
