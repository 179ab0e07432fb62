-- What the words of the command `cmp` ask for, and what is printed.
use Rattle.std.specs.Prelude.{◌≡◌, ◌≢◌, ◌⊎◌, ◌<◌, ℕ, Option, List, [], ◌∷◌, codes, length}
use Rattle.std.specs.{Io.KnownBytes.Appends, declared.cmp.Ordering.Ordering}
use Rattle.std.specs.declared.cmp.Ordering.TheVariants.{Less, Equal, Greater}
use Rattle.dns_types.specs.declared.record_type.RecordType.{RecordType}
use Rattle.dns_rdata.specs.{declared.record_data.RData.RData, Data.Fills, Data.NoValue, Order.rdata_cmp}
use Rattle.rdata_command.specs.Request.{IsTypeWord, IsOctetsWord}

-- `cmp TYPE OCTETS OCTETS`: the data of two records of this type, each a whole message of at most 65535 octets
pub record AsksOrder (words : List (List ℕ)) (t : RecordType) (left right : List ℕ) : Type 0 where
  pub type_word : List ℕ
  pub left_word : List ℕ
  pub right_word : List ℕ
  pub spelled : words ≡ codes "cmp" ∷ type_word ∷ left_word ∷ right_word ∷ []
  pub type_is : IsTypeWord type_word t
  pub left_is : IsOctetsWord left_word left
  pub right_is : IsOctetsWord right_word right
  pub left_short : length left < 65536
  pub right_short : length right < 65536

-- the words ask for no order
pub record NoOrderRequest (words : List (List ℕ)) : Type 0 where
  pub none : (t : RecordType) (left right : List ℕ) → AsksOrder words t left right → ⊥

-- the words are not `cmp` and three more
abbrev pub NotCompare : List (List ℕ) → Type 0
NotCompare words = (a b c : List ℕ) → words ≢ codes "cmp" ∷ a ∷ b ∷ c ∷ []

abbrev pub order_line : Ordering → List ℕ
order_line Less = codes "less\n"
order_line Equal = codes "equal\n"
order_line Greater = codes "greater\n"

-- values fill both messages, and this is their order
pub record HasOrder (t : RecordType) (left right : List ℕ) (o : Ordering) : Type 0 where
  pub value : RData
  pub other : RData
  pub fills : Fills left 0 (length left) t value
  pub other_fills : Fills right 0 (length right) t other
  pub order : o ≡ rdata_cmp value other

-- values fill both messages, and their order came after what was written before
pub record PrintedOrder (t : RecordType) (left right : List ℕ) (before after : Option (List ℕ)) : Type 0 where
  pub order : Ordering
  pub has_order : HasOrder t left right order
  pub appended : Appends before after (order_line order)

-- no value fills one of the messages
abbrev pub NoOrder : RecordType → List ℕ → List ℕ → Type 0
NoOrder t left right = NoValue left 0 (length left) t ⊎ NoValue right 0 (length right) t

-- the words ask for the order of two values, and it came after what was written before
pub record PrintsOrder (words : List (List ℕ)) (before after : Option (List ℕ)) : Type 0 where
  pub type : RecordType
  pub left : List ℕ
  pub right : List ℕ
  pub asks : AsksOrder words type left right
  pub printed : PrintedOrder type left right before after

-- the words ask for the order of data of which one has no value
pub record RefusesOrder (words : List (List ℕ)) : Type 0 where
  pub type : RecordType
  pub left : List ℕ
  pub right : List ℕ
  pub asks : AsksOrder words type left right
  pub none : NoOrder type left right
