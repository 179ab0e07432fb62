-- What is printed of a value that was read.
use Rattle.std.specs.Prelude.{◌≡◌, ◌≢◌, ℕ, ◌⊎◌, Option, Some, None, List, [], ◌∷◌, ◌++◌, codes, decimal}
use Rattle.std.specs.Io.KnownBytes.{Appends}
use Rattle.hex.specs.Hex.{encode_lower}
use Rattle.dns_fields.specs.declared.RDataEncoding.TheVariants.{StandardRecord}
use Rattle.dns_types.specs.{declared.error.ProtoError.ProtoError, declared.record_type.RecordType.RecordType, RecordTypes.number_of}
use Rattle.dns_types.specs.declared.error.ProtoError.TheVariants.{Memory}
use Rattle.dns_names_wire.specs.{State.Writing, Terms.Appended, Terms.Stopped}
use Rattle.dns_rdata.specs.{declared.record_data.RData.RData, Texts.data_text}
use Rattle.dns_rdata.specs.Data.{Fills, NoValue, fields_of, mode_for, data_octets}
use Rattle.rdata_command.specs.Request.{Asks}

-- the value's text, or `none` where it has none
abbrev pub text_or_none : Option (List ℕ) → List ℕ
text_or_none (Some text) = text
text_or_none None = codes "none"

abbrev pub printed_text : RData → List ℕ
printed_text v = text_or_none (data_text v)

-- octets in hexadecimal, or a dash where there are none
abbrev pub octets_text : List ℕ → List ℕ
octets_text [] = codes "-"
octets_text (x ∷ xs) = encode_lower (x ∷ xs)

-- an encoder that has written nothing
abbrev pub fresh : ℕ → Writing
fresh target = record { before = []; octets = []; limit = 65535; mode = StandardRecord; target = target }

-- a fresh encoder appends these octets for the value
pub record EmitsFresh (v : RData) (octets : List ℕ) : Type 0 where
  pub target : ℕ
  pub after : Writing
  pub appended : Appended (mode_for StandardRecord v) (fresh target) (fields_of v).kinds (fields_of v).values after
  pub same : after.octets ≡ octets

-- a fresh encoder rejects the value, and not for memory
pub record EmitsNothing (v : RData) : Type 0 where
  pub target : ℕ
  pub after : Writing
  pub error : ProtoError
  pub cause : error ≢ Memory
  pub stopped : Stopped error (fresh target) (fields_of v).kinds (fields_of v).values after

abbrev pub IsEmittedText : RData → List ℕ → Type 0
IsEmittedText v text =
    ((octets : List ℕ) × EmitsFresh v octets × (text ≡ octets_text octets)) ⊎ (EmitsNothing v × (text ≡ codes "none"))

-- four lines: the number of the type, the value's text, its canonical octets, and its octets from a fresh encoder
pub record IsReport (t : RecordType) (v : RData) (lines : List ℕ) : Type 0 where
  pub emitted : List ℕ
  pub is_emitted : IsEmittedText v emitted
  pub spelled : lines ≡ codes "type " ++ (decimal (number_of t)
      ++ ((10 ∷ codes "text ") ++ (printed_text v ++ ((10 ∷ codes "canonical ") ++ (octets_text (data_octets v)
      ++ ((10 ∷ codes "emitted ") ++ (emitted ++ (10 ∷ []))))))))

-- a value fills the octets, and its lines came after what was written before
pub record Printed (m : List ℕ) (p n : ℕ) (t : RecordType) (before after : Option (List ℕ)) : Type 0 where
  pub value : RData
  pub fills : Fills m p n t value
  pub lines : List ℕ
  pub report : IsReport t value lines
  pub appended : Appends before after lines

-- the words ask for data that a value fills, and its lines came after what was written before
pub record PrintsValue (words : List (List ℕ)) (before after : Option (List ℕ)) : Type 0 where
  pub type : RecordType
  pub offset : ℕ
  pub size : ℕ
  pub message : List ℕ
  pub asks : Asks words type offset size message
  pub printed : Printed message offset size type before after

-- the words ask for data that no value fills
pub record RefusesValue (words : List (List ℕ)) : Type 0 where
  pub type : RecordType
  pub offset : ℕ
  pub size : ℕ
  pub message : List ℕ
  pub asks : Asks words type offset size message
  pub none : NoValue message offset size type
