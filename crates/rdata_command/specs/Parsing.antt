-- What the words of the command `parse` ask for, and what is printed.
use Rattle.std.specs.Prelude.{◌≡◌, ◌≢◌, ◌⊎◌, ℕ, Option, List, [], ◌∷◌, codes}
use Rattle.std.specs.Io.KnownBytes.{Appends}
use Rattle.dns_tokens.specs.TextWords.{NoTextWords}
use Rattle.dns_types.specs.declared.record_type.RecordType.{RecordType}
use Rattle.dns_rdata.specs.{declared.record_data.RData.RData, DataTokens.IsDataText, DataTokens.GivesNone}
use Rattle.rdata_command.specs.{Request.IsTypeWord, Report.IsReport}

-- `parse TYPE TEXT`: the data of a record of this type, in this text
pub record AsksText (words : List (List ℕ)) (t : RecordType) (text : List ℕ) : Type 0 where
  pub type_word : List ℕ
  pub spelled : words ≡ codes "parse" ∷ type_word ∷ text ∷ []
  pub type_is : IsTypeWord type_word t

-- the words ask for no text
pub record NoTextRequest (words : List (List ℕ)) : Type 0 where
  pub none : (t : RecordType) (text : List ℕ) → AsksText words t text → ⊥

-- the words are not `parse` and two more
abbrev pub NotParse : List (List ℕ) → Type 0
NotParse words = (a b : List ℕ) → words ≢ codes "parse" ∷ a ∷ b ∷ []

-- the text is of no value of the type
abbrev pub NoDataText : RecordType → List ℕ → Type 0
NoDataText t text = NoTextWords text ⊎ GivesNone t text

-- the text is of a value, and its lines came after what was written before
pub record PrintedText (t : RecordType) (text : List ℕ) (before after : Option (List ℕ)) : Type 0 where
  pub value : RData
  pub is_text : IsDataText t text value
  pub lines : List ℕ
  pub report : IsReport t value lines
  pub appended : Appends before after lines

-- the words ask for a text of a value, and its lines came after what was written before
pub record PrintsText (words : List (List ℕ)) (before after : Option (List ℕ)) : Type 0 where
  pub type : RecordType
  pub text : List ℕ
  pub asks : AsksText words type text
  pub printed : PrintedText type text before after

-- the words ask for a text of no value
pub record RefusesText (words : List (List ℕ)) : Type 0 where
  pub type : RecordType
  pub text : List ℕ
  pub asks : AsksText words type text
  pub none : NoDataText type text
