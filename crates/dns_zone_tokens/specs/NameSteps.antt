-- What the code of names keeps.
use Rattle.std.specs.Prelude.{◌≡◌, ◌⊎◌, ℕ, ◌+◌, ◌<◌, ◌≤◌, Bool, true, if◌then◌else◌, List, [], ◌∷◌, ◌++◌, length}
use Rattle.dns_fields.specs.Labels.{AreLabels, FitsName, wire}
use Rattle.dns_zone_tokens.specs.{Letters.letters, Letters.escapes_stand, NameTokens.parts_from, NameTokens.labelled, declared.field.NameField.NameField}
use Rattle.dns_types.specs.declared.error.ParseError.{ParseError}
use Rattle.dns_types.specs.declared.error.ParseError.TheVariants as parse

-- Labels of the text were read, and the front of the next one; the octets are theirs, each after its length.
pub record ReadSoFar (text rest octets front : List ℕ) : Type 0 where
  pub labels : List (List ℕ)
  pub are : AreLabels labels
  pub fits : length (wire labels) ≤ 254
  pub same : octets ≡ wire labels
  pub seen : List ℕ
  pub split : text ≡ seen ++ rest
  pub whole : escapes_stand seen ≡ true
  pub divided : parts_from [] (letters seen) ≡ labels ++ front ∷ []
  pub escapes : escapes_stand text ≡ escapes_stand rest
  pub parts : parts_from [] (letters text) ≡ labels ++ parts_from front (letters rest)

-- the octets are the labels of the text, each after its length, and the flag says whether a dot ends them
pub record LabelsRead (text : List ℕ) (mark : Bool) (octets : List ℕ) : Type 0 where
  pub escapes : escapes_stand text ≡ true
  pub labels : List (List ℕ)
  pub name : labelled text ≡ record { labels = labels; fully_qualified = mark }
  pub are : AreLabels labels
  pub fits : FitsName labels
  pub same : octets ≡ wire labels

-- the text has no labels of a name
pub record NoLabels (text : List ℕ) : Type 0 where
  pub none : escapes_stand text ≡ true → AreLabels (labelled text).labels → FitsName (labelled text).labels → ⊥

-- a label after others has no octet, more than 63, or no room
abbrev pub NotClosed : NameField → List ℕ → List ℕ → ParseError → Type 0
NotClosed field octets label e =
    ((e ≡ parse.Message field.empty_label) × (length label ≡ 0))
    ⊎ ((e ≡ parse.Message field.long_label) × (63 < length label))
    ⊎ ((e ≡ parse.Message field.long_name) × (1 ≤ length label) × (length label ≤ 63) × (253 < length octets + length label))

-- labels were appended, and a 0 if a dot ends them
pub record LabelsPut (text : List ℕ) (mark : Bool) (before after : List ℕ) : Type 0 where
  pub octets : List ℕ
  pub read : LabelsRead text mark octets
  pub same : after ≡ before ++ (if mark then octets ++ 0 ∷ [] else octets)
