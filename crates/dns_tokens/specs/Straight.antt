-- Records of numbers and names, in order: their tokens, their text, and which of them print in tokens that give them
-- back.
use Rattle.dns_rows.specs.Table.{kinds_of}
use Rattle.std.specs.Prelude.{ℕ, ◌<◌, ◌^◌, ◌*◌, min, List, [], ◌∷◌, ◌++◌, codes, decimal, Option}
use Rattle.dns_fields.specs.{Labels.DomainName, declared.Kind.Kind, declared.Kind.TheVariants.Number}
use Rattle.dns_fields.specs.{declared.Kind.TheVariants.Name, Fields.Values}
use Rattle.dns_labels.specs.Text.{name_text}
use Rattle.dns_names_wire.specs.Facts.{Facts}
use Rattle.dns_tokens.specs.{Forms.TokenRow, Forms.token, Forms.ignored, Forms.number, Forms.name, Printed.IsPrintedName}

-- a token for each field; no tokens give fields of another kind
abbrev pub straight_tokens : Option DomainName → (kinds : List Kind) → TokenRow kinds
straight_tokens origin [] = ignored
straight_tokens origin (Number w ∷ kinds) = token (number w) (straight_tokens origin kinds)
straight_tokens origin (Name ∷ kinds) = token (name origin) (straight_tokens origin kinds)
straight_tokens origin kinds = record { stand = λ vs tokens. ⊥ }

-- each number fits its octets, or eight of them, and each name is fully qualified
abbrev pub ArePrinted : (kinds : List Kind) → Values kinds → Type 0
ArePrinted [] vs = Unit {0}
ArePrinted (Number w ∷ kinds) vs = (vs.0 < 2 ^ min (8 * w) 64) × ArePrinted kinds vs.1
ArePrinted (Name ∷ kinds) vs = IsPrintedName vs.0 × ArePrinted kinds vs.1
ArePrinted kinds vs = ⊥

abbrev pub field_texts : (kinds : List Kind) → Values kinds → List (List ℕ)
field_texts (Number w ∷ kinds) vs = decimal vs.0 ∷ field_texts kinds vs.1
field_texts (Name ∷ kinds) vs = name_text vs.0 ∷ field_texts kinds vs.1
field_texts kinds vs = []

-- texts after a first one, a blank between two
abbrev pub spaced_from : List ℕ → List (List ℕ) → List ℕ
spaced_from front [] = front
spaced_from front (first ∷ tokens) = spaced_from (front ++ codes " " ++ first) tokens

abbrev pub spaced : List (List ℕ) → List ℕ
spaced [] = []
spaced (first ∷ tokens) = spaced_from first tokens

-- the fields of a record, a blank between two
abbrev pub straight_text : {T : Type 0} → Facts T → T → List ℕ
straight_text f x = spaced (field_texts (kinds_of f.row) (f.fields x))
