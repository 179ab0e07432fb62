-- Texts of domain names (RFC 1035, 5.1): labels joined by dots.
use Rattle.std.specs.Prelude.{◌≡◌, ◌≢◌, ℕ, ◌+◌, ◌*◌, ◌/◌, ◌%◌, ◌<◌, ◌≤◌, Bool, true, false, List, [], ◌∷◌, ◌++◌, All, flat_map, length, take, drop}
use Rattle.std.specs.Prelude.{if◌then◌else◌, nat_le, ◌==◌, ◌||◌, ◌&&◌}
use Rattle.dns_fields.specs.{Octets.AreOctets, Labels.DomainName, Labels.IsLabel, Labels.IsName}

abbrev pub IsGraphic : ℕ → Type 0
IsGraphic c = (33 ≤ c) × (c ≤ 126)

-- A text of one octet of a label: the character itself, `\` and three digits, or `\` and a character that is no digit.
pub data OctetText : ℕ → List ℕ → Type 0 where
  plain : {c : ℕ} → IsGraphic c → c ≢ 46 → c ≢ 92 → OctetText c (c ∷ [])
  decimal : {n : ℕ} (h t o : ℕ) → h < 10 → t < 10 → o < 10 → n ≡ 100 * h + 10 * t + o → n < 256
      → OctetText n (92 ∷ (48 + h) ∷ (48 + t) ∷ (48 + o) ∷ [])
  quoted : {c : ℕ} → IsGraphic c → (48 ≤ c → 57 < c) → OctetText c (92 ∷ c ∷ [])

-- A text of a label: those of its octets, one after the other.
pub data LabelText : List ℕ → List ℕ → Type 0 where
  no_octet : LabelText [] []
  octet : {n : ℕ} {label text : List ℕ} (front rest : List ℕ) → OctetText n front → LabelText label rest
      → text ≡ front ++ rest → LabelText (n ∷ label) text

-- A text of one label or more, joined by dots; a dot at the end marks them fully qualified.
pub data LabelsText : List (List ℕ) → Bool → List ℕ → Type 0 where
  last : {label text : List ℕ} → LabelText label text → LabelsText (label ∷ []) false text
  dotted : {label text : List ℕ} (front : List ℕ) → LabelText label front → text ≡ front ++ 46 ∷ []
      → LabelsText (label ∷ []) true text
  joined : {label text : List ℕ} {labels : List (List ℕ)} {mark : Bool} (front rest : List ℕ) → LabelText label front
      → LabelsText labels mark rest
      → text ≡ front ++ 46 ∷ rest → LabelsText (label ∷ labels) mark text

-- A dot is the root and no text the relative name without labels; every other text is that of labels.
pub data MarkedText : List (List ℕ) → Bool → List ℕ → Type 0 where
  root : MarkedText [] true (46 ∷ [])
  nothing : MarkedText [] false []
  labelled : {labels : List (List ℕ)} {mark : Bool} {text : List ℕ} → LabelsText labels mark text
      → MarkedText labels mark text

-- the text is one of the name's
pub record IsNameText (name : DomainName) (text : List ℕ) : Type 0 where
  pub is_name : IsName name
  pub reads : MarkedText name.labels name.fully_qualified text

-- the text that is printed of an octet: `.` and `\` after a `\`, what is no graphic character as a `\` and three digits
abbrev pub printed : ℕ → List ℕ
printed c = if c == 46 || c == 92 then 92 ∷ c ∷ [] else
    (if nat_le 33 c && nat_le c 126 then c ∷ [] else 92 ∷ (48 + c / 100) ∷ (48 + c / 10 % 10) ∷ (48 + c % 10) ∷ [])

abbrev pub label_text : List ℕ → List ℕ
label_text label = flat_map printed label

-- the first label, and each other one after a dot
abbrev pub joined_text : List (List ℕ) → List ℕ
joined_text [] = []
joined_text (label ∷ labels) = label_text label ++ flat_map (λ other. 46 ∷ label_text other) labels

-- the text that is printed of a name: a dot ends that of a fully qualified one
abbrev pub name_text : DomainName → List ℕ
name_text name = joined_text name.labels ++ (if name.fully_qualified then 46 ∷ [] else [])

-- every octet of the name is a number of 0 to 255
abbrev pub HasOctets : DomainName → Type 0
HasOctets name = All AreOctets name.labels

-- what ends a label's text: the text's end, or a dot
abbrev pub IsLabelEnd : List ℕ → Type 0
IsLabelEnd [] = Unit {0}
IsLabelEnd (c ∷ text) = c ≡ 46

-- the octets of the label whose text is the next, and then the text's end or a dot
pub record AddsOctets (text : List ℕ) (taken : ℕ) (old new : List ℕ) : Type 0 where
  pub label : List ℕ
  pub reads : LabelText label (take taken text)
  pub within : taken ≤ length text
  pub ends : IsLabelEnd (drop taken text)
  pub octets : new ≡ old ++ label

-- the same, with the label's length octet
pub record AddsLabel (text : List ℕ) (taken : ℕ) (old new : List ℕ) : Type 0 where
  pub label : List ℕ
  pub is_label : IsLabel label
  pub reads : LabelText label (take taken text)
  pub within : taken ≤ length text
  pub ends : IsLabelEnd (drop taken text)
  pub octets : new ≡ old ++ length label ∷ label
