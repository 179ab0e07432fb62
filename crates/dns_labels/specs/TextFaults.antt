-- Why a text is that of no name: the first label that is at fault, and how (RFC 1035, 3.1 and 5.1).
use Rattle.std.specs.Prelude.{◌≡◌, ℕ, ◌+◌, ◌<◌, ◌≤◌, List, [], ◌++◌, length, drop, codes}
use Rattle.dns_labels.specs.declared.error.NameTextError.{NameTextError}
use Rattle.dns_labels.specs.declared.error.NameTextError.TheVariants as text_error
use Rattle.dns_labels.specs.Text.{OctetText, LabelText, IsLabelEnd, AddsLabel}

-- the labels before this offset of a text, each with a dot after it, have these octets with their lengths
pub data ReadsUpTo (text : List ℕ) : ℕ → List ℕ → Type 0 where
  begin : ReadsUpTo text 0 []
  dotted : {at taken : ℕ} {old new : List ℕ} → ReadsUpTo text at old → AddsLabel (drop at text) taken old new
      → at + taken < length text → ReadsUpTo text (at + taken + 1) new

-- Octets of a label are read, no more than a label has, nor than a name has whose labels before have so many, and the
-- label does not end after them.
pub record GoesOn (size : ℕ) (text label rest : List ℕ) : Type 0 where
  pub front : List ℕ
  pub split : text ≡ front ++ rest
  pub reads : LabelText label front
  pub short : length label ≤ 63
  pub room : size + (1 + length label) ≤ 254
  pub on : IsLabelEnd rest → ⊥

-- why no label is next after labels of so many octets
pub data LabelFault (size : ℕ) (text : List ℕ) : List ℕ → Type 0 where
  empty : size < 254 → IsLabelEnd text → LabelFault size text (codes "empty label in a domain name")
  long_label : {label rest : List ℕ} → GoesOn size text label rest → length label ≡ 63
      → LabelFault size text (codes "label past 63 octets in a domain name")
  full : 254 ≤ size → LabelFault size text (codes "domain name past 255 octets")
  long_name : {label rest : List ℕ} → GoesOn size text label rest → length label < 63 → size + (1 + length label) ≡ 254
      → LabelFault size text (codes "domain name past 255 octets")
  character : {label rest : List ℕ} → GoesOn size text label rest → length label < 63 → size + (1 + length label) < 254
      → ((n : ℕ) (t more : List ℕ) → OctetText n t → rest ≡ t ++ more → ⊥)
      → LabelFault size text (codes "character or escape that no label of a domain name has")

-- after labels and their dots the next label is at fault, for this reason
pub record NameTextFault (text why : List ℕ) : Type 0 where
  pub at : ℕ
  pub octets : List ℕ
  pub before : ReadsUpTo text at octets
  pub within : at < length text
  pub fault : LabelFault (length octets) (drop at text) why

-- memory ran out, or the text is that of no name, for the reason that is told
abbrev pub IsTextFault : List ℕ → NameTextError → Type 0
IsTextFault text text_error.Memory = Unit {0}
IsTextFault text (text_error.Invalid why) = NameTextFault text why.now
