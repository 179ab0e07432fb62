-- What names are made of, and when none is made.
use Rattle.std.specs.Prelude.{◌≡◌, ℕ, Bool, true, false, List, [], ◌∷◌, ◌++◌, drop, Option, Some, None, if◌then◌else◌, nat_eq, length}
use Rattle.std.specs.Cmp.Lexicographic.{pointwise}
use Rattle.dns_types.specs.declared.error.ProtoError.{ProtoError}
use Rattle.dns_types.specs.declared.error.ProtoError.TheVariants as proto
use Rattle.dns_fields.specs.Labels.{DomainName, IsName, low_labels}
use Rattle.dns_labels.specs.{Text.IsNameText, TextFaults.NameTextFault}

-- memory ran out, or a message says that the fact holds
abbrev pub IsTextError : ProtoError → Type 0 → Type 0
IsTextError proto.Memory fact = Unit {0}
IsTextError (proto.Message text) fact = fact
IsTextError e fact = ⊥

-- memory ran out, or a message says why the text is that of no name
abbrev pub IsNameFault : List ℕ → ProtoError → Type 0
IsNameFault text proto.Memory = Unit {0}
IsNameFault text (proto.Message why) = NameTextFault text why.now
IsNameFault text e = ⊥

abbrev pub qualified : List (List ℕ) → DomainName
qualified labels = record { labels = labels; fully_qualified = true }

abbrev pub root_name : DomainName
root_name = qualified []

-- one label more, after the others
abbrev pub with_label : DomainName → List ℕ → DomainName
with_label name label = record name { labels = name.labels ++ label ∷ [] }

-- the labels of both, and the mark of the second
abbrev pub joined_name : DomainName → DomainName → DomainName
joined_name name other = record { labels = name.labels ++ other.labels; fully_qualified = other.fully_qualified }

-- a relative name gets labels and mark of the origin, where there is one
abbrev pub completed : DomainName → Option DomainName → DomainName
completed name None = name
completed name (Some origin) = if name.fully_qualified then name else joined_name name origin

-- the text is of a name that the origin completes to this one
pub record IsParsed (text : List ℕ) (origin : Option DomainName) (name : DomainName) : Type 0 where
  pub read : DomainName
  pub is_text : IsNameText read text
  pub same : name ≡ completed read origin
  pub is_name : IsName name

-- A to Z lowered
abbrev pub in_lowercase : DomainName → DomainName
in_lowercase name = record name { labels = low_labels name.labels }

-- without the first label
abbrev pub parent_name : DomainName → DomainName
parent_name name = record name { labels = drop 1 name.labels }

-- the name's last labels are all of the zone's, but for ASCII case
pub record IsInZone (name zone : DomainName) : Type 0 where
  pub front : List (List ℕ)
  pub same : low_labels name.labels ≡ front ++ low_labels zone.labels

-- the first label is an asterisk (RFC 4592, 2.1.1)
abbrev pub has_asterisk : List (List ℕ) → Bool
has_asterisk [] = false
has_asterisk (label ∷ labels) = pointwise nat_eq label (42 ∷ [])

-- the labels without a leading asterisk (RFC 4034, section 3.1.3)
abbrev pub label_count : List (List ℕ) → ℕ
label_count labels = if has_asterisk labels then length (drop 1 labels) else length labels
