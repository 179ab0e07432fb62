-- Printed tokens, divided at their blanks, are read back.
use Rattle.std.specs.Prelude.{◌≡◌, ℕ, ◌==◌, if◌then◌else◌, true, List, [], ◌∷◌, ◌++◌}
use Rattle.dns_fields.specs.{Labels.DomainName, Labels.IsName, declared.Kind.Kind, Fields.Values}
use Rattle.dns_labels.specs.Text.{HasOctets}
use Rattle.dns_tokens.specs.Forms.{TokenRow}

-- the tokens of a text after the front of a token
abbrev pub cut_from : List ℕ → List ℕ → List (List ℕ)
cut_from front [] = front ∷ []
cut_from front (c ∷ cs) = if c == 32 then front ∷ cut_from [] cs else cut_from (front ++ c ∷ []) cs

-- a text divided at its blanks
abbrev pub cut : List ℕ → List (List ℕ)
cut text = cut_from [] text

-- a name whose text is that of no other: a fully qualified one
pub record IsPrintedName (x : DomainName) : Type 0 where
  pub is_name : IsName x
  pub octets : HasOctets x
  pub qualified : x.fully_qualified ≡ true

-- the text of values that the premise holds of, divided at its blanks, gives them back
pub record TextReadsBack {T : Type 0} {kinds : List Kind} (token_row : TokenRow kinds) (fields : T → Values kinds)
    (text : T → List ℕ) (Printable : T → Type 0) : Type 0 where
  pub back : (x : T) → Printable x → token_row.stand (fields x) (cut (text x))
