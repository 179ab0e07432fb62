-- Lists of items in a text.
use Rattle.std.specs.Prelude.{ℕ, Bool, true, false, ◌==◌, if◌then◌else◌, List, [], ◌∷◌, ◌++◌}
use Rattle.dns_tokens.specs.Tokens.{FirstToken, TokenValue.char_data}

-- Item rule: the text's first token is a word, which is the item.
abbrev pub IsItem : List ℕ → List ℕ → Type 0
IsItem text item = (rest : List ℕ) × FirstToken (char_data item) text rest

abbrev pub NoItem : List ℕ → Type 0
NoItem text = (item : List ℕ) → IsItem text item → ⊥

-- one more segment, where it isn't empty
abbrev pub last_segment : List ℕ → List (List ℕ)
last_segment [] = []
last_segment (c ∷ cs) = (c ∷ cs) ∷ []

-- The segments of a text after the front of a segment, and after a backslash or not: a backslash is dropped and the
-- next character kept, any other comma ends a segment, and what is left at the end is one more segment.
abbrev pub segments_from : Bool → List ℕ → List ℕ → List (List ℕ)
segments_from slash segment [] = last_segment segment
segments_from true segment (c ∷ cs) = segments_from false (segment ++ c ∷ []) cs
segments_from false segment (c ∷ cs) =
    if c == 92 then segments_from true segment cs
    else if c == 44 then segment ∷ segments_from false [] cs
    else segments_from false (segment ++ c ∷ []) cs

abbrev pub segments_of : List ℕ → List (List ℕ)
segments_of text = segments_from false [] text

-- each segment passes the item rule
pub data AreItems : List (List ℕ) → List (List ℕ) → Type 0 where
  none : AreItems [] []
  one_more : {segment item : List ℕ} {segments items : List (List ℕ)} → IsItem segment item → AreItems segments items
      → AreItems (segment ∷ segments) (item ∷ items)

-- List rule: the text is of these items
abbrev pub IsList : List ℕ → List (List ℕ) → Type 0
IsList text items = AreItems (segments_of text) items
