-- How many steps going over a name takes: one for each label and for each compression pointer (RFC 1035, 4.1.4).
use Rattle.std.specs.Prelude.{◌≡◌, ℕ, zero, suc, ◌+◌, ◌-◌, ◌<◌, ◌≤◌, List, [], ◌∷◌, length, take, get_or, Some}
use Rattle.dns_fields.specs.Labels.{wire}
use Rattle.dns_labels.specs.Reading.{IsRun}

-- From the offset on, labels and then a compression pointer are encoded. With them the name, which has `before` octets
-- already, has at most 254, and the pointer is to an offset before these labels.
pub record Jump (region : List ℕ) (offset before : ℕ) : Type 0 where
  pub front : List (List ℕ)
  pub target : ℕ
  pub end : ℕ
  pub run : IsRun region offset front (Some target) end
  pub room : before + length (wire front) ≤ 254
  pub backwards : target < offset

-- A label of n octets is encoded at the offset, and an octet follows it. With the label the name, which has `before` octets
-- already, has at most 254.
pub record PassesLabel (region : List ℕ) (offset before n : ℕ) : Type 0 where
  pub size : get_or region offset 0 ≡ n
  pub some : 1 ≤ n
  pub most : n ≤ 63
  pub followed : offset + suc n < length region
  pub room : before + suc n ≤ 254

-- so many labels are passed one after the other from the offset on, and no more
abbrev pub PassesLabels : ℕ → List ℕ → ℕ → ℕ → Type 0
PassesLabels zero region offset before = (n : ℕ) → PassesLabel region offset before n → ⊥
PassesLabels (suc count) region offset before =
    (n : ℕ) × PassesLabel region offset before n × PassesLabels count region (offset + suc n) (before + suc n)

-- So many compression pointers are followed, and no more, from the offset on, by a name that has `before` octets
-- already: each leads into the octets before the labels that it ends. The steps are the pointers and all labels that are
-- passed.
abbrev pub Follows : ℕ → ℕ → List ℕ → ℕ → ℕ → Type 0
Follows zero steps region offset before = (Jump region offset before → ⊥) × PassesLabels steps region offset before
Follows (suc pointers) steps region offset before = (j : Jump region offset before) × (labels : ℕ) × (rest : ℕ)
    × PassesLabels labels region offset before
    × Follows pointers rest (take offset region) j.target (before + length (wire j.front))
    × (steps ≡ labels + suc rest)

-- Going over the name at the offset takes so many steps: a step for each label and for each compression pointer, all of
-- them or those up to the damage if no name is encoded there.
pub record NameSteps (message : List ℕ) (offset count : ℕ) : Type 0 where
  pub pointers : ℕ
  pub is : Follows pointers count message offset 0

-- so many as the claim says are taken off a number, which does not go below 0
abbrev pub Leaves : (ℕ → Type 0) → ℕ → ℕ → Type 0
Leaves Claim before after = (count : ℕ) × Claim count × (after ≡ before - count)

-- a name has one number of steps
abbrev pub OneCount : Type 0
OneCount = (m : List ℕ) (p k l : ℕ) → NameSteps m p k → NameSteps m p l → k ≡ l

-- `a.` at 0; a pointer to it at 3; `b` and a pointer to that pointer at 5; an octet that begins no label at 9; a pointer
-- to it at 10; and a pointer to itself at 12
abbrev pub pointed_names : List ℕ
pointed_names =
    0x01 ∷ 0x61 ∷ 0x00 ∷ 0xc0 ∷ 0x00 ∷ 0x01 ∷ 0x62 ∷ 0xc0 ∷ 0x03 ∷ 0x40 ∷ 0xc0 ∷ 0x09 ∷ 0xc0 ∷ 0x0c ∷ []

pub record StepExamples : Type 0 where
  -- a label; a pointer and a label; two pointers and two labels
  pub none : NameSteps pointed_names 0 1
  pub one : NameSteps pointed_names 3 2
  pub two : NameSteps pointed_names 5 4
  -- damaged names
  pub to_damage : NameSteps pointed_names 10 1
  pub to_itself : NameSteps pointed_names 12 0
