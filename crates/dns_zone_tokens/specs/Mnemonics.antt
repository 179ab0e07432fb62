-- Names of numbers in zone files.
use Rattle.std.specs.Prelude.{ℕ, if◌then◌else◌, List, [], ◌∷◌, map, Option, Some, None}
use Rattle.std.specs.Str.{str_eq_ignore_ascii_case}
use Rattle.dns_zone_tokens.specs.declared.mnemonics.Mnemonic.{Mnemonic}

-- a name, and the number that it stands for
pub record Named : Type 0 where
  pub name : List ℕ
  pub value : ℕ

abbrev pub named : List ℕ → ℕ → Named
named name value = record { name = name; value = value }

-- the number of the first such name, in letters of either case
abbrev pub number_named : List Named → List ℕ → Option ℕ
number_named [] text = None
number_named (named ∷ table) text =
    if str_eq_ignore_ascii_case text named.name then Some named.value else number_named table text

-- the code's names as the definitions have them
abbrev pub named_values : List Mnemonic → List Named
named_values names = map (λ (m : Mnemonic). named m.name.now m.value) names
