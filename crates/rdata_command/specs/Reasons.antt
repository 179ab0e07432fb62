-- What is rejected.
use Rattle.std.specs.Prelude.{◌⊎◌, List, ℕ}
use Rattle.rdata_command.specs.{Report.RefusesValue, Parsing.RefusesText, Comparing.RefusesOrder}

-- the words ask for RDATA that no value fills, for a text that is of no value, or for an order of two of which one is no RDATA
abbrev pub Refuses : List (List ℕ) → Type 0
Refuses words = RefusesValue words ⊎ RefusesText words ⊎ RefusesOrder words
