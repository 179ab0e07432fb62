-- Character strings in quotes, in zone files (RFC 1035, 5.1).
use Rattle.std.specs.Prelude.{ℕ, List, ◌++◌, flat_map, codes}
use Rattle.dns_rdata_zone.specs.Spellings.{escaped}

-- a character string in quotes
abbrev pub quoted : List ℕ → List ℕ
quoted s = codes "\"" ++ flat_map escaped s ++ codes "\""

-- strings, with a blank before each
abbrev pub spaced : List (List ℕ) → List ℕ
spaced strings = flat_map (λ s. codes " " ++ quoted s) strings
