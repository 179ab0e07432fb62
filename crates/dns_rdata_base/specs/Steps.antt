-- The fields at which the steps of records begin.
use Rattle.std.specs.{Prelude.ℕ, Prelude.zero, Prelude.suc, Prelude.List, Prelude.[], Prelude.◌∷◌, Prelude.drop, List.flat_map}
use Rattle.dns_fields.specs.Tlvs.{string}
use Rattle.dns_canonical.specs.Steps.{LeftAt}

-- machine, operating system
abbrev pub hinfo_begins : List ℕ
hinfo_begins = 0 ∷ 1 ∷ []

-- mname, rname, the numbers
abbrev pub soa_begins : List ℕ
soa_begins = 0 ∷ 1 ∷ 2 ∷ []

-- numbers and flags, services, regexp, replacement
abbrev pub naptr_begins : List ℕ
naptr_begins = 0 ∷ 3 ∷ 4 ∷ 5 ∷ []

-- the strings from one on: each is a part
abbrev pub texts_left : List (List ℕ) → LeftAt
texts_left ss zero i j = flat_map string (drop i ss)
texts_left ss (suc n) i j = []
