-- The steps of records with sets of types, and of CAA.
use Rattle.std.specs.{Prelude.ℕ, Prelude.zero, Prelude.suc, Prelude.List, Prelude.[], Prelude.◌∷◌, Prelude.length, Prelude.drop, List.flat_map}
use Rattle.dns_fields.specs.{Bitmaps.block, Bitmaps.minimal, Fields.canonical}
use Rattle.dns_canonical.specs.Steps.{LeftAt}
use Rattle.dns_rdata_policy.specs.{CSYNC.csync_shape, CSYNC.csync_fields, declared.csync.CSYNC.CSYNC}

-- flags and tag, the value
abbrev pub caa_begins : List ℕ
caa_begins = 0 ∷ 2 ∷ []

-- serial and flags, and then the windows of the types from one of them on
abbrev pub csync_left : CSYNC → LeftAt
csync_left x zero i j = canonical csync_shape (csync_fields x)
csync_left x (suc zero) i j = flat_map block (minimal (drop i x.type_bit_maps))
csync_left x (suc (suc n)) i j = []

-- how many windows are not begun
abbrev pub csync_windows : CSYNC → ℕ → ℕ → ℕ
csync_windows x zero i = length (minimal x.type_bit_maps)
csync_windows x (suc zero) i = length (minimal (drop i x.type_bit_maps))
csync_windows x (suc (suc n)) i = 0
