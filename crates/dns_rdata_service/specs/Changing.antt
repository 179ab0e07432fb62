-- Parameters inserted into a list by the numbers of their keys, or removed from it (RFC 9460, 2.2).
use Rattle.std.specs.Prelude.{ℕ, List, [], ◌∷◌, if◌then◌else◌, ◌==◌, nat_lt, map, filter, not}
use Rattle.dns_fields.specs.Tlvs.{Rising}
use Rattle.dns_rdata_service.specs.{SVCB.number_of_parameter, Parameters.Parameter, Parameters.parameter_of}

-- before the first parameter whose key has a greater number, or instead of the first whose key has the same number
abbrev pub inserted : Parameter → List Parameter → List Parameter
inserted p [] = p ∷ []
inserted p (q ∷ qs) = if nat_lt (number_of_parameter p) (number_of_parameter q) then p ∷ (q ∷ qs)
    else (if number_of_parameter p == number_of_parameter q then p ∷ qs else q ∷ inserted p qs)

-- without the parameters whose keys have this number
abbrev pub removed : ℕ → List Parameter → List Parameter
removed n ps = filter (λ p. not (number_of_parameter p == n)) ps

-- the numbers of the keys strictly rise
abbrev pub RisesIn : List Parameter → Type 0
RisesIn ps = Rising (map parameter_of ps)
