-- The orders of parameters: by their fields, and by their octets.
use Rattle.std.specs.{Prelude.ℕ, Prelude.◌≡◌, Prelude.List, Prelude.◌++◌, Prelude.length, Ordering.nat_cmp, Ordering.ordering_then, List.flat_map}
use Rattle.std.specs.{declared.cmp.Ordering.Ordering, Cmp.Lexicographic.slice_cmp, Int.bytes_high_first}
use Rattle.dns_fields.specs.{Tlvs.tlv, Tlvs.as_tlv, Tlvs.parameter_octets, Equal.key_cmp, Equal.parameter_key}
use Rattle.dns_rdata_service.specs.Parameters.{Parameter, own_parameter, parameter_of}

-- by the keys that parameters are compared by
abbrev pub parameter_order : Parameter → Parameter → Ordering
parameter_order p q = key_cmp (parameter_key (own_parameter p)) (parameter_key (own_parameter q))

-- they are ordered so whatever follows; if they tie, what follows decides
abbrev pub OrderFirst : Ordering → List ℕ → List ℕ → Type 0
OrderFirst o s t = (x y : List ℕ) → slice_cmp nat_cmp (s ++ x) (t ++ y) ≡ ordering_then o (slice_cmp nat_cmp x y)

-- a parameter's key, its length and its value
abbrev pub parameter_octets_of : Parameter → List ℕ
parameter_octets_of p = tlv (as_tlv parameter_octets (parameter_of p))

-- items one after the other
abbrev pub joined : List (List ℕ) → List ℕ
joined ss = flat_map (λ s. s) ss

-- a length in two octets, and the octets
abbrev pub behind_length : List ℕ → List ℕ
behind_length s = bytes_high_first 2 (length s) ++ s
