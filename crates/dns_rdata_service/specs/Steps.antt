-- The canonical octets of service bindings, step by step: priority and target; then for each parameter its key, its
-- length and a value that is one run of octets; or, after key and length, the items of a list one by one.
use Rattle.std.specs.Prelude.{◌≡◌, ℕ, zero, suc, ◌+◌, ◌<◌, ◌&&◌, nat_le, Bool, Option, Some, None, List, [], ◌∷◌, ◌++◌, length, drop, map, slice_get}
use Rattle.std.specs.{List.flat_map, List.list_all, Prelude.true, Prelude.false, Int.bytes_high_first}
use Rattle.dns_fields.specs.Tlvs.{string, tlvs, ParameterValue, Mandatory, Alpn, Port, Ipv4Hint, Ipv6Hint, Opaque, parameter_octets}
use Rattle.dns_fields.specs.{Tlvs.parameter_emittable, Tlvs.parameters_emittable, Fields.canonical, Fields.parameter_tlvs}
use Rattle.dns_canonical.specs.{declared.step.Step.Step, Steps.LeftAt}
use Rattle.dns_rdata_service.specs.{SvcParamValue.value_of, SvcParamValue.fits_value, Parameters.Parameter, Parameters.parameter_of}
use Rattle.dns_rdata_service.specs.{SVCB.svcb_shape, SVCB.svcb_fields, declared.svcb.SVCB.SVCB, SvcParamKey.key_number}

-- the octets of a value that is one run of octets
abbrev pub value_front : ParameterValue → List ℕ
value_front (Port n) = bytes_high_first 2 n
value_front (Opaque s) = s
value_front v = []

-- the octets of each item of a value that is a list
abbrev pub value_items : ParameterValue → List (List ℕ)
value_items (Mandatory keys) = map (bytes_high_first 2) keys
value_items (Alpn names) = map string names
value_items (Ipv4Hint addresses) = addresses
value_items (Ipv6Hint addresses) = addresses
value_items v = []

-- key and length
abbrev pub parameter_head : Parameter → List ℕ
parameter_head p = bytes_high_first 2 (key_number p.0) ++ bytes_high_first 2 (length (parameter_octets (value_of p.1)))

-- the parameters from index i on
abbrev pub parameters_from : List Parameter → ℕ → List ℕ
parameters_from ps i = tlvs (parameter_tlvs (map parameter_of (drop i ps)))

-- the items of a parameter, if there is one
abbrev pub items_of : Option Parameter → List (List ℕ)
items_of None = []
items_of (Some p) = value_items (value_of p.1)

-- from the head of parameter i on, or from item j of its value on
abbrev pub parameters_left : List Parameter → ℕ → ℕ → List ℕ
parameters_left ps i zero = parameters_from ps i
parameters_left ps i (suc j) = flat_map (λ s. s) (drop j (items_of (slice_get ps i))) ++ parameters_from ps (i + 1)

abbrev pub svcb_left : SVCB → LeftAt
svcb_left x zero i j = canonical svcb_shape (svcb_fields x)
svcb_left x (suc zero) i j = parameters_left x.svc_params i j
svcb_left x (suc (suc n)) i j = []

-- the parameters can be emitted
abbrev pub AreEmittable : List Parameter → Type 0
AreEmittable ps = parameters_emittable (map parameter_of ps) ≡ true

-- each value can be emitted
abbrev pub each_fits : List Parameter → Bool
each_fits ps =
    list_all (λ x. nat_le (length (parameter_octets x.1)) 65535 && parameter_emittable x.1) (map parameter_of ps)

-- how many octets a value has, if it can be emitted
abbrev pub IsSizeOf : ParameterValue → Option ℕ → Type 0
IsSizeOf v None = fits_value v ≡ false
IsSizeOf v (Some n) = (fits_value v ≡ true) × (n ≡ length (parameter_octets v))

-- item j, in a head and a tail, if there is one
abbrev pub GivesItem : List (List ℕ) → ℕ → List ℕ → Option (List ℕ) → Type 0
GivesItem items j head None = (drop j items ≡ []) × (head ≡ [])
GivesItem items j head (Some tail) = (drop j items ≡ (head ++ tail) ∷ drop (j + 1) items) × (0 < length (head ++ tail))

-- the next step of the parameters
pub record NextParameter (ps : List Parameter) (i j : ℕ) (head : List ℕ) (s : Step) : Type 0 where
  pub octets : parameters_left ps i j ≡ (head ++ s.tail) ++ parameters_left ps s.part s.item
  pub step : s.step ≡ 1
  pub some : 0 < length (head ++ s.tail)

abbrev pub GivesParameter : List Parameter → ℕ → ℕ → List ℕ → Option Step → Type 0
GivesParameter ps i j head None = (parameters_left ps i j ≡ []) × (head ≡ [])
GivesParameter ps i j head (Some s) = NextParameter ps i j head s
