-- The parameters of a service as fields (RFC 9460, 2.2).
use Rattle.std.specs.Prelude.{◌≡◌, ℕ, false, List, [], ◌∷◌, map, Result}
use Rattle.dns_types.specs.declared.error.ProtoError.{ProtoError}
use Rattle.dns_fields.specs.Tlvs.{Numbered, ParameterValue, Alpn, ParameterFits, tlv, as_tlv, parameter_octets}
use Rattle.dns_names_wire.specs.{State.Writing, Terms.EmitsOctets}
use Rattle.dns_rdata_service.specs.{declared.svcb.key.SvcParamKey.SvcParamKey, declared.svcb.value.SvcParamValue.SvcParamValue}
use Rattle.dns_rdata_service.specs.SvcParamKey.{key_number, key_variant, key_of}
use Rattle.dns_rdata_service.specs.SvcParamValue.{value_of, value_from, value_key, fits_value}
pub use Rattle.dns_check.specs.Parameters.{IsAbove}

-- a key and its value
abbrev pub Parameter : Type 0
Parameter = SvcParamKey × SvcParamValue

abbrev pub parameter_of : Parameter → Numbered ParameterValue
parameter_of p = (key_number p.0, value_of p.1)

-- the parameter that a number and a value of the grammar give
abbrev pub parameter_from : Numbered ParameterValue → Parameter
parameter_from x = (key_of x.0, value_from x.0 x.1)

-- What is compared: the key's number, then its variant, the value's variant, and what the value holds, as lists. They
-- are used like names of protocols, whose lists are compared as they are.
abbrev pub own_parameter : Parameter → Numbered ParameterValue
own_parameter p = (key_number p.0, Alpn ((key_variant p.0 ∷ []) ∷ value_key p.1))

-- keys and values are those that their fields give
abbrev pub AreRead : List Parameter → Type 0
AreRead ps = ps ≡ map parameter_from (map parameter_of ps)

-- appends a key's number, the length of a value and the value
abbrev pub EmitsParameter : Numbered ParameterValue → Result (Unit {0}) ProtoError → Writing → Writing → Type 0
EmitsParameter x r old new =
    EmitsOctets (ParameterFits x) (fits_value x.1 ≡ false) (tlv (as_tlv parameter_octets x)) r old new
