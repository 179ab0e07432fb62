-- The tokens of service bindings (RFC 9460, 2.1).
use Rattle.std.specs.{Prelude.◌≡◌, Prelude.ℕ, Prelude.List, Prelude.[], Prelude.◌∷◌, Prelude.map, Prelude.Option, Prelude.None, List.AllZip}
use Rattle.dns_fields.specs.declared.Kind.{TheVariants.Parameters}
use Rattle.dns_tokens.specs.{Forms.TokenRow, Forms.token, Forms.number, Forms.name, Reads.TookTokens}
use Rattle.dns_rdata_service.specs.{Parameters.Parameter, Parameters.parameter_of, ParameterTokens.IsParameterToken, declared.svcb.SVCB.SVCB}
use Rattle.dns_rdata_service.specs.SVCB.{svcb_shape}

-- every further token is that of the parameter with the same index
abbrev pub these_parameters : List Parameter → TokenRow []
these_parameters ps = record { stand = λ vs tokens. AllZip IsParameterToken tokens ps }

-- every further token is that of a parameter, in any order; a parameter may come twice
abbrev pub parameter_tokens : TokenRow (Parameters ∷ [])
parameter_tokens = record
    { stand = λ vs tokens. (ps : List Parameter) × AllZip IsParameterToken tokens ps × (vs.0 ≡ map parameter_of ps) }

-- priority, target name as it is, parameters
abbrev pub svcb_tokens : TokenRow svcb_shape
svcb_tokens = token (number 2) (token (name None) parameter_tokens)

-- The tokens are those of this SVCB, in keys and values as a caller sees them: the number 7 is `Key 7` here.
abbrev pub AreTokensOf : {S I : Type 0} → (I → Option S → I → Type 0) → (S → List ℕ) → SVCB → I → Type 0
AreTokensOf gives text x s =
    TookTokens gives text (token (number 2) (token (name None) (these_parameters x.svc_params)))
    (x.svc_priority, (x.target_name, tt)) s
