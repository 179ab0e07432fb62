-- What a service binding feeds a hasher: equal records feed the same.
use Rattle.std.specs.Prelude.{◌≡◌, Bool, true, ◌&&◌, ◌++◌, map, nat_eq}
use Rattle.std.specs.{Cmp.first_so, Cmp.second_so, Cmp.unsigned_Decides, Cmp.Lexicographic.pointwise, Hash.HashWrites, Hash.items_Alike}
use Rattle.std.specs.Hash as fed
use Rattle.std.proofs.Common.{ap, ◌∙◌}
use Rattle.dns_fields.specs.{Comparing.name_eq, Comparing.name_fed, Equal.values_eq, Equal.key_eq, Equal.parameter_keys}
use Rattle.dns_names_wire.specs.contracts.name.comparing.NameHash.TheImpl.Laws as name_hash_laws
use Rattle.dns_rdata_base.specs.Numbered.{numbered_eq}
use Rattle.dns_rdata_service.specs.{SvcParamKey.key_number, SvcParamKey.key_variant, Parameters.Parameter, Parameters.own_parameter, OwnKeys.value_eq}
use Rattle.dns_rdata_service.specs.{OwnKeys.parameter_eq, OwnKeys.parameters_same, SVCB.svcb_key_shape, SVCB.svcb_keys, declared.svcb.SVCB.SVCB}
use Rattle.dns_rdata_service.specs.contracts.svcb.key.SvcParamKeyHash.TheImpl as key_hash
use Rattle.dns_rdata_service.specs.contracts.svcb.key.SvcParamKeyHash.TheImpl.Laws as key_hash_laws
use Rattle.dns_rdata_service.specs.contracts.svcb.value.SvcParamValueHash.TheImpl as value_hash
use Rattle.dns_rdata_service.specs.contracts.svcb.value.SvcParamValueHash.TheImpl.Laws as value_hash_laws

abbrev pub parameter_fed : Parameter → HashWrites
parameter_fed p = key_hash.ghosts.hash_input p.0 ++ value_hash.ghosts.hash_input p.1

-- priority, target and parameters
abbrev pub svcb_fed : SVCB → HashWrites
svcb_fed x = fed.u16 x.svc_priority ++ name_fed x.target_name ++ fed.slice parameter_fed x.svc_params

parameter_fed_same : (p q : Parameter) → parameter_eq p q ≡ true → parameter_fed p ≡ parameter_fed q
parameter_fed_same p q h =
    let keys =
    key_hash_laws.respects_eq-law p.0 q.0
    (first_so (numbered_eq key_number key_variant p.0 q.0) (value_eq p.1 q.1) h) in
    let values =
    value_hash_laws.respects_eq-law p.1 q.1
    (second_so (numbered_eq key_number key_variant p.0 q.0) (value_eq p.1 q.1) h) in
    ap (λ (f : HashWrites). f ++ value_hash.ghosts.hash_input p.1) keys
    ∙ ap (λ (f : HashWrites). key_hash.ghosts.hash_input q.0 ++ f) values

pub svcb_fed_same : (x y : SVCB) → values_eq svcb_key_shape (svcb_keys x) (svcb_keys y) ≡ true → svcb_fed x ≡ svcb_fed y
svcb_fed_same x y h =
    let P : Bool =
    pointwise key_eq (parameter_keys (map own_parameter x.svc_params))
    (parameter_keys (map own_parameter y.svc_params)) in
    let N : Bool = name_eq x.target_name y.target_name in
    let rest : N && (P && true) ≡ true = second_so (nat_eq x.svc_priority y.svc_priority) (N && (P && true)) h in
    let priorities : x.svc_priority ≡ y.svc_priority =
    (unsigned_Decides x.svc_priority y.svc_priority).0
    (first_so (nat_eq x.svc_priority y.svc_priority) (N && (P && true)) h) in
    let names : name_fed x.target_name ≡ name_fed y.target_name =
    name_hash_laws.respects_eq-law x.target_name y.target_name (first_so N (P && true) rest) in
    let same : pointwise parameter_eq x.svc_params y.svc_params ≡ true = parameters_same x.svc_params y.svc_params
    ∙ first_so P true (second_so N (P && true) rest) in
    let params : fed.slice parameter_fed x.svc_params ≡ fed.slice parameter_fed y.svc_params =
    (items_Alike (record { fed = parameter_fed_same })).fed x.svc_params y.svc_params same in
    ap (λ n. fed.u16 n ++ name_fed x.target_name ++ fed.slice parameter_fed x.svc_params) priorities
    ∙ ap (λ (f : HashWrites). fed.u16 y.svc_priority ++ f ++ fed.slice parameter_fed x.svc_params) names
    ∙ ap (λ (f : HashWrites). fed.u16 y.svc_priority ++ name_fed y.target_name ++ f) params
