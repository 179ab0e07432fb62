-- The keys that parameters are compared by tell their fields.
use Rattle.std.proofs.Common.{◌≡◌, List, [], ◌∷◌, map, drop, get_or, refl, sym, ap, ◌∙◌, arith}
use Rattle.dns_fields.specs.Tlvs.{Mandatory}
use Rattle.dns_rdata_service.specs.{SvcParamKey.key_number, Parameters.Parameter, Parameters.parameter_of, Parameters.own_parameter}
use Rattle.dns_rdata_service.specs.{declared.svcb.key.SvcParamKey.SvcParamKey, declared.svcb.value.SvcParamValue.SvcParamValue}
use Rattle.dns_rdata_service.specs.SvcParamValue.{key_numbers, value_key, value_of}
use Rattle.dns_rdata_service.specs.declared.svcb.value.SvcParamValue.TheVariants as variants

firsts : (ks : List SvcParamKey) → map (λ l. get_or l 0 0) (map key_numbers ks) ≡ map key_number ks
firsts [] = refl
firsts (k ∷ ks) = ap (λ l. key_number k ∷ l) (firsts ks)

pub value_given : (v w : SvcParamValue) → value_key v ≡ value_key w → value_of v ≡ value_of w
value_given (variants.Mandatory x) (variants.Mandatory y) h = ap Mandatory (sym (firsts x.0) ∙ ap (λ l. map (λ s. get_or s 0 0) (drop 1 l)) h ∙ firsts y.0)
value_given v w h = grind (arith, h)

pub own_fields : (ps qs : List Parameter) → map own_parameter ps ≡ map own_parameter qs → map parameter_of ps ≡ map parameter_of qs
own_fields [] [] h = refl
own_fields [] (q ∷ qs) h = cc h
own_fields (p ∷ ps) [] h = cc h
own_fields (p ∷ ps) (q ∷ qs) h =
    let one : own_parameter p ≡ own_parameter q = cc h in
    let keys : value_key p.1 ≡ value_key q.1 = cc (ap (λ x. x.1) one) in
    let rest : map own_parameter ps ≡ map own_parameter qs = cc h in
    (λ i. ((one i).0, value_given p.1 q.1 keys i) ∷ own_fields ps qs rest i)
