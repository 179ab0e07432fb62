use Rattle.std.proofs.{Common.◌∙◌, Common.map, Common.arith, lemmas.List.length-map}
use Rattle.dns_fields.specs.Equal.{key_cmp, parameter_key, parameter_keys}
use Rattle.dns_rdata_service.specs.Parameters.{own_parameter}
use Rattle.dns_rdata_service.proofs.SvcbFronts.{by_lengths}
use Rattle.dns_rdata_service.proofs.field_order.parameters_cmp.Goals as goal

pub returns : goal.returns
returns c =
    c.cmp.ensures
    ∙ by_lengths key_cmp (λ ps. parameter_keys (map own_parameter ps)) (λ ps. length-map (map own_parameter ps) parameter_key ∙ length-map ps own_parameter)
    c.args.a.now c.args.b.now c.loop-i.i c.min-shorter.result c.min-shorter.ensures c.loop-i-test.false (omega arith)
    ∙ c.loop-i.invariant
