use Rattle.std.proofs.{Common.◌∙◌, Common.map, Common.arith, lemmas.List.length-map}
use Rattle.std.specs.{Cmp.Lexicographic.slice_cmp, Ordering.nat_cmp}
use Rattle.dns_rdata_service.proofs.SvcbFronts.{by_lengths}
use Rattle.dns_rdata_service.proofs.hints.hints_cmp.Goals as goal

pub returns : goal.returns
returns g c =
    c.cmp.ensures
    ∙ by_lengths (slice_cmp nat_cmp) (map g.T.Address.octets) (λ xs. length-map xs g.T.Address.octets) c.args.a.now c.args.b.now c.loop-i.i
    c.min-shorter.result c.min-shorter.ensures c.loop-i-test.false (omega arith)
    ∙ c.loop-i.invariant
