use Rattle.std.proofs.{Common.◌≡◌, Common.◌∙◌, Common.List, Common.map, Common.arith, Common.subst, lemmas.Result.err_from_is_err_and}
use Rattle.dns_fields.specs.declared.Kind.{TheVariants.Options}
use Rattle.dns_names_wire.specs.Terms.{StoppedField}
use Rattle.dns_names_wire.proofs.FieldWrites.{stopped_first}
use Rattle.dns_rdata_options.specs.OPT.{Pair, pair_value}
use Rattle.dns_rdata_options.proofs.Pairs.{more_pairs, stopped_pair}
use Rattle.dns_rdata_options.proofs.opt.OPTBinEncodable.emit.Goals as goal

pub returns-in_err-emit_pair : goal.returns-in_err-emit_pair
returns-in_err-emit_pair c =
    let p = err_from_is_err_and c.from_residual.result c.from_residual.ensures.1 in
    let xs = c.as_slice-pair-items.result.now in
    let same : xs ≡ c.args.self.now = c.as_slice-pair-items.ensures.value ∙ c.self.view_is in
    let stopped = stopped_pair xs c.loop-pair.pair-index c.pair-item.result c.pair-item.is (omega arith) c.emit_pair.ensures.small c.loop-pair.invariant
    c.in_err-emit_pair.ensures.emits in
    let e = stopped_first (subst (λ (ys : List Pair). StoppedField c.in_err-emit_pair.field-0.0 c.args.encoder.now Options (map pair_value ys)
    c.emit_pair.new.encoder) same stopped) in
    rw (p.1, p.2) (record { emits = e; extends = e.extends })

pub loop-pair-preserved : goal.loop-pair-preserved
loop-pair-preserved c = more_pairs c.as_slice-pair-items.result.now c.loop-pair.pair-index c.pair-item.result c.pair-item.is (omega arith)
    c.loop-pair.invariant c.in_ok-emit_pair.ensures.emits
