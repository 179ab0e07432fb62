use Rattle.std.proofs.{Common.List, Common.ℕ, Common.Ok, Common.Err, Common.arith, Common.subst, lemmas.List.take_all}
use Rattle.dns_fields.specs.Tlvs.{Alpn}
use Rattle.dns_rdata_service.specs.Hints.{EmitsEach}
use Rattle.dns_rdata_service.proofs.EachEmits.{emits_next, emits_refused, EmitsName, names_emit, value_extends}
use Rattle.dns_rdata_service.proofs.Splits.{is_err}
use Rattle.dns_rdata_service.proofs.svcb.alpn.AlpnBinEncodable.emit.Goals as goal

pub returns-in_err-emit_character_data : goal.returns-in_err-emit_character_data
returns-in_err-emit_character_data c =
    let names = c.as_slice-name-items.result.now in
    let e = c.in_err-emit_character_data.field-0.0 in
    let all = emits_refused EmitsName c.loop-name.name-index names c.name-item.result c.name-item.result e c.args.encoder.now c.loop-name.encoder
    c.emit_character_data.new.self c.name-item.is (omega arith) c.loop-name.invariant
    (rw c.as_slice.ensures.value at c.in_err-emit_character_data.ensures.emits) in
    let whole = names_emit names (Err e) _ _ (rw c.as_slice-name-items.ensures (omega arith)) all in
    rw (is_err _ _ c.from_residual.ensures.1, ← c.as_slice-name-items.ensures) (record { emits = whole; extends = value_extends (Alpn names) (Err e) _ _ whole })

pub loop-name-preserved : goal.loop-name-preserved
loop-name-preserved c = emits_next EmitsName c.loop-name.name-index c.as_slice-name-items.result.now c.name-item.result c.name-item.result
    c.args.encoder.now c.loop-name.encoder c.emit_character_data.new.self c.name-item.is (omega arith) c.loop-name.invariant
    (rw c.as_slice.ensures.value at c.in_ok-emit_character_data.ensures.emits)

pub returns : goal.returns
returns c =
    let names = c.as_slice-name-items.result.now in
    let all = subst (λ (ss : List (List ℕ)). EmitsEach EmitsName ss (Ok tt) c.args.encoder.now c.loop-name.encoder)
    (take_all c.loop-name.name-index names (omega arith)) c.loop-name.invariant in
    let whole = names_emit names (Ok tt) _ _ (rw c.as_slice-name-items.ensures (omega arith)) all in
    rw (← c.as_slice-name-items.ensures) (record { emits = whole; extends = value_extends (Alpn names) (Ok tt) _ _ whole })
