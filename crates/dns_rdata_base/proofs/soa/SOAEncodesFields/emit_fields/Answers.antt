use Rattle.dns_names_wire.proofs.FieldWrites.{emits_then, exit_emit, stopped_second}
use Rattle.dns_rdata_base.proofs.soa.SOAEncodesFields.emit_fields.Goals as goal

pub returns-in_err-emit-2 : goal.returns-in_err-emit-2
returns-in_err-emit-2 c = record
    { emits = exit_emit _ _ c.from_residual-in_err-emit-2.ensures.1 (stopped_second c.in_err-emit-2.ensures.emits c.in_ok-emit.ensures.emits) }

pub returns : goal.returns
returns c = record
    { emits = emits_then _ _ _ _ c.in_ok-emit.ensures.emits (emits_then _ _ _ _ c.in_ok-emit-2.ensures.emits c.emit_numbers.ensures.emits) }
