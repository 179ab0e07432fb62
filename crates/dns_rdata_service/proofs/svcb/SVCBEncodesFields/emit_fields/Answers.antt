use Rattle.dns_names_wire.proofs.FieldWrites.{exit_emit, stopped_first, stopped_then}
use Rattle.dns_rdata_service.proofs.svcb.SVCBEncodesFields.emit_fields.Goals as goal

pub returns-in_err-emit : goal.returns-in_err-emit
returns-in_err-emit c = record
    { emits = exit_emit _ _ c.from_residual-in_err-emit.ensures.1 (stopped_then c.in_ok-emit_u16.ensures.emits (stopped_first c.in_err-emit.ensures.emits)) }

pub returns-in_err-emit_parameters : goal.returns-in_err-emit_parameters
returns-in_err-emit_parameters c = record {
  emits = exit_emit _ _ c.from_residual-in_err-emit_parameters.ensures.1 (stopped_then c.in_ok-emit_u16.ensures.emits
      (stopped_then c.in_ok-emit.ensures.emits (stopped_first (rw c.as_slice.ensures at c.in_err-emit_parameters.ensures))));
}
