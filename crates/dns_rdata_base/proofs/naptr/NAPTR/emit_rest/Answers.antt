use Rattle.dns_names_wire.proofs.FieldWrites.{exit_emit, stopped_then, stopped_first}
use Rattle.dns_rdata_base.proofs.naptr.NAPTR.emit_rest.Goals as goal

pub returns-in_err-emit_character_data-2 : goal.returns-in_err-emit_character_data-2
returns-in_err-emit_character_data-2 c = record {
  emits = exit_emit _ _ c.from_residual-in_err-emit_character_data-2.ensures.1
      (stopped_then (rw c.as_slice.ensures.value at c.in_ok-emit_character_data.ensures.emits)
      (stopped_first (rw c.as_slice-2.ensures.value at c.in_err-emit_character_data-2.ensures.emits)));
}

pub returns-in_err-emit_character_data-3 : goal.returns-in_err-emit_character_data-3
returns-in_err-emit_character_data-3 c = record {
  emits = exit_emit _ _ c.from_residual-in_err-emit_character_data-3.ensures.1
      (stopped_then (rw c.as_slice.ensures.value at c.in_ok-emit_character_data.ensures.emits)
      (stopped_then (rw c.as_slice-2.ensures.value at c.in_ok-emit_character_data-2.ensures.emits)
      (stopped_first (rw c.as_slice-3.ensures.value at c.in_err-emit_character_data-3.ensures.emits))));
}

pub returns-in_err-emit : goal.returns-in_err-emit
returns-in_err-emit c = record {
  emits = exit_emit _ _ c.from_residual-in_err-emit.ensures.1
      (stopped_then (rw c.as_slice.ensures.value at c.in_ok-emit_character_data.ensures.emits)
      (stopped_then (rw c.as_slice-2.ensures.value at c.in_ok-emit_character_data-2.ensures.emits)
      (stopped_then (rw c.as_slice-3.ensures.value at c.in_ok-emit_character_data-3.ensures.emits) (stopped_first c.in_err-emit.ensures.emits))));
}
