use Rattle.std.proofs.lemmas.Result.{err_from_is_err_and}
use Rattle.dns_names_wire.proofs.FieldWrites.{stopped_then, stopped_first}
use Rattle.dns_rdata_policy.proofs.caa.CAA.emit_in_order.Goals as goal

pub returns-in_err-emit_character_data : goal.returns-in_err-emit_character_data
returns-in_err-emit_character_data c =
    let p = err_from_is_err_and c.from_residual-in_err-emit_character_data.result c.from_residual-in_err-emit_character_data.ensures.1 in
    rw (p.1, p.2) (stopped_then (rw c.flags.ensures at c.in_ok-emit_u8.ensures.emits)
    (stopped_first (rw c.as_slice.ensures.value at c.in_err-emit_character_data.ensures.emits)))

pub returns-in_err-emit_vec : goal.returns-in_err-emit_vec
returns-in_err-emit_vec c =
    let p = err_from_is_err_and c.from_residual-in_err-emit_vec.result c.from_residual-in_err-emit_vec.ensures.1 in
    rw (p.1, p.2) (stopped_then (rw c.flags.ensures at c.in_ok-emit_u8.ensures.emits)
    (stopped_then (rw c.as_slice.ensures.value at c.in_ok-emit_character_data.ensures.emits)
    (stopped_first (rw c.as_slice-2.ensures.value at c.in_err-emit_vec.ensures.emits))))
