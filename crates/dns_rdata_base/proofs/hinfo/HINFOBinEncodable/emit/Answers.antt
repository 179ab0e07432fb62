use Rattle.std.proofs.lemmas.Result.{err_from_is_err_and}
use Rattle.dns_names_wire.proofs.FieldWrites.{stopped_then, stopped_first}
use Rattle.dns_rdata_base.proofs.hinfo.HINFOBinEncodable.emit.Goals as goal

pub returns-in_err-emit_character_data-2 : goal.returns-in_err-emit_character_data-2
returns-in_err-emit_character_data-2 c =
    let p = err_from_is_err_and c.from_residual-in_err-emit_character_data-2.result c.from_residual-in_err-emit_character_data-2.ensures.1 in
    let e = stopped_then (rw c.as_slice.ensures.value at c.in_ok-emit_character_data.ensures.emits)
    (stopped_first (rw c.as_slice-2.ensures.value at c.in_err-emit_character_data-2.ensures.emits)) in
    rw (p.1, p.2) (record { emits = e; extends = e.extends })
