use Rattle.std.proofs.{lemmas.Result.err_from_is_err_and, Common.arith, Common.refl}
use Rattle.dns_rdata_options.proofs.Pairs.{stopped_front, stopped_two}
use Rattle.dns_rdata_options.proofs.opt.subnet.emit_parts.Goals as goal

pub returns-in_err-emit_vec : goal.returns-in_err-emit_vec
returns-in_err-emit_vec c =
    let p = err_from_is_err_and c.from_residual.result c.from_residual.ensures.1 in
    rw (p.1, p.2) (stopped_front _ _ (rw c.to_be_bytes.ensures at c.in_err-emit_vec.ensures.emits) (omega arith))

pub returns-in_err-emit_vec-2 : goal.returns-in_err-emit_vec-2
returns-in_err-emit_vec-2 c =
    let p = err_from_is_err_and c.from_residual-in_err-emit_vec-2.result c.from_residual-in_err-emit_vec-2.ensures.1 in
    rw (p.1, p.2) (stopped_two _ _ _ (rw c.to_be_bytes.ensures at c.in_ok-emit_vec.ensures.emits) c.in_err-emit_vec-2.ensures.emits refl)
