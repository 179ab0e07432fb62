use Rattle.std.proofs.{lemmas.Result.err_from_is_err_and, Common.arith}
use Rattle.dns_rdata_options.proofs.Pairs.{stopped_front}
use Rattle.dns_rdata_options.proofs.opt.emit_pair.Goals as goal

pub returns-in_err-emit_vec-clause-emits : goal.returns-in_err-emit_vec-clause-emits
returns-in_err-emit_vec-clause-emits c =
    let p = err_from_is_err_and c.from_residual.result c.from_residual.ensures.1 in
    rw (p.1, p.2) (stopped_front _ _ (rw (c.to_be_bytes.ensures, c.to_be_bytes-2.ensures) at c.in_err-emit_vec.ensures.emits) (omega arith))
