use Rattle.std.proofs.{Common.arith, lemmas.Result.err_from_is_err_and}
use Rattle.dns_rdata_base.proofs.a.ABinDecodable.read.Goals as goal

pub returns-in_err-read_in_steps-clause-stopped : goal.returns-in_err-read_in_steps-clause-stopped
returns-in_err-read_in_steps-clause-stopped c = let p = err_from_is_err_and c.from_residual.result c.from_residual.ensures.1 in
    rw p.1 (omega (arith, c.in_err-read_in_steps.ensures.stopped, c.in_err-read_in_steps.ensures.inside))
