use Rattle.std.proofs.{Common.arith, lemmas.Result.err_from_is_err_and}
use Rattle.dns_names_wire.proofs.Building.{error_map}
use Rattle.dns_rdata_policy.proofs.IssuerSteps.{pending_first, pending_step, pending_stop, pending_last}
use Rattle.dns_rdata_policy.proofs.caa.issuer.read_pairs.Goals as goal

pub pairs-init : goal.pairs-init
pairs-init c = rw c.new-pairs.ensures.items (pending_first _ _ _ c.cut_blanks.ensures)

pub returns-in_err-read_pair-clause-refused : goal.returns-in_err-read_pair-clause-refused
returns-in_err-read_pair-clause-refused c =
    let p = err_from_is_err_and c.from_residual.result c.from_residual.ensures.1 in
    rw (p.1, p.2) (error_map _ _ _ (λ none. pending_stop _ _ _ _ _ c.pairs.invariant (omega arith) c.cut_at.ensures none) c.in_err-read_pair.ensures.refused)

pub pairs-preserved : goal.pairs-preserved
pairs-preserved c = pending_step _ _ _ _ _ _ _ _ _ c.pairs.invariant (omega arith) c.cut_at.ensures c.in_ok-read_pair.ensures.read
    c.cut_blanks-in-pairs.ensures c.in_ok-push.ensures.items

pub returns-clause-read : goal.returns-clause-read
returns-clause-read c = pending_last _ _ _ c.pairs.invariant (omega arith)
