use Rattle.std.proofs.lemmas.Result.{err_from_is_err_and}
use Rattle.dns_rdata_policy.proofs.Issuers.{name_stop, parameters_stop, issuer_read, one_issuer, memory_alone}
use Rattle.dns_rdata_policy.proofs.caa.issuer.read_issuer.Goals as goal

pub returns-in_err-name : goal.returns-in_err-name
returns-in_err-name c =
    let p = err_from_is_err_and c.from_residual.result c.from_residual.ensures.1 in
    let refused = name_stop _ _ _ _ c.cut_at.ensures c.in_err-name.ensures.refused in
    rw (p.1, p.2) (record { read = tt; refused = refused; reads_back = memory_alone _ _ refused })

pub returns-in_err-pairs : goal.returns-in_err-pairs
returns-in_err-pairs c =
    let p = err_from_is_err_and c.from_residual-in_err-pairs.result c.from_residual-in_err-pairs.ensures.1 in
    let refused = parameters_stop _ _ _ _ _ c.cut_at.ensures c.in_ok-name.ensures.read c.in_err-pairs.ensures.refused in
    rw (p.1, p.2) (record { read = tt; refused = refused; reads_back = memory_alone _ _ refused })

pub returns-clause-reads_back : goal.returns-clause-reads_back
returns-clause-reads_back c = λ name xs. one_issuer _ _ name _ xs
    (issuer_read _ _ _ _ _ c.cut_at.ensures c.in_ok-name.ensures.read c.in_ok-pairs.ensures.read)
