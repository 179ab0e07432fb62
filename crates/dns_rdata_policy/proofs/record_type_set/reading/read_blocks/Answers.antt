use Rattle.std.proofs.{Common.inl, Common.inr, Common.⊎_elim, lemmas.Result.err_from_is_err_and}
use Rattle.dns_rdata_policy.proofs.Marks.{left_less, no_blocks}
use Rattle.dns_rdata_policy.proofs.record_type_set.reading.read_blocks.Goals as goal

pub loop-rest-preserved : goal.loop-rest-preserved
loop-rest-preserved c = let g = c.in_ok-rest.ensures.read in left_less c.loop-rest.invariant g g.holds

pub returns-in_err-rest-clause-refused : goal.returns-in_err-rest-clause-refused
returns-in_err-rest-clause-refused c =
    let p = err_from_is_err_and c.from_residual-in_err-rest.result c.from_residual-in_err-rest.ensures.1 in
    rw (p.1, p.2) (⊎_elim (λ m. inl m) (λ b. inr (b.0, no_blocks c.loop-rest-test.true c.loop-rest.invariant b.1)) c.in_err-rest.ensures.refused)
