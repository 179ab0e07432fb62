use Rattle.std.proofs.Common.{arith, inl, inr, sym, ◌∙◌}
use Rattle.dns_zone_tokens.proofs.TokenSteps.{run_taken}
use Rattle.dns_zone_tokens.proofs.tokens.run_len.Goals.{then-at-text-via-then-at-text, then-at-text-via-else-at-text+then-ends_run}
use Rattle.dns_zone_tokens.proofs.tokens.run_len.Goals as goal

pub returns-then-at-text-clause-token : goal.returns-then-at-text-clause-token
returns-then-at-text-clause-token c =
    run_taken c.args.text.now c.quiet_run_len-at.result c.quiet_run_len-at.ensures.within c.quiet_run_len-at.ensures.quiet
    (elim c.then-at-text.branch [
      | then-at-text-via-then-at-text w ↦ inl (omega arith)
      | then-at-text-via-else-at-text+then-ends_run w ↦ inr (sym w.ends_run.ensures ∙ w.if-ends_run.true)
    ])
