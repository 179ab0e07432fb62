use Rattle.std.proofs.{Common.arith, Common.◌≡◌, Common.[], Common.◌∙◌, lemmas.List.nil_from_length}
use Rattle.dns_tokens.proofs.ListSteps.{run_step, comma_step, last_some}
use Rattle.dns_tokens.proofs.text.segments.next_segment.Goals as goal

pub returns-then-more-eq0-clause-segment : goal.returns-then-more-eq0-clause-segment
returns-then-more-eq0-clause-segment c =
    let ended : c.split.result.1.now ≡ [] = nil_from_length c.split.result.1.now (omega arith) in
    run_step [] c.split.ensures.span ∙ rw ended (last_some c.split.result.0.now (omega arith))

pub returns-then-octet-eq44-clause-segment : goal.returns-then-octet-eq44-clause-segment
returns-then-octet-eq44-clause-segment c =
    run_step [] c.split.ensures.span ∙ comma_step c.split.result.0.now c.split.result.1.now _ (omega arith) (omega arith) c.behind.ensures
