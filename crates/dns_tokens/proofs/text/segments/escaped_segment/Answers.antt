use Rattle.std.proofs.Common.{arith, ◌≤◌, ◌<◌, ◌++◌, ◌∙◌, sym, get_or, length}
use Rattle.std.specs.String.{string_bytes}
use Rattle.dns_tokens.proofs.ListSteps.{shorter, run_step, comma_step, kept_step, skipped_step, is_slash}
use Rattle.dns_tokens.proofs.text.segments.escaped_segment.Goals.{else-more-gt1-via-then-more-gt1+else-octet-lt128, else-more-gt1-via-else-more-gt1}
use Rattle.dns_tokens.proofs.text.segments.escaped_segment.Goals as goal

pub runs-preserved-then-more-eq0 : goal.runs-preserved-then-more-eq0
runs-preserved-then-more-eq0 c = (
  rw c.in_ok-push_str.ensures.bytes (sym (run_step (string_bytes c.runs.segment) c.split.ensures.span) ∙ c.runs.invariant.0),
  c.split.ensures.utf8,
  omega arith,
)

pub returns-then-octet-eq44-clause-segment : goal.returns-then-octet-eq44-clause-segment
returns-then-octet-eq44-clause-segment c =
    rw c.in_ok-push_str.ensures.bytes (sym c.runs.invariant.0 ∙ (run_step (string_bytes c.runs.segment) c.split.ensures.span
    ∙ comma_step (string_bytes c.runs.segment ++ c.split.result.0.now) c.split.result.1.now _ (omega arith) (omega arith) c.behind.ensures))

pub runs-preserved-then-octet-lt128 : goal.runs-preserved-then-octet-lt128
runs-preserved-then-octet-lt128 c =
    let slash = is_slash c.split.result.1.now c.split.ensures.span (omega arith) (omega arith) in
    let kept = kept_step (string_bytes c.runs.segment ++ c.split.result.0.now) c.split.result.1.now _ (omega arith) slash c.octet-then-octet-lt128.ensures (omega arith)
    c.behind-rest.ensures in (
      rw (c.in_ok-push.ensures.bytes, c.in_ok-push_str.ensures.bytes)
          (sym (run_step (string_bytes c.runs.segment) c.split.ensures.span ∙ kept) ∙ c.runs.invariant.0),
      c.behind-rest.utf8,
      shorter 2 c.split.ensures.span c.behind-rest.ensures c.runs.invariant.2,
    )

pub runs-preserved : goal.runs-preserved
runs-preserved c =
    let slash = is_slash c.split.result.1.now c.split.ensures.span (omega arith) (omega arith) in
    let high : 1 < length c.split.result.1.now → 128 ≤ get_or c.split.result.1.now 1 0 = λ more. elim c.else-more-gt1.branch [
      | else-more-gt1-via-then-more-gt1+else-octet-lt128 w ↦ omega arith
      | else-more-gt1-via-else-more-gt1 w ↦ absurd (omega arith)
    ] in
    let skipped = skipped_step (string_bytes c.runs.segment ++ c.split.result.0.now) c.split.result.1.now _ slash high c.behind-rest-else-more-gt1.ensures in (
      rw c.in_ok-push_str.ensures.bytes (sym (run_step (string_bytes c.runs.segment) c.split.ensures.span ∙ skipped) ∙ c.runs.invariant.0),
      c.behind-rest-else-more-gt1.utf8,
      shorter 1 c.split.ensures.span c.behind-rest-else-more-gt1.ensures c.runs.invariant.2,
    )
