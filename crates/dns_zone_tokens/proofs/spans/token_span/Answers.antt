use Rattle.std.proofs.Common.{◌≡◌, ℕ, length, sym, ap, subst, arith}
use Rattle.dns_zone_tokens.specs.Spans.{lefts_at}
use Rattle.dns_zone_tokens.proofs.SpanSteps.{Passed, none_passed, one_more, none_there, one_there}
use Rattle.dns_zone_tokens.proofs.spans.token_span.Goals as goal

pub loop-init : goal.loop-init
loop-init c = record {
  few = omega (arith, ap length c.new-tokens.ensures.text);
  passed = none_passed c.args.text.now (lefts_at c.new-tokens.result) c.new-tokens.ensures.left;
}

pub loop-preserved : goal.loop-preserved
loop-preserved c = record {
  few = omega (arith, c.loop.invariant.few, c.next_left.ensures.shorter);
  passed = one_more c.args.text.now c.loop.counter c.in_ok-_earlier._earlier (lefts_at c.loop.tokens) (lefts_at c.next_left.new.self) c.loop.invariant.passed
      c.in_ok-_earlier.ensures.some;
}

pub returns-in_err-_earlier-clause-span : goal.returns-in_err-_earlier-clause-span
returns-in_err-_earlier-clause-span c =
    rw c.from_residual.ensures (sym (none_there c.args.text.now c.loop.counter c.args.index (lefts_at c.loop.tokens) c.loop.invariant.passed (omega arith)
    c.in_err-_earlier.ensures.none))

pub returns-in_err-start-clause-span : goal.returns-in_err-start-clause-span
returns-in_err-start-clause-span c =
    rw c.from_residual-in_err-start.ensures (sym (none_there c.args.text.now c.loop.counter c.args.index (lefts_at c.loop.tokens) c.loop.invariant.passed (omega arith)
    c.in_err-start.ensures.none))

pub returns-clause-span : goal.returns-clause-span
returns-clause-span c =
    let left = lefts_at c.loop.tokens in
    let all : c.loop.counter ≡ c.args.index = omega arith in
    sym (one_there c.args.text.now c.args.index (c.in_ok-start.start, c.in_ok-start.end) left (lefts_at c.next_left-2.new.self)
    (subst (λ (n : ℕ). Passed c.args.text.now n left) all c.loop.invariant.passed) c.in_ok-start.ensures.some)
