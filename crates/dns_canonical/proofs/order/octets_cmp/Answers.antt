use Rattle.std.proofs.Common.{arith, ◌+◌, ◌-◌, ◌∙◌}
use Rattle.dns_canonical.proofs.Fronts.{tokens_differ, tokens_same, fewer_same, last_tokens}
use Rattle.dns_canonical.proofs.order.octets_cmp.Goals as goal

pub returns : goal.returns
returns c =
    let s = c.min-shorter.result in
    c.then.ensures ∙ rw (c.cmp-2.ensures, c.cmp-3.ensures)
    (last_tokens 8 (s - 8) s c.token-x-2.result c.token-y-2.result c.args.a.now c.args.b.now (omega arith) (omega arith)
    (fewer_same (s - 8) c.tokens.at c.args.a.now c.args.b.now (omega arith) c.tokens.invariant.1) (omega arith) (omega arith) c.token-x-2.ensures c.token-y-2.ensures (omega arith) (omega arith) (λ h. omega (arith, h)))

pub returns-then-x-y : goal.returns-then-x-y
returns-then-x-y c =
    c.cmp.ensures ∙ tokens_differ 8 c.tokens.at (c.tokens.at + 8) c.token-x.result c.token-y.result c.args.a.now c.args.b.now (omega arith) (omega arith) c.tokens.invariant.1
    (omega arith) (omega arith) c.token-x.ensures c.token-y.ensures c.if-x-y.true

pub tokens-preserved : goal.tokens-preserved
tokens-preserved c =
    (omega arith, tokens_same 8 c.tokens.at (c.tokens.at + 8) c.token-x.result c.token-y.result c.args.a.now c.args.b.now (omega arith) c.tokens.invariant.1 c.token-x.ensures c.token-y.ensures c.if-x-y.false)
