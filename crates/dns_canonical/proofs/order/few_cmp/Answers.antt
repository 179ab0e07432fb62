use Rattle.std.proofs.Common.{arith, ◌-◌, ◌∙◌, refl}
use Rattle.dns_canonical.proofs.Fronts.{tokens_same, fewer_same, last_tokens}
use Rattle.dns_canonical.proofs.order.few_cmp.Goals as goal

pub returns : goal.returns
returns c =
    let s = c.min-shorter.result in
    let first = tokens_same 4 0 4 c.half-x.result c.half-y.result c.args.a.now c.args.b.now (omega arith) refl c.half-x.ensures c.half-y.ensures c.if-x-y.false in
    c.then.ensures ∙ rw (c.cmp-2.ensures, c.cmp-3.ensures)
    (last_tokens 4 (s - 4) s c.half-x-2.result c.half-y-2.result c.args.a.now c.args.b.now (omega arith) (omega arith)
    (fewer_same (s - 4) 4 c.args.a.now c.args.b.now (omega arith) first) (omega arith) (omega arith) c.half-x-2.ensures c.half-y-2.ensures (omega arith) (omega arith) (λ h. omega (arith, h)))
