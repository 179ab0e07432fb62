use Rattle.std.proofs.Common.{◌∙◌, sym, true≢false, arith}
use Rattle.dns_view.proofs.TypeLists.{bit_set, bit_clear}
use Rattle.dns_view.proofs.bitmap.types.next_bit.Goals as goal

pub returns-then-is_set-clause-some : goal.returns-then-is_set-clause-some
returns-then-is_set-clause-some c =
    c.bits.invariant ∙ bit_set c.args.number c.args.window.now c.bits.bit c.requires.few (omega arith) (c.is_set.ensures.0 c.if-is_set.true)

pub bits-preserved : goal.bits-preserved
bits-preserved c =
    c.bits.invariant
    ∙ bit_clear c.args.number c.args.window.now c.bits.bit c.requires.few (omega arith) (λ set. true≢false (sym (c.is_set.ensures.1 set) ∙ c.if-is_set.false))
