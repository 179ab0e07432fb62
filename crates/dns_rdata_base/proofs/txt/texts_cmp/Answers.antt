use Rattle.std.proofs.Common.{◌∙◌, sym, arith}
use Rattle.dns_fields.specs.Fields.{field_octets}
use Rattle.dns_rdata_base.proofs.TextOrders.{texts_differ, texts_same, texts_end}
use Rattle.dns_rdata_base.proofs.txt.texts_cmp.Goals as goal

pub returns-then-is_ne : goal.returns-then-is_ne
unfolding field_octets
returns-then-is_ne c =
    texts_differ c.loop-at.at c.index-a-at.result c.index-b-at.result c.args.a.now c.args.b.now
    c.text_behind-order.result (omega arith) (omega arith) c.index-a-at.is c.index-b-at.is (rw (c.as_slice.ensures.value, c.as_slice-in-loop-at.ensures.value) at c.text_behind-order.ensures)
    (sym c.is_ne.ensures ∙ c.if-is_ne.true)
    ∙ c.loop-at.invariant

pub loop-at-preserved : goal.loop-at-preserved
unfolding field_octets
loop-at-preserved c =
    texts_same c.loop-at.at c.index-a-at.result c.index-b-at.result c.args.a.now c.args.b.now
    c.text_behind-order.result (omega arith) (omega arith) c.index-a-at.is c.index-b-at.is (rw (c.as_slice.ensures.value, c.as_slice-in-loop-at.ensures.value) at c.text_behind-order.ensures)
    (sym c.is_ne.ensures ∙ c.if-is_ne.false)
    ∙ c.loop-at.invariant

pub returns : goal.returns
unfolding field_octets
returns c =
    c.cmp.ensures
    ∙ texts_end c.loop-at.at c.min-shorter.result c.args.a.now c.args.b.now c.min-shorter.ensures c.loop-at-test.false c.loop-at.auto.at-end
    ∙ c.loop-at.invariant
