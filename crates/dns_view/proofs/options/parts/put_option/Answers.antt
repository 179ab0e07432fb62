use Rattle.std.proofs.Common.{arith, subst, sym, List, ℕ}
use Rattle.dns_view.specs.Putting.{Put}
use Rattle.dns_view.proofs.{Puts.put_then, Puts.put_none, OptionOwn.own_short, OptionOwn.own_plain}
use Rattle.dns_view.proofs.options.parts.put_option.Goals as goal

pub returns-then-part-lt4-clause-put : goal.returns-then-part-lt4-clause-put
returns-then-part-lt4-clause-put c = subst (λ (s : List ℕ). Put c.args.out.now c.args.out.now c.args.at c.args.at s)
    (sym (own_short c.args.part.now c.if-part-lt4.true)) (put_none c.args.out.now c.args.at)

pub returns-then-not-is_subnet-clause-put : goal.returns-then-not-is_subnet-clause-put
returns-then-not-is_subnet-clause-put c = subst (λ (s : List ℕ). Put c.args.out.now c.put_octets.new.out c.args.at c.put_octets.result s)
    (sym (own_plain c.args.part.now (omega (arith, c.if-part-lt4.false)) (sym c.if-not-is_subnet.ensures))) c.put_octets.ensures

pub returns-clause-put : goal.returns-clause-put
returns-clause-put c = subst (λ (s : List ℕ). Put c.args.out.now c.put_octets-2.new.out c.args.at c.put_octets-2.result s)
    (sym c.parts_of.ensures.octets) (put_then c.put_octets-middle.ensures c.put_octets-2.ensures)
