use Rattle.dns_registry.proofs.Ranges.{found, in_first, in_second, in_third, in_fourth, in_fifth, in_last}
use Rattle.dns_registry.proofs.format.format_of.Goals as goal

pub returns-then-number-lt16-clause-some : goal.returns-then-number-lt16-clause-some
returns-then-number-lt16-clause-some c =
    found c.first_formats.result (in_first c.args.number c.args.octets.now c.if-number-eq38.false c.if-number-eq25.false c.if-number-eq45.false c.if-number-eq260.false c.if-number-lt16.true)
    c.first_formats.ensures.some

pub returns-then-number-lt32-clause-some : goal.returns-then-number-lt32-clause-some
returns-then-number-lt32-clause-some c =
    found c.second_formats.result (in_second c.args.number c.args.octets.now c.if-number-eq38.false c.if-number-eq25.false c.if-number-eq45.false c.if-number-eq260.false c.if-number-lt16.false
    c.if-number-lt32.true) c.second_formats.ensures.some

pub returns-then-number-lt48-clause-some : goal.returns-then-number-lt48-clause-some
returns-then-number-lt48-clause-some c =
    found c.third_formats.result (in_third c.args.number c.args.octets.now c.if-number-eq38.false c.if-number-eq25.false c.if-number-eq45.false c.if-number-eq260.false c.if-number-lt32.false
    c.if-number-lt48.true) c.third_formats.ensures.some

pub returns-then-number-lt64-clause-some : goal.returns-then-number-lt64-clause-some
returns-then-number-lt64-clause-some c =
    found c.fourth_formats.result (in_fourth c.args.number c.args.octets.now c.if-number-eq38.false c.if-number-eq25.false c.if-number-eq45.false c.if-number-eq260.false c.if-number-lt48.false
    c.if-number-lt64.true) c.fourth_formats.ensures.some

pub returns-then-number-lt256-clause-some : goal.returns-then-number-lt256-clause-some
returns-then-number-lt256-clause-some c =
    found c.fifth_formats.result (in_fifth c.args.number c.args.octets.now c.if-number-eq38.false c.if-number-eq25.false c.if-number-eq45.false c.if-number-eq260.false c.if-number-lt64.false
    c.if-number-lt256.true) c.fifth_formats.ensures.some

pub returns-clause-some : goal.returns-clause-some
returns-clause-some c =
    found c.last_formats.result (in_last c.args.number c.args.octets.now c.if-number-eq38.false c.if-number-eq25.false c.if-number-eq45.false c.if-number-eq260.false c.if-number-lt256.false)
    c.last_formats.ensures.some
