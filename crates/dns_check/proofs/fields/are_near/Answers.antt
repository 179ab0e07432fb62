use Rattle.std.proofs.Common.{◌≡◌, ◌+◌, ◌≤◌, ◌∙◌, ap, refl, arith, length}
use Rattle.dns_names_wire.specs.State.{Reading}
use Rattle.dns_check.proofs.{FieldEnds.skips_inside, RowLoop.at_next, StepRows.counted_next}
use Rattle.dns_check.proofs.Fronts.{at_front, counted_front, ends_near}
use Rattle.dns_check.proofs.fields.are_near.Goals as goal

pub near-init : goal.near-init
near-init c =
    let index = c.index-at.ensures.offset ∙ ap (λ (r : Reading). r.index) c.at-near.ensures in
    let within : c.args.start + c.args.octets ≤ length c.args.message.now = omega (arith, index, c.if-message-at.false, c.requires.within) in
    let octets = rw c.at-near.ensures at c.index-at.ensures.octets in
    rw (c.move_to.ensures, c.at-near.ensures, index) (
      at_front c.args.first c.args.octets c.args.len c.requires.front octets within c.requires.row,
      counted_front c.args.first c.args.octets c.args.len c.requires.front octets within c.args.left.now,
    )

pub move_to-requires-in-Some : goal.move_to-requires-in-Some
move_to-requires-in-Some c = skips_inside c.in-Some.ensures.skips

pub near-preserved : goal.near-preserved
near-preserved c = rw c.move_to-in-Some.ensures (
  at_next _ c.near.invariant.0 c.near-test.true refl c.in-Some.ensures.skips,
  counted_next _ _ c.near.invariant.1 c.near-test.true c.in-Some.ensures.steps c.in-Some.ensures.skips,
)

pub returns-clause-near : goal.returns-clause-near
returns-clause-near c = λ e.
    let behind = c.near.invariant.0.so.behind in
    let end : c.near.near.index ≡ c.args.start + c.args.len = omega (arith, c.index.ensures.offset, c.if-index-start.false, behind.index) in
    ends_near c.near.invariant.0 c.near.invariant.1 c.requires.row c.near-test.false behind.message end
    (omega (arith, end, c.index.ensures.inside, ap length behind.message))
