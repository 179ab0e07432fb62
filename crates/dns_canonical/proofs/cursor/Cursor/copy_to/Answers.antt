use Rattle.std.proofs.Common.{◌≡◌, [], rules}
use Rattle.std.specs.Option.{option_copied}
use Rattle.dns_canonical.specs.Cursor.{course_of}
use Rattle.dns_canonical.proofs.Copying.{copied_step, copied_full, copied_end, none_left}
use Rattle.dns_canonical.proofs.cursor.Cursor.copy_to.Goals as goal

pub returns-then-filled-buffer-clause-octets : goal.returns-then-filled-buffer-clause-octets
returns-then-filled-buffer-clause-octets g c =
    let s = c.steps.self-inside in
    let left = (course_of g.T.Stepped.course (option_copied s.data)).left s.step s.part s.item in
    rw (← c.self.view_is) (copied_full _ _ _ _ _
    (copied_step c.steps.filled c.copy_to-n.result _ s.run c.copy_to-n.new.self left c.args.buffer.now c.steps.buffer c.copy_to-n.new.buffer
    c.steps.invariant.copied c.copy_to-n.ensures) c.if-filled-buffer.true)

pub returns-in-None-clause-octets : goal.returns-in-None-clause-octets
returns-in-None-clause-octets g c =
    let s = c.steps.self-inside in
    let left = (course_of g.T.Stepped.course (option_copied s.data)).left s.step s.part s.item in
    let copied = copied_step c.steps.filled c.copy_to-n.result _ s.run c.copy_to-n.new.self left c.args.buffer.now c.steps.buffer c.copy_to-n.new.buffer
    c.steps.invariant.copied c.copy_to-n.ensures in
    let none : c.copy_to-n.new.self ≡ [] = none_left _ _ _ _ _ _ _ _ _ _ _ c.steps.invariant.copied c.copy_to-n.ensures copied c.if-filled-buffer.false in
    let end : left ≡ [] = c.in-None.ensures.steps.octets in
    let empty : c.refill.new.run ≡ [] = c.in-None.ensures.steps.nothing in
    rw (← c.self.view_is, empty) (copied_end _ _ _ _ _ (rw none at copied) end)

pub steps-preserved : goal.steps-preserved
steps-preserved g c =
    let s = c.steps.self-inside in
    let left = (course_of g.T.Stepped.course (option_copied s.data)).left s.step s.part s.item in
    let copied = copied_step c.steps.filled c.copy_to-n.result _ s.run c.copy_to-n.new.self left c.args.buffer.now c.steps.buffer c.copy_to-n.new.buffer
    c.steps.invariant.copied c.copy_to-n.ensures in
    let none : c.copy_to-n.new.self ≡ [] = none_left _ _ _ _ _ _ _ _ _ _ _ c.steps.invariant.copied c.copy_to-n.ensures copied c.if-filled-buffer.false in
    let steps = c.in-Some.ensures.steps in
    record {
      at = search rules;
      kept = search rules;
      few = search rules;
      same = search rules;
      copied = rw (none, steps.octets) at copied;
      taken = search rules;
      passes = search rules;
      more = search rules;
      chosen = search rules;
    }
