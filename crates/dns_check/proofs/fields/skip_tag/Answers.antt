use Rattle.std.proofs.Common.{arith}
use Rattle.dns_fields.proofs.FieldLaws.{field_inside}
use Rattle.dns_names_wire.proofs.FieldReads.{took_number}
use Rattle.dns_check.proofs.Tagged.{tag_refused, tag_skips, tag_whole, tag_bad}
use Rattle.dns_check.proofs.fields.skip_tag.Goals as goal

pub returns-in-Ok-read_slice : goal.returns-in-Ok-read_slice
returns-in-Ok-read_slice c =
    let f = c.in-Ok-read_slice.ensures.taken in
    let n = c.count_letters-letters.ensures in
    tag_refused c.in-Ok.ensures.taken
    (tag_bad f c.unread-left.ensures c.min.ensures c.if-letters-there.true n.letters (n.stops c.if-letters-there.true)
    (omega (arith, c.if-len-size.false, c.index.ensures.offset)) (omega arith))
    c.requires.before (record { message = f.message; index = (field_inside f.field).0 })

pub returns-in-Ok-read_in_steps : goal.returns-in-Ok-read_in_steps
returns-in-Ok-read_in_steps c = tag_skips c.in-Ok.ensures.taken c.in-Ok-read_in_steps.ensures.taken
    (tag_whole c.in-Ok-read_in_steps.ensures.taken c.unread-left.ensures c.min.ensures c.count_letters-letters.ensures.letters c.if-letters-there.false (omega arith) (omega arith))
    (omega (
      arith,
      c.requires.before,
      c.if-len-size.false,
      c.index.ensures.offset,
      took_number c.in-Ok.ensures.taken,
      c.in-Ok-read_in_steps.ensures.taken.field.is.0,
      c.in-Ok-read_in_steps.ensures.taken.field.is.1.ends,
    ))
