use Rattle.std.proofs.Common.{subst, sym}
use Rattle.dns_view.specs.declared.row.field.FieldRef.{FieldRef}
use Rattle.dns_registry.proofs.Passing.{Tells}
use Rattle.dns_registry.proofs.Rules.{number_tells, name_tells, string_tells, strings_tell, rest_tells, bitmap_tells}
use Rattle.dns_registry.proofs.rule.passes.Goals as goal

pub returns-in-Number : goal.returns-in-Number
returns-in-Number c = subst (λ (f : FieldRef). Tells c.number_passes.result c.args.rule f c.args.message.now) (sym c.in-Number.is)
    (number_tells c.number_passes.result c.args.rule c.args.message.now c.in-Number.number c.number_passes.ensures)

pub returns-in-Name : goal.returns-in-Name
returns-in-Name c = subst (λ (f : FieldRef). Tells c.name_passes.result c.args.rule f c.args.message.now) (sym c.in-Name.is)
    (name_tells c.name_passes.result c.args.rule c.args.message.now (rw (← c.offset.ensures) c.name_passes.ensures))

pub returns-in-CharacterString : goal.returns-in-CharacterString
returns-in-CharacterString c = subst (λ (f : FieldRef). Tells c.string_passes.result c.args.rule f c.args.message.now) (sym c.in-CharacterString.is)
    (string_tells c.string_passes.result c.args.rule c.args.message.now c.string_passes.ensures)

pub returns-in-CharacterStrings : goal.returns-in-CharacterStrings
returns-in-CharacterStrings c = subst (λ (f : FieldRef). Tells c.strings_pass.result c.args.rule f c.args.message.now) (sym c.in-CharacterStrings.is)
    (strings_tell c.strings_pass.result c.args.rule c.args.message.now c.strings_pass.ensures)

pub returns-in-Rest : goal.returns-in-Rest
returns-in-Rest c = subst (λ (f : FieldRef). Tells c.rest_passes.result c.args.rule f c.args.message.now) (sym c.in-Rest.is)
    (rest_tells c.rest_passes.result c.args.rule c.args.message.now c.rest_passes.ensures)

pub returns-in-Bitmap : goal.returns-in-Bitmap
returns-in-Bitmap c = subst (λ (f : FieldRef). Tells c.bitmap_passes.result c.args.rule f c.args.message.now) (sym c.in-Bitmap.is)
    (bitmap_tells c.bitmap_passes.result c.args.rule c.args.message.now c.bitmap_passes.ensures)
