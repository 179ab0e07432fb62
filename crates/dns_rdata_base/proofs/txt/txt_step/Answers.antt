use Rattle.std.proofs.Common.{◌≡◌, ◌∙◌, ap, ◌++◌, arith}
use Rattle.dns_fields.specs.Fields.{field_octets}
use Rattle.dns_fields.specs.declared.Kind.{TheVariants.CharacterString}
use Rattle.dns_rdata_base.proofs.TextLists.{text_given}
use Rattle.dns_rdata_base.proofs.txt.txt_step.Goals as goal

pub returns : goal.returns
returns c =
    let first : c.args.step ≡ 0 = omega arith in
    λ j. rw (← c.as_slice-texts.ensures, first) (text_given c.as_slice-texts.result.now c.args.part j c.index-texts-part.result c.text.new.self c.text.result
    c.if-part-texts.false c.index-texts-part.is
    ((rw c.as_slice.ensures.value at c.text.ensures.value) ∙ ap (λ h. h ++ field_octets CharacterString c.index-texts-part.result) c.requires.empty))
