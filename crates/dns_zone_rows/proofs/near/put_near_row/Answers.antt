use Rattle.std.proofs.lemmas.Bool.{OnTrue_at, OnTrue_from}
use Rattle.std.specs.Option.{option_copied}
use Rattle.dns_zone_rows.specs.declared.zone_row.ZoneRest.TheVariants as rest
use Rattle.dns_zone_rows.proofs.RowLoop.{row_so, field_more, put_first, row_over}
use Rattle.dns_zone_rows.proofs.near.put_near_row.Goals as goal

pub loop-field-init : goal.loop-field-init
loop-field-init c = λ s. row_so (option_copied c.args.origin) c.args.fields.now (rest.Nothing s) c.new-tokens.result c.args.octets.now.items c.requires

pub loop-field-preserved : goal.loop-field-preserved
loop-field-preserved c = λ s. field_more (option_copied c.args.origin) c.args.fields.now (rest.Nothing s) c.loop-field.field-index c.new-tokens.result
    c.loop-field.tokens c.next_near.new.self c.loop-field.octets.items c.put_near_field.new.octets.items _ c.loop-field-test.true (c.loop-field.invariant s)
    (put_first c.in-Some.ensures.token c.in-Some.ensures.seen c.if-not-put_near_field.ensures)

pub returns : goal.returns
returns c = OnTrue_from c.is_over.result _ (λ h.
    row_over (option_copied c.args.origin) c.args.fields.now c.args.text c.loop-field.field-index _ c.new-tokens.result c.loop-field.tokens
    c.loop-field.octets.items c.new-tokens.ensures.tokens c.loop-field-test.false (c.loop-field.invariant c.args.text) (OnTrue_at h c.is_over.ensures.none))
