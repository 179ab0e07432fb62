use Rattle.std.specs.Option.{option_copied}
use Rattle.dns_zone_rows.proofs.RowLoop.{row_so, field_more, exit_field, exit_field_fault, exit_rest, exit_rest_fault, row_taken}
use Rattle.dns_zone_rows.proofs.reading.row_octets.Goals as goal

pub loop-field-init : goal.loop-field-init
loop-field-init c = row_so (option_copied c.args.origin) c.args.zone_row.now.fields.now c.args.zone_row.now.rest c.args.tokens.now
    c.in_ok-octets.octets.items c.in_ok-octets.ensures.items

pub loop-field-preserved : goal.loop-field-preserved
loop-field-preserved c =
    field_more (option_copied c.args.origin) c.args.zone_row.now.fields.now c.args.zone_row.now.rest c.loop-field.field-index
    c.args.tokens.now c.loop-field.tokens c.add_field.new.tokens
    c.loop-field.octets.items c.add_field.new.octets.items _ c.loop-field-test.true c.loop-field.invariant c.in_ok-add_field.ensures.adds

pub returns-in_err-add_field-clause-reads : goal.returns-in_err-add_field-clause-reads
returns-in_err-add_field-clause-reads c =
    exit_field (λ x. x) c.from_residual-in_err-add_field.result (option_copied c.args.origin) c.args.zone_row.now c.loop-field.field-index
    c.args.tokens.now c.loop-field.tokens c.loop-field.octets.items _ _ c.from_residual-in_err-add_field.ensures.1 c.loop-field-test.true c.loop-field.invariant
    c.in_err-add_field.ensures.adds

pub returns-in_err-add_field-clause-why : goal.returns-in_err-add_field-clause-why
returns-in_err-add_field-clause-why c =
    exit_field_fault c.from_residual-in_err-add_field.result (option_copied c.args.origin) c.args.zone_row.now c.loop-field.field-index
    c.args.tokens.now c.loop-field.tokens c.loop-field.octets.items _ _ c.from_residual-in_err-add_field.ensures.1 c.loop-field-test.true c.loop-field.invariant
    c.in_err-add_field.ensures.why

pub returns-in_err-add_rest-clause-reads : goal.returns-in_err-add_rest-clause-reads
returns-in_err-add_rest-clause-reads c =
    exit_rest (λ x. x) c.from_residual-in_err-add_rest.result (option_copied c.args.origin) c.args.zone_row.now c.loop-field.field-index
    c.args.tokens.now c.loop-field.tokens c.loop-field.octets.items _ c.from_residual-in_err-add_rest.ensures.1 c.loop-field-test.false c.loop-field.invariant
    c.in_err-add_rest.ensures.adds

pub returns-in_err-add_rest-clause-why : goal.returns-in_err-add_rest-clause-why
returns-in_err-add_rest-clause-why c =
    exit_rest_fault c.from_residual-in_err-add_rest.result (option_copied c.args.origin) c.args.zone_row.now c.loop-field.field-index
    c.args.tokens.now c.loop-field.tokens c.loop-field.octets.items _ c.from_residual-in_err-add_rest.ensures.1 c.loop-field-test.false c.loop-field.invariant
    c.in_err-add_rest.ensures.why

pub returns-clause-reads : goal.returns-clause-reads
returns-clause-reads c =
    row_taken (option_copied c.args.origin) c.args.zone_row.now.fields.now c.args.zone_row.now.rest c.loop-field.field-index
    c.args.tokens.now c.loop-field.tokens c.loop-field.octets.items
    c.add_rest.new.octets.items c.from_vec.result c.loop-field-test.false c.loop-field.invariant c.in_ok-add_rest.ensures.adds c.from_vec.ensures
