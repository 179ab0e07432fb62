use Rattle.std.proofs.Common.{ap, ◌∙◌}
use Rattle.std.specs.Option.{option_map}
use Rattle.dns_zone_rows.specs.{Registry.registry, Registry.shape_of, RegistryTexts.registered_texts, RowFaults.row_value, RowTexts.row_texts}
use Rattle.dns_zone_rows.proofs.RegistryRows.{found_same}
use Rattle.dns_zone_rows.proofs.registry.registry_row_of.Goals as goal

pub returns-clause-zone_rows : goal.returns-clause-zone_rows
returns-clause-zone_rows c = ap (option_map row_value) c.first_row.ensures
    ∙ found_same row_value shape_of c.rows_near.result.now (registry c.args.number) c.args.number c.rows_near.ensures.zone_rows

pub returns-clause-texts : goal.returns-clause-texts
returns-clause-texts c = ap (option_map row_texts) c.first_row.ensures
    ∙ found_same row_texts registered_texts c.rows_near.result.now (registry c.args.number) c.args.number c.rows_near.ensures.texts
