use Rattle.std.specs.Option.{option_copied}
use Rattle.dns_rdata_zone.proofs.ZoneSteps.{row_fault}
use Rattle.dns_rdata_zone.proofs.reading.row_data.Goals as goal

pub returns-in-Some-clause-why : goal.returns-in-Some-clause-why
returns-in-Some-clause-why c =
    row_fault (option_copied c.args.origin) c.args.record_type c.args.text.now c.zone_row_of.result c.in-Some.zone_row c.new.result c.row_octets.result
    c.in-Some.is c.zone_row_of.ensures.zone_rows c.zone_row_of.ensures.texts c.new.ensures.tokens c.new.ensures.seen c.row_octets.ensures.why
