use Rattle.std.proofs.Common.{refl}
use Rattle.std.specs.Option.{option_copied}
use Rattle.dns_rdata_zone.specs.ZoneGives.{at_start}
use Rattle.dns_rdata_zone.proofs.ZoneSteps.{row_refused, given_why}
use Rattle.dns_rdata_zone.proofs.reading.from_row.Goals as goal

pub returns-then-put_near_data-clause-refused : goal.returns-then-put_near_data-clause-refused
returns-then-put_near_data-clause-refused c = row_refused c.read_octets.result (option_copied c.args.origin) c.args.record_type c.put_near_data.new.octets.items
    c.as_slice.result.now c.args.text.now (at_start c.args.text.now) refl c.as_slice.ensures.value c.if-put_near_data.ensures c.read_octets.ensures.refused

pub returns-then-put_near_data-clause-why : goal.returns-then-put_near_data-clause-why
returns-then-put_near_data-clause-why c =
    given_why c.read_octets.result (option_copied c.args.origin) c.args.record_type c.put_near_data.new.octets.items c.as_slice.result.now c.args.text.now
    c.as_slice.ensures.value c.if-put_near_data.ensures c.read_octets.ensures.why
