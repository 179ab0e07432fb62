use Rattle.std.proofs.Common.{refl}
use Rattle.std.specs.Option.{option_copied}
use Rattle.dns_rdata_zone.proofs.NameTexts.{name_found, name_refused, name_fault}
use Rattle.dns_rdata_zone.proofs.name_reading.name_from_zone_text.Goals as goal

pub returns-in_err-octets-clause-refused : goal.returns-in_err-octets-clause-refused
returns-in_err-octets-clause-refused c = name_refused c.from_residual.result _ (option_copied c.args.origin) c.args.text.now c.new.result
    c.from_residual.ensures.1 c.new.ensures.tokens c.in_err-octets.ensures.reads

pub returns-in_err-octets-clause-why : goal.returns-in_err-octets-clause-why
returns-in_err-octets-clause-why c = name_fault c.from_residual.result _ (option_copied c.args.origin) c.args.text.now _ c.new.result
    c.from_residual.ensures.1 c.new.ensures.tokens c.new.ensures.seen c.in_err-octets.ensures.why refl refl

pub returns-clause-found : goal.returns-clause-found
returns-clause-found c = name_found c.whole_name.result (option_copied c.args.origin) c.args.text.now c.in_ok-octets.octets c.as_slice.result.now c.new.result
    c.new.ensures.tokens c.as_slice.ensures.value c.in_ok-octets.ensures.reads c.whole_name.ensures.found
