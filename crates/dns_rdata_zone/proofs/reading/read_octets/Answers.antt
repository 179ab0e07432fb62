use Rattle.std.proofs.Common.{◌≡◌, ◌⊎◌, inr, ap}
use Rattle.std.specs.Prelude.{IfErr}
use Rattle.dns_names_wire.specs.State.{Reading}
use Rattle.dns_tokens.specs.Reads.{UnlessParseMemory}
use Rattle.dns_rdata_zone.specs.{ZoneSteps.AreNoData, ZoneFaults.OctetsFault}
use Rattle.dns_types.specs.declared.error.ParseError.TheVariants as parse
use Rattle.dns_zone_tokens.proofs.FirstSteps.{exit_with}
use Rattle.dns_rdata_zone.proofs.ZoneSteps.{octets_refused, read_why}
use Rattle.dns_rdata_zone.proofs.reading.read_octets.Goals as goal

pub returns-in_err-read-clause-refused : goal.returns-in_err-read-clause-refused
returns-in_err-read-clause-refused c =
    exit_with (λ r. IfErr r (λ e. UnlessParseMemory e (AreNoData c.args.octets.now c.args.record_type))) _ c.from_residual.result c.from_residual.ensures.1
    (octets_refused c.in_err-read.field-0.0 c.new-decoder.result.message c.args.octets.now c.new-decoder.result.index c.new-length.result c.args.record_type
    (ap (λ (r : Reading). r.message) c.new-decoder.ensures) (ap (λ (r : Reading). r.index) c.new-decoder.ensures) c.new-length.ensures c.in_err-read.ensures.refused)

pub returns-in_err-read-clause-why : goal.returns-in_err-read-clause-why
returns-in_err-read-clause-why c =
    exit_with (λ r. IfErr r (λ e. (e ≡ parse.Memory) ⊎ OctetsFault c.args.octets.now c.args.record_type e)) _ c.from_residual.result c.from_residual.ensures.1
    (inr (read_why c.in_err-read.field-0.0 c.new-decoder.result c.read.new.decoder c.args.octets.now c.new-length.result c.args.record_type
    c.new-decoder.ensures c.new-length.ensures c.in_err-read.ensures.why))
