use Rattle.std.proofs.Common.{◌≡◌, ◌⊎◌, ◌∙◌, refl, sym}
use Rattle.std.specs.Prelude.{IfErr}
use Rattle.dns_tokens.specs.Reads.{UnlessParseMemory}
use Rattle.dns_rdata_zone.specs.{ZoneSteps.UnknownIsNone, ZoneFaults.BehindMarkFault}
use Rattle.dns_types.specs.declared.error.ParseError.TheVariants as parse
use Rattle.dns_zone_tokens.proofs.FirstSteps.{exit_with}
use Rattle.dns_rdata_zone.proofs.ZoneSteps.{unknown_refused, not_whole, unknown_why, pointer_why}
use Rattle.dns_rdata_zone.proofs.reading.from_unknown_data.Goals as goal

pub returns-in_err-value-clause-refused : goal.returns-in_err-value-clause-refused
returns-in_err-value-clause-refused c =
    exit_with (λ r. IfErr r (λ e. UnlessParseMemory e (UnknownIsNone c.args.record_type c.args.tokens.now))) _ c.from_residual-in_err-value.result
    c.from_residual-in_err-value.ensures.1
    (unknown_refused _ c.args.record_type c.in_ok-octets.octets c.as_slice.result.now c.args.tokens.now c.as_slice.ensures.value c.in_ok-octets.ensures.reads c.in_err-value.ensures.refused)

pub returns-then-not-is_as_long-clause-refused : goal.returns-then-not-is_as_long-clause-refused
returns-then-not-is_as_long-clause-refused c =
    not_whole c.args.record_type c.in_ok-value.value c.in_ok-octets.octets c.as_slice.result.now c.len.result c.args.tokens.now
    c.as_slice.ensures.value c.len.ensures c.in_ok-octets.ensures.reads c.in_ok-value.ensures.found (sym c.has_names.ensures ∙ c.if-has_names.true)
    (λ e. let so = c.is_as_long.ensures.1 e in let other = c.if-not-is_as_long.true in absurd (cc (so, other)))

pub returns-in_err-value-clause-why : goal.returns-in_err-value-clause-why
returns-in_err-value-clause-why c =
    exit_with (λ r. IfErr r (λ e. (e ≡ parse.Memory) ⊎ BehindMarkFault c.args.record_type c.args.tokens.now e)) _ c.from_residual-in_err-value.result
    c.from_residual-in_err-value.ensures.1
    (unknown_why _ c.args.record_type c.in_ok-octets.octets c.as_slice.result.now c.args.tokens.now c.as_slice.ensures.value c.in_ok-octets.ensures.reads c.in_err-value.ensures.why)

pub returns-then-not-is_as_long-clause-why : goal.returns-then-not-is_as_long-clause-why
returns-then-not-is_as_long-clause-why c =
    pointer_why _ c.args.record_type c.in_ok-value.value c.in_ok-octets.octets c.as_slice.result.now c.len.result c.args.tokens.now
    c.as_slice.ensures.value c.len.ensures c.in_ok-octets.ensures.reads c.in_ok-value.ensures.found (sym c.has_names.ensures ∙ c.if-has_names.true)
    (λ e. let so = c.is_as_long.ensures.1 e in let other = c.if-not-is_as_long.true in absurd (cc (so, other))) refl
