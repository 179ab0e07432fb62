use Rattle.std.proofs.Common.{◌≡◌, ◌⊎◌, refl}
use Rattle.dns_types.specs.declared.error.ParseError.TheVariants as parse
use Rattle.dns_zone_tokens.specs.Remaining.{AreUnknown, ReadsAll, UnknownFault}
use Rattle.dns_zone_tokens.proofs.{FirstSteps.exit_fault, FirstSteps.exit_with, RemainingSteps.length_why, RemainingSteps.unknown_no_length}
use Rattle.dns_zone_tokens.proofs.remaining.unknown_data.Goals as goal

pub returns-in_err-length-clause-reads : goal.returns-in_err-length-clause-reads
returns-in_err-length-clause-reads c = exit_with (λ r. ReadsAll AreUnknown (λ x. x) r c.args.tokens.now) _ c.from_residual.result c.from_residual.ensures.1
    (unknown_no_length _ c.args.tokens.now c.in_err-length.ensures.reads)

pub returns-in_err-length-clause-why : goal.returns-in_err-length-clause-why
returns-in_err-length-clause-why c = exit_fault (λ e. (e ≡ parse.Memory) ⊎ UnknownFault c.args.tokens.now e) c.from_residual.result _
    c.from_residual.ensures.1 (length_why _ c.args.tokens.now _ c.in_err-length.ensures.why refl)
