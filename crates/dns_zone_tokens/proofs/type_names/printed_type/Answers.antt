use Rattle.dns_zone_tokens.proofs.TextSteps.{no_type}
use Rattle.dns_zone_tokens.proofs.type_names.printed_type.Goals as goal

pub returns-in-Err-clause-none : goal.returns-in-Err-clause-none
returns-in-Err-clause-none c = no_type c.args.text.now c.in-Err.ensures.cases.0
