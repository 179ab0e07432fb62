use Rattle.std.proofs.Common.{sym, ◌∙◌}
use Rattle.dns_zone_tokens.proofs.TextSteps.{unregistered}
use Rattle.dns_zone_tokens.proofs.type_names.type_named.Goals as goal

pub returns-in-None-registered-clause-none : goal.returns-in-None-registered-clause-none
returns-in-None-registered-clause-none c = unregistered c.args.text.now c.in-None.ensures.none (sym c.in-None-registered.is ∙ c.registered.ensures)
