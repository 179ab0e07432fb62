use Rattle.std.proofs.Common.{refl}
use Rattle.dns_zone_tokens.specs.Views.{token_value}
use Rattle.dns_zone_tokens.proofs.TextSteps.{no_type_token}
use Rattle.dns_zone_tokens.proofs.texts.type_of.Goals as goal

pub returns-in-None-clause-reads : goal.returns-in-None-clause-reads
returns-in-None-clause-reads c = no_type_token (token_value c.args.token) c.in-None.ensures.none

pub returns-in-None-clause-why : goal.returns-in-None-clause-why
returns-in-None-clause-why c = (refl, no_type_token (token_value c.args.token) c.in-None.ensures.none)
