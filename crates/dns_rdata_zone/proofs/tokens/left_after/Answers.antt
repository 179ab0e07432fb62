use Rattle.std.proofs.Common.{sym, ◌∙◌}
use Rattle.dns_rdata_zone.proofs.TokenSteps.{after_octets, after_token}
use Rattle.dns_rdata_zone.proofs.tokens.left_after.Goals as goal

pub tokens-preserved : goal.tokens-preserved
tokens-preserved c = sym (after_token c.tokens.left c.tokens.count c.tokens-test.true) ∙ c.tokens.invariant

pub returns : goal.returns
returns c = sym (after_octets c.tokens.left c.tokens.count c.tokens-test.false) ∙ c.tokens.invariant
