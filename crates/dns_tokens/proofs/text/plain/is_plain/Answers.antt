use Rattle.dns_tokens.proofs.{Firsts.first_both, PlainSteps.plain_if}
use Rattle.dns_tokens.proofs.text.plain.is_plain.Goals as goal

pub words-preserved : goal.words-preserved
words-preserved c = ((_, first_both c.words.invariant.0.1 c.in-Some.ensures.word), c.in-Some.ensures.utf8.1)

pub returns : goal.returns
returns c = plain_if _ c.words.invariant.0.1 c.split.ensures.span
