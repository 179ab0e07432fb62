use Rattle.std.proofs.Common.{arith}
use Rattle.dns_tokens.proofs.PlainSteps.{quotes_word, no_quotes}
use Rattle.dns_tokens.proofs.text.plain.quoted_word.Goals.{then-more-eq0-via-then-more-eq0, then-more-eq0-via-else-more-eq0+then-octet-ne34}
use Rattle.dns_tokens.proofs.text.plain.quoted_word.Goals as goal

pub returns-then-more-eq0-clause-none : goal.returns-then-more-eq0-clause-none
returns-then-more-eq0-clause-none c = no_quotes c.requires.some c.requires.quote c.behind.ensures c.split.ensures.span (λ some quote.
    elim c.then-more-eq0.branch [ then-more-eq0-via-then-more-eq0 w ↦ omega arith | then-more-eq0-via-else-more-eq0+then-octet-ne34 w ↦ omega arith ])

pub returns-clause-word : goal.returns-clause-word
returns-clause-word c = quotes_word c.requires.some c.requires.quote c.behind.ensures c.split.ensures.span (omega arith) (omega arith) c.behind-2.ensures
