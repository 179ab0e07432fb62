use Rattle.std.proofs.Common.{length}
use Rattle.dns_tokens.specs.Views.{words_value}
use Rattle.dns_tokens.proofs.WholeSteps.{TextFirst}
use Rattle.dns_tokens.proofs.text.words.text_words.Given as goal

abbrev pub invariant-tokens : goal.invariant-tokens
invariant-tokens l = TextFirst (words_value l.words) l.text l.lexer

abbrev pub decreases-tokens : goal.decreases-tokens
decreases-tokens l = length l.lexer
