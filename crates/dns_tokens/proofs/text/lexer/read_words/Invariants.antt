use Rattle.std.proofs.Common.{length}
use Rattle.std.specs.Str.{IsUtf8}
use Rattle.dns_tokens.specs.{Views.words_value, Quoted.First, Tokens.Words}
use Rattle.dns_tokens.proofs.text.lexer.read_words.Given as goal

-- the words are those that were read so far
abbrev pub invariant-words : goal.invariant-words
invariant-words l = First Words (words_value l.words) l.text l.rest × IsUtf8 l.rest

abbrev pub decreases-words : goal.decreases-words
decreases-words l = length l.rest
