use Rattle.std.proofs.Common.{ℕ, List, length}
use Rattle.std.specs.Str.{IsUtf8}
use Rattle.dns_tokens.specs.Plain.{PlainFirst}
use Rattle.dns_tokens.proofs.text.plain.is_plain.Given as goal

-- the text is plain if the rest is
abbrev pub invariant-words : goal.invariant-words
invariant-words l = ((front : List (List ℕ)) × PlainFirst front l.text l.rest) × IsUtf8 l.rest

abbrev pub decreases-words : goal.decreases-words
decreases-words l = length l.rest
