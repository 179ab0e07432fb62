use Rattle.std.proofs.Common.{length}
use Rattle.std.specs.{Str.IsUtf8, String.string_bytes}
use Rattle.dns_tokens.specs.Quoted.{First, Quoted}
use Rattle.dns_tokens.proofs.text.quoted.read_quoted.Given as goal

-- the word is what was read so far
abbrev pub invariant-runs : goal.invariant-runs
invariant-runs l = First Quoted (string_bytes l.word) l.text l.rest × IsUtf8 l.rest

abbrev pub decreases-runs : goal.decreases-runs
decreases-runs l = length l.rest
