use Rattle.std.proofs.Common.{◌≡◌, map}
use Rattle.dns_tokens.proofs.reading.all_texts.Given as goal

abbrev pub invariant-loop-token : goal.invariant-loop-token
invariant-loop-token g l = l.strings ≡ map g.S.AsStr.text l.yielded
