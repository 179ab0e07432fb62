use Rattle.std.proofs.Common.{◌≡◌, map, flat_map}
use Rattle.dns_tokens.proofs.reading.join_tokens.Given as goal

abbrev pub invariant-loop-token : goal.invariant-loop-token
invariant-loop-token g l = l.joined.items ≡ flat_map (λ w. w) (map g.S.AsStr.text l.yielded)
