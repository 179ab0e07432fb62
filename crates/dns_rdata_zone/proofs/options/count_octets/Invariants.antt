use Rattle.std.proofs.Common.{◌≡◌, ◌+◌, drop, length}
use Rattle.dns_rdata_zone.specs.Options.{options_octets}
use Rattle.dns_rdata_zone.proofs.options.count_octets.Given as goal

abbrev pub invariant-loop-pair : goal.invariant-loop-pair
invariant-loop-pair l = l.count + length (options_octets (drop l.pair-index l.pairs)) ≡ length (options_octets l.pairs)
