use Rattle.std.proofs.Common.{length}
use Rattle.dns_registry.specs.FieldRules.{prefix_octets, IsAddressPrefix}
use Rattle.dns_registry.proofs.Chains.{Left}
use Rattle.dns_registry.proofs.prefixes.are_prefixes.Given as goal

abbrev pub invariant-prefixes : goal.invariant-prefixes
invariant-prefixes l = Left prefix_octets IsAddressPrefix l.octets l.rest

abbrev pub decreases-prefixes : goal.decreases-prefixes
decreases-prefixes l = length l.rest
