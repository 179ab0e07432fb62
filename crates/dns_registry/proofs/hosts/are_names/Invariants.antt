use Rattle.std.proofs.Common.{length}
use Rattle.dns_registry.specs.FieldRules.{name_octets, IsPlainName}
use Rattle.dns_registry.proofs.Chains.{Left}
use Rattle.dns_registry.proofs.hosts.are_names.Given as goal

abbrev pub invariant-names : goal.invariant-names
invariant-names l = Left name_octets IsPlainName l.octets l.rest

abbrev pub decreases-names : goal.decreases-names
decreases-names l = length l.rest
