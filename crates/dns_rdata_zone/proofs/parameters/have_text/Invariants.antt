use Rattle.std.proofs.Common.{◌≡◌, drop}
use Rattle.std.specs.List.{list_all}
use Rattle.dns_rdata_zone.specs.Parameters.{has_text}
use Rattle.dns_rdata_zone.proofs.parameters.have_text.Given as goal

abbrev pub invariant-loop-parameter : goal.invariant-loop-parameter
invariant-loop-parameter l = list_all has_text (drop l.parameter-index l.parameters) ≡ list_all has_text l.parameters
