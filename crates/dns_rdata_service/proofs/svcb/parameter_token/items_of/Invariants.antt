use Rattle.std.proofs.Common.{length}
use Rattle.std.specs.Str.{IsUtf8}
use Rattle.dns_rdata_service.proofs.ItemLists.{SoFar}
use Rattle.dns_rdata_service.proofs.svcb.parameter_token.items_of.Given as goal

-- the values so far, and the rest of the list
abbrev pub invariant-segments : goal.invariant-segments
invariant-segments g l = SoFar g.T.FromItem.is_text l.text l.rest l.values × IsUtf8 l.rest

abbrev pub decreases-segments : goal.decreases-segments
decreases-segments g l = length l.rest
