use Rattle.std.proofs.Common.{length}
use Rattle.dns_check.proofs.Bitmaps.{LeftBlocks}
use Rattle.dns_check.proofs.bitmap.check_blocks.Given as goal

abbrev pub invariant-windows : goal.invariant-windows
invariant-windows l = LeftBlocks l.octets l.rest

abbrev pub decreases-windows : goal.decreases-windows
decreases-windows l = length l.rest
