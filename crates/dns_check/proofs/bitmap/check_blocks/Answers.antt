use Rattle.std.proofs.Common.{refl, arith}
use Rattle.dns_check.proofs.Bitmaps.{left_with, no_blocks}
use Rattle.dns_check.proofs.bitmap.check_blocks.Goals as goal

pub returns-in-None-clause-refused : goal.returns-in-None-clause-refused
returns-in-None-clause-refused c = (refl, no_blocks c.windows-test.true c.windows.invariant c.in-None.ensures.none)

pub windows-preserved : goal.windows-preserved
windows-preserved c = left_with c.windows.invariant c.in-Some.ensures.fits (λ i. omega (arith, c.type_inv.octets i))
