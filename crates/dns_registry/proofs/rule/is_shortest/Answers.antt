use Rattle.std.proofs.Common.{arith, refl}
use Rattle.dns_registry.proofs.ShortestBitmaps.{left_none, left_with, falls, ends_zero, no_window}
use Rattle.dns_registry.proofs.rule.is_shortest.Goals as goal

pub returns-in_default : goal.returns-in_default
returns-in_default c = (λ e. absurd cc, λ s. absurd (no_window c.windows.invariant c.windows-test.true c.in_default.ensures.none s))

pub returns-then-number-least : goal.returns-then-number-least
returns-then-number-least c = (λ e. absurd cc, λ s. absurd (falls c.windows.invariant c.in-Some.ensures.fits c.if-number-least.true s))

pub returns-then-rest-len-eq0 : goal.returns-then-rest-len-eq0
returns-then-rest-len-eq0 c = (λ e. absurd cc, λ s. absurd (ends_zero c.windows.invariant c.in-Some.ensures.fits c.if-rest-len-eq0.true s))

pub windows-preserved : goal.windows-preserved
windows-preserved c = left_with c.windows.invariant c.in-Some.ensures.fits c.if-number-least.false c.if-rest-len-eq0.false

pub returns : goal.returns
returns c = (λ e. left_none c.windows.invariant (omega (arith, c.windows-test.false)), λ s. refl)
