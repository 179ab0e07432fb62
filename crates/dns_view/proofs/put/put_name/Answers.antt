use Rattle.std.proofs.Common.{arith, ◌≤◌, length, take, ℕ, length-take, length-drop}
use Rattle.dns_names_wire.proofs.NameSteps.{no_first, no_next}
use Rattle.dns_view.proofs.Puts.{putting_first, putting_next, putting_last, run_octets}
use Rattle.dns_view.proofs.put.put_name.Goals as goal

pub returns-in_err-first-clause-none : goal.returns-in_err-first-clause-none
returns-in_err-first-clause-none c = rw c.from_residual.ensures (no_first c.in_err-first.ensures.none)

pub runs-init : goal.runs-init
runs-init c =
    let r = run_octets c.in_ok-first.ensures.some c.requires.offset in (
      putting_first c.requires.offset c.in_ok-first.ensures.some (omega arith) c.put_cased-at.ensures.put,
      c.in_ok-first.ensures.end,
      omega
          (arith, r.1, c.put_cased-at.ensures.ends, length-take {A = ℕ}, length-drop {A = ℕ}),
      c.in_ok-first.ensures.some.room,
    )

pub returns-in_err-run-clause-none : goal.returns-in_err-run-clause-none
returns-in_err-run-clause-none c = rw c.from_residual-in_err-run.ensures (no_next (rw c.in-Some.is at c.runs.invariant.0.going) c.in_err-run.ensures.none)

pub runs-preserved : goal.runs-preserved
runs-preserved c =
    let so = rw c.in-Some.is at c.runs.invariant.0 in
    let inside : c.in-Some.target ≤ length (take c.runs.offset c.runs.region.now) =
    omega (arith, so.going.pending.within, length-take c.runs.offset c.runs.region.now) in
    let r = run_octets c.in_ok-run.ensures.some inside in (
      putting_next so (omega arith) c.in_ok-run.ensures.some (omega arith) c.put_cased-at-in-Some.ensures.put,
      c.runs.invariant.1,
      omega (arith, r.0, r.1, c.put_cased-at-in-Some.ensures.ends, length-take {A = ℕ}, length-drop {A = ℕ}),
      c.in_ok-run.ensures.some.room,
    )

pub returns-clause-some : goal.returns-clause-some
returns-clause-some c = putting_last (rw c.in_default.is at c.runs.invariant.0) c.put_zero.ensures
