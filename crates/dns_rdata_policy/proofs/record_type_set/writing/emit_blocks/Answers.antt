use Rattle.std.proofs.{Common.◌≡◌, Common.length, Common.take, Common.length-take, Common.arith, lemmas.Result.err_from_is_err_and}
use Rattle.dns_rdata_policy.proofs.{Rising.set_drop, WindowSteps.left_next, WindowSteps.left_stopped, WindowSteps.left_none}
use Rattle.dns_rdata_policy.proofs.record_type_set.writing.emit_blocks.Goals as goal

pub returns-in_err-emit_both : goal.returns-in_err-emit_both
returns-in_err-emit_both c =
    let p = err_from_is_err_and c.from_residual.result c.from_residual.ensures.1 in
    let w = c.first_window-window.result in
    let o = c.first_window-window.new.octets in
    let size : length (take w.len o) ≡ w.len = omega (arith, length-take w.len o) in
    rw (p.1, p.2) (left_stopped _ (w.number, take w.len o) _ c.loop-rest.invariant c.first_window-window.ensures.next
    (rw size c.in_err-emit_both.ensures.emits))

pub loop-rest-preserved : goal.loop-rest-preserved
loop-rest-preserved c =
    let w = c.first_window-window.result in
    let o = c.first_window-window.new.octets in
    let size : length (take w.len o) ≡ w.len = omega (arith, length-take w.len o) in
    rw c.split_at.ensures.back (left_next (w.number, take w.len o) _ c.loop-rest.invariant c.first_window-window.ensures.next
    (set_drop w.count _ c.loop-rest.invariant.set) (rw size c.in_ok-emit_both.ensures.emits))

pub returns : goal.returns
returns c = left_none c.requires (omega arith) c.loop-rest.invariant
