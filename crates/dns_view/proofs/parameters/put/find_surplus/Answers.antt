use Rattle.std.proofs.Common.{arith}
use Rattle.dns_check.proofs.HeldLists.{EndsAt}
use Rattle.dns_view.proofs.PutParameters.{none_yet, before_port, no_surplus, surplus_found, all_before}
use Rattle.dns_view.proofs.parameters.put.find_surplus.Goals as goal
use Rattle.dns_view.proofs.parameters.put.find_surplus.Goals.{then-key-gt3-via-then-key-gt3, then-key-gt3-via-else-key-gt3+then-end-offset-le6}

pub tlvs-init : goal.tlvs-init
tlvs-init c = none_yet c.args.octets.now

pub tlvs-preserved : goal.tlvs-preserved
tlvs-preserved c =
    let e : EndsAt c.args.octets.now c.tlvs.offset c.in-Some.end = record { room = c.in-Some.ensures.some; is = c.in-Some.ensures.is } in
    before_port c.tlvs.invariant e c.from_be_bytes-key.ensures (omega (arith, c.if-key-gt2.false))

pub returns-then-key-gt3-clause-none : goal.returns-then-key-gt3-clause-none
returns-then-key-gt3-clause-none c =
    let e : EndsAt c.args.octets.now c.tlvs.offset c.in-Some.end = record { room = c.in-Some.ensures.some; is = c.in-Some.ensures.is } in
    no_surplus c.tlvs.invariant e c.from_be_bytes-key.ensures (omega (arith, c.if-key-gt2.true)) (elim c.then-key-gt3.branch [
      | then-key-gt3-via-then-key-gt3 w ↦ λ three. absurd (omega (arith, three, w.if-key-gt3.true))
      | then-key-gt3-via-else-key-gt3+then-end-offset-le6 w ↦ λ three. omega (arith, w.if-end-offset-le6.true)
    ])

pub returns-then-key-gt2-clause-some : goal.returns-then-key-gt2-clause-some
returns-then-key-gt2-clause-some c =
    let e : EndsAt c.args.octets.now c.tlvs.offset c.in-Some.end = record { room = c.in-Some.ensures.some; is = c.in-Some.ensures.is } in
    surplus_found c.tlvs.invariant e c.from_be_bytes-key.ensures (omega (arith, c.if-key-gt2.true, c.if-key-gt3.false)) (omega (arith, c.if-end-offset-le6.false))

pub returns-clause-none : goal.returns-clause-none
returns-clause-none c = all_before c.tlvs.invariant c.in_default.ensures.none
