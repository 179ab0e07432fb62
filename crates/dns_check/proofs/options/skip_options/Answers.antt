use Rattle.std.proofs.Common.{◌++◌, ◌∷◌, [], arith, ◌<◌, ◌+◌}
use Rattle.dns_check.proofs.OptionLists.{option_taken, option_refused, subnet_refused, cut_taken}
use Rattle.dns_check.proofs.Subnets.{plain_held, subnet_at}
use Rattle.dns_check.proofs.options.skip_options.Goals as goal

pub tlvs-preserved-in-Ok : goal.tlvs-preserved-in-Ok
tlvs-preserved-in-Ok c =
    let h = subnet_at c.in-Ok-Some.code c.in-Ok-Some.octets.now c.if-code-eq-SUBNET.true c.in-Ok.ensures.found in (
      c.tlvs.invariant.0 ++ (c.in-Ok-Some.code, h.value) ∷ [],
      option_taken c.args.start c.args.len c.requires.before c.index-from.ensures.offset (omega (arith, c.index.ensures.offset)) c.tlvs.invariant.1
          (rw c.in-Ok-Some.field-0-is at c.in-Ok-Some.ensures) h,
    )

pub tlvs-preserved : goal.tlvs-preserved
tlvs-preserved c =
    let h = plain_held c.in-Ok-Some.code c.in-Ok-Some.octets.now c.if-code-eq-SUBNET.false in (
      c.tlvs.invariant.0 ++ (c.in-Ok-Some.code, h.value) ∷ [],
      option_taken c.args.start c.args.len c.requires.before c.index-from.ensures.offset (omega (arith, c.index.ensures.offset)) c.tlvs.invariant.1
          (rw c.in-Ok-Some.field-0-is at c.in-Ok-Some.ensures) h,
    )

pub returns-in-Err-check_subnet : goal.returns-in-Err-check_subnet
returns-in-Err-check_subnet c =
    let lt : c.tlvs.walk.index < c.args.start + c.args.len =
    omega (arith, c.index.ensures.offset, c.index-from.ensures.offset, c.index-in-tlvs.ensures.offset, c.tlvs-test.true, c.requires.before, c.if-len-read.false)
    in
    subnet_refused c.requires.before c.index-from.ensures.offset (omega (arith, c.index.ensures.offset)) lt c.tlvs.invariant.1
    (rw c.in-Ok-Some.field-0-is at c.in-Ok-Some.ensures) c.if-code-eq-SUBNET.true c.in-Err-check_subnet.ensures.refused

pub returns-in-Ok-None : goal.returns-in-Ok-None
returns-in-Ok-None c =
    cut_taken c.requires.before c.index-from.ensures.offset (omega (arith, c.index.ensures.offset)) c.tlvs.invariant.1
    (rw c.in-Ok-None.field-0-is at c.in-Ok-None.ensures)

pub returns-in-Err : goal.returns-in-Err
returns-in-Err c =
    let lt : c.tlvs.walk.index < c.args.start + c.args.len =
    omega (arith, c.index.ensures.offset, c.index-from.ensures.offset, c.index-in-tlvs.ensures.offset, c.tlvs-test.true, c.requires.before, c.if-len-read.false)
    in
    option_refused c.requires.before c.index-from.ensures.offset (omega (arith, c.index.ensures.offset)) lt c.tlvs.invariant.1 c.in-Err.ensures
