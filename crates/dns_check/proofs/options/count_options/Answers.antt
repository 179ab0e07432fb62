use Rattle.std.proofs.Common.{sym, subst, ◌∙◌}
use Rattle.std.proofs.Common.{arith}
use Rattle.dns_check.specs.Options.{HasOption}
use Rattle.dns_check.proofs.HeldLists.{key_there}
use Rattle.dns_check.proofs.OptionLists.{none_read, one_read, all_read, all_counted, body_is}
use Rattle.dns_check.proofs.Subnets.{plain_held, subnet_at}
use Rattle.dns_check.proofs.options.count_options.Goals as goal

pub tlvs-init : goal.tlvs-init
tlvs-init c = none_read c.args.octets.now

pub tlvs-preserved-in-Ok : goal.tlvs-preserved-in-Ok
tlvs-preserved-in-Ok c =
    let t = c.in-Some.ensures.there in
    let eight = sym (key_there t.is c.from_be_bytes-code.ensures) ∙ c.if-code-eq-SUBNET.true in
    one_read c.tlvs.invariant c.in-Some.ensures.some t (subnet_at t.key t.body eight (subst (HasOption 8) (body_is t) c.in-Ok.ensures.found))

pub tlvs-preserved : goal.tlvs-preserved
tlvs-preserved c =
    let t = c.in-Some.ensures.there in
    let key = key_there t.is c.from_be_bytes-code.ensures in
    one_read c.tlvs.invariant c.in-Some.ensures.some t (plain_held t.key t.body (λ e. c.if-code-eq-SUBNET.false (key ∙ e)))

pub returns : goal.returns
returns c = record { options = all_read c.tlvs.invariant (omega arith); count = all_counted c.tlvs.invariant (omega arith) }
