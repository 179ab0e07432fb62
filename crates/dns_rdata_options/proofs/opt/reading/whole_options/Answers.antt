use Rattle.std.proofs.Common.{sym, rules}
use Rattle.dns_check.proofs.{HeldLists.key_there, OptionLists.body_is}
use Rattle.dns_rdata_options.proofs.OptionLists.{made_none, made_more, made_all, made_read}
use Rattle.dns_rdata_options.proofs.opt.reading.whole_options.Goals as goal

pub tlvs-init : goal.tlvs-init
tlvs-init c = made_none c.args.octets.now (search rules)

pub tlvs-preserved : goal.tlvs-preserved
tlvs-preserved c =
    let t = c.in-Some.ensures.there in
    made_more _ c.tlvs.invariant c.in-Some.ensures.some t c.in-Some.ensures.is (key_there t.is c.from_be_bytes.ensures) (search rules) (body_is t)
    c.in-Ok.ensures (search rules)

pub returns-clause-made : goal.returns-clause-made
returns-clause-made c = rw c.new.ensures (made_all c.tlvs.invariant c.requires c.in_default.ensures.none)

pub returns-clause-read : goal.returns-clause-read
returns-clause-read c = rw c.new.ensures (made_read c.tlvs.invariant)
