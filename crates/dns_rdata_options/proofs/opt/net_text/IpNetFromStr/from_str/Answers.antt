use Rattle.std.proofs.Common.{arith}
use Rattle.dns_rdata_options.proofs.NetTexts.{rsplit_parts, no_slash, no_prefix, net_parts, net_read}
use Rattle.dns_rdata_options.proofs.opt.net_text.IpNetFromStr.from_str.Goals as goal

pub returns-in_default : goal.returns-in_default
returns-in_default c = λ net is.
    let parts = rsplit_parts 47 c.args.text.now c.rsplit_once.result c.rsplit_once.ensures.cases (omega arith) in
    no_slash c.args.text.now net (rw c.in_default.is at parts) is

pub returns-in_default-prefix_of : goal.returns-in_default-prefix_of
returns-in_default-prefix_of c = λ net is.
    let parts = rsplit_parts 47 c.args.text.now c.rsplit_once.result c.rsplit_once.ensures.cases (omega arith) in
    no_prefix net (rw c.in-Some.is at parts) c.in_default-prefix_of.ensures.none is

pub returns-in_default-parse : goal.returns-in_default-parse
returns-in_default-parse c = λ net is.
    let parts = rsplit_parts 47 c.args.text.now c.rsplit_once.result c.rsplit_once.ensures.cases (omega arith) in
    c.in_default-parse.ensures.value net.0 (net_parts net (rw c.in-Some.is at parts) is).0

pub returns : goal.returns
returns c =
    let parts = rsplit_parts 47 c.args.text.now c.rsplit_once.result c.rsplit_once.ensures.cases (omega arith) in
    rw c.ok_or.ensures.value (net_read c.in-Ok.addr c.in-Some-prefix_of.prefix_len c.new.result _ (rw c.in-Some.is at parts) c.in-Ok.ensures.value
    c.in-Some-prefix_of.ensures.some c.new.ensures.some c.new.ensures.none)
