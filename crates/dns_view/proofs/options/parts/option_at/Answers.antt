use Rattle.std.proofs.Common.{arith}
use Rattle.dns_view.proofs.OptionOwn.{past_there, none_there, whole_there}
use Rattle.dns_view.proofs.options.parts.option_at.Goals as goal

pub returns-then-offset-len : goal.returns-then-offset-len
returns-then-offset-len c = past_there c.args.octets.now c.args.offset (omega arith)

pub returns-then-len-offset-lt4 : goal.returns-then-len-offset-lt4
returns-then-len-offset-lt4 c = past_there c.args.octets.now c.args.offset (omega arith)

pub returns-then-len-offset : goal.returns-then-len-offset
returns-then-len-offset c = none_there c.args.octets.now c.args.offset c.from_be_bytes-size.result c.from_be_bytes-size.ensures (omega arith)

pub returns : goal.returns
returns c = whole_there c.args.octets.now c.args.offset c.from_be_bytes-size.result c.from_be_bytes-size.ensures (omega arith)
