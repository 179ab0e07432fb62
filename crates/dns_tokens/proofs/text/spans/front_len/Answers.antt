use Rattle.dns_tokens.specs.Kinds.{is_of}
use Rattle.dns_tokens.proofs.SpanSteps.{counted}
use Rattle.dns_tokens.proofs.text.spans.front_len.Goals as goal

pub returns : goal.returns
returns c = counted (is_of c.args.kind) c.args.text.now c.as_bytes-octets.result.now c.as_bytes-octets.ensures.value c.quiet_front-len.ensures.within
    c.quiet_front-len.ensures.kind c.looked_at.ensures.len
