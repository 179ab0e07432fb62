use Rattle.dns_rdata_service.specs.SvcParamValue.{a_octets, aaaa_octets}
use Rattle.dns_rdata_service.proofs.ValueReads.{groups_emit}
use Rattle.dns_rdata_service.proofs.svcb.value.SvcParamValue.emit_octets.Goals as goal

pub returns-in-Ipv4Hint : goal.returns-in-Ipv4Hint
returns-in-Ipv4Hint c = rw c.in-Ipv4Hint.is
    (groups_emit 4 a_octets c.in-Ipv4Hint.value.0 c.emit-in-Ipv4Hint.result c.args.encoder.now c.emit-in-Ipv4Hint.new.encoder
    c.emit-in-Ipv4Hint.ensures.emits)

pub returns-in-Ipv6Hint : goal.returns-in-Ipv6Hint
returns-in-Ipv6Hint c = rw c.in-Ipv6Hint.is
    (groups_emit 16 aaaa_octets c.in-Ipv6Hint.value.0 c.emit-in-Ipv6Hint.result c.args.encoder.now c.emit-in-Ipv6Hint.new.encoder
    c.emit-in-Ipv6Hint.ensures.emits)
