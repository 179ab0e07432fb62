use Rattle.std.proofs.Common.{refl, arith}
use Rattle.dns_zone_tokens.proofs.NearNames.{set_first, label_set, last_set, dot_set}
use Rattle.dns_zone_tokens.proofs.NameLabels.{stops_at}
use Rattle.dns_zone_tokens.proofs.near.put_labels.Goals as goal

pub labels-init : goal.labels-init
labels-init c = set_first c.args.text.now c.args.octets.now.items _ _ c.len-start.ensures.value c.if-not-put_after.ensures

pub returns-then-behind-eq0 : goal.returns-then-behind-eq0
returns-then-behind-eq0 c = last_set c.args.text.now c.labels.rest.now c.args.octets.now.items c.labels.octets.items c.set_octet.new.octets.items _ c.labels.start c.plain_len-len.result
    c.labels.invariant c.plain_len-len.ensures.within c.plain_len-len.ensures.plain (omega (arith, c.if-len-eq0.false)) (omega (arith, c.if-len-gt63.false))
    c.set_octet.ensures.set c.set_octet.ensures.fits refl c.if-behind-eq0.true

pub returns-then-rest-eq0 : goal.returns-then-rest-eq0
returns-then-rest-eq0 c = dot_set c.args.text.now _ c.args.octets.now.items c.set_octet.new.octets.items c.set_octet-then-rest-eq0.new.octets.items _
    (label_set c.args.text.now c.labels.rest.now c.args.octets.now.items c.labels.octets.items c.set_octet.new.octets.items _ c.labels.start c.plain_len-len.result
    c.labels.invariant c.plain_len-len.ensures.within c.plain_len-len.ensures.plain (omega (arith, c.if-len-eq0.false)) (omega (arith, c.if-len-gt63.false))
    c.set_octet.ensures.set c.set_octet.ensures.fits refl c.if-behind-eq0.false
    (stops_at c.labels.rest.now c.plain_len-len.result c.plain_len-len.ensures.within c.plain_len-len.ensures.stops c.if-behind-eq0.false c.if-behind-eq92.false))
    c.if-rest-eq0.true c.set_octet-then-rest-eq0.ensures.set

pub labels-preserved : goal.labels-preserved
labels-preserved c =
    label_set c.args.text.now c.labels.rest.now c.args.octets.now.items c.labels.octets.items c.set_octet.new.octets.items _ c.labels.start c.plain_len-len.result
    c.labels.invariant c.plain_len-len.ensures.within c.plain_len-len.ensures.plain (omega (arith, c.if-len-eq0.false)) (omega (arith, c.if-len-gt63.false))
    c.set_octet.ensures.set c.set_octet.ensures.fits refl c.if-behind-eq0.false
    (stops_at c.labels.rest.now c.plain_len-len.result c.plain_len-len.ensures.within c.plain_len-len.ensures.stops c.if-behind-eq0.false c.if-behind-eq92.false)
