use Rattle.dns_zone_tokens.specs.NameTokens.{LabelsFault}
use Rattle.dns_zone_tokens.proofs.{FirstSteps.exit_fault, NamePuts.if_ok, NamePuts.if_err}
use Rattle.dns_zone_tokens.proofs.NameLabels.{none_read, front_read, stops_at, at_end, label_read, no_label}
use Rattle.dns_zone_tokens.proofs.names.read_labels.Goals as goal

pub returns-then-behind-eq0-clause-ok : goal.returns-then-behind-eq0-clause-ok
returns-then-behind-eq0-clause-ok c = if_ok _ _ c.last_label.result
    (λ mark read. read c.args.text.now (at_end c.args.text.now _ c.labels.wire.items _
    (front_read c.args.text.now c.labels.rest.now c.labels.wire.items c.plain_len-len.result c.labels.invariant c.plain_len-len.ensures.within c.plain_len-len.ensures.plain)
    c.if-behind-eq0.true))
    c.last_label.ensures.ok

pub returns-then-behind-eq0-clause-refused : goal.returns-then-behind-eq0-clause-refused
returns-then-behind-eq0-clause-refused c = if_err _ _ c.last_label.result
    (λ e fault. fault c.args.text.now (at_end c.args.text.now _ c.labels.wire.items _
    (front_read c.args.text.now c.labels.rest.now c.labels.wire.items c.plain_len-len.result c.labels.invariant c.plain_len-len.ensures.within c.plain_len-len.ensures.plain)
    c.if-behind-eq0.true))
    c.last_label.ensures.refused

pub returns-in_err-close_label-clause-refused : goal.returns-in_err-close_label-clause-refused
returns-in_err-close_label-clause-refused c = exit_fault (LabelsFault c.args.field.now c.args.text.now) c.from_residual.result _ c.from_residual.ensures.1
    (no_label c.args.field.now c.args.text.now _ c.labels.wire.items _ _
    (front_read c.args.text.now c.labels.rest.now c.labels.wire.items c.plain_len-len.result c.labels.invariant c.plain_len-len.ensures.within c.plain_len-len.ensures.plain)
    c.if-behind-eq0.false
    (stops_at c.labels.rest.now c.plain_len-len.result c.plain_len-len.ensures.within c.plain_len-len.ensures.stops c.if-behind-eq0.false c.if-behind-eq92.false)
    c.in_err-close_label.ensures.refused)

pub labels-init : goal.labels-init
labels-init c = rw c.requires (none_read c.args.text.now)

pub labels-preserved : goal.labels-preserved
labels-preserved c = label_read c.args.text.now _ c.labels.wire.items _ c.close_label.new.wire.items
    (front_read c.args.text.now c.labels.rest.now c.labels.wire.items c.plain_len-len.result c.labels.invariant c.plain_len-len.ensures.within c.plain_len-len.ensures.plain)
    c.if-behind-eq0.false
    (stops_at c.labels.rest.now c.plain_len-len.result c.plain_len-len.ensures.within c.plain_len-len.ensures.stops c.if-behind-eq0.false c.if-behind-eq92.false)
    c.in_ok-close_label.ensures.label c.in_ok-close_label.ensures.fits c.in_ok-close_label.ensures.put
