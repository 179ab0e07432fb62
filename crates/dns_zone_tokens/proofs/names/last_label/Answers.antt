use Rattle.std.proofs.Common.{List, ℕ, [], arith}
use Rattle.dns_zone_tokens.specs.{NameSteps.ReadSoFar, NameTokens.LabelsFault}
use Rattle.dns_zone_tokens.proofs.{FirstSteps.exit_fault, NameLabels.no_last, NameLabels.end_dot, NameLabels.end_label}
use Rattle.dns_zone_tokens.proofs.names.last_label.Goals as goal

pub returns-then-label-eq0-clause-ok : goal.returns-then-label-eq0-clause-ok
returns-then-label-eq0-clause-ok c = λ text so. end_dot text c.args.wire.now.items c.args.label.now so c.if-label-eq0.true

pub returns-in_err-close_label-clause-refused : goal.returns-in_err-close_label-clause-refused
returns-in_err-close_label-clause-refused c =
    exit_fault (λ e. (text : List ℕ) → ReadSoFar text [] c.args.wire.now.items c.args.label.now → LabelsFault c.args.field.now text e) c.from_residual.result _
    c.from_residual.ensures.1
    (λ text so. no_last c.args.field.now text c.args.wire.now.items c.args.label.now _ so (omega (arith, c.if-label-eq0.false)) c.in_err-close_label.ensures.refused)

pub returns-clause-ok : goal.returns-clause-ok
returns-clause-ok c = λ text so. end_label text c.args.wire.now.items c.args.label.now c.close_label.new.wire.items so c.in_ok-close_label.ensures.label
    c.in_ok-close_label.ensures.fits c.in_ok-close_label.ensures.put
