use Rattle.std.proofs.{Common.◌≡◌, Common.◌∙◌, Common.ap, Common.sym, Common.Err, lemmas.Result.err_from_is_err_and}
use Rattle.dns_labels.specs.declared.error.NameError.{TheVariants.Invalid, NameError}
use Rattle.dns_names_wire.proofs.Building.{no_more}
use Rattle.dns_names_wire.proofs.name.building.join_labels.Goals as goal

pub returns-in_err-append_label-clause-refused : goal.returns-in_err-append_label-clause-refused
returns-in_err-append_label-clause-refused c = λ e is.
    let p = err_from_is_err_and c.from_residual.result c.from_residual.ensures.1 in
    let invalid : p.0 ≡ Invalid = cc (sym p.1 ∙ e) in
    let none = c.in_err-append_label.ensures.refused (ap (λ (x : NameError). Err x) (sym p.2 ∙ invalid)) in
    no_more (λ label. label.now) c.args.labels.now c.loop-label.label-index _ _ c.loop-label-test.true c.loop-label.invariant.1 none is
