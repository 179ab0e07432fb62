use Rattle.std.proofs.Common.{◌+◌, refl, subst, List, ℕ}
use Rattle.dns_check.proofs.RowTests.{row_tested}
use Rattle.dns_registry.proofs.Passing.{Tells, shown_at, tells_at, passes_after, passes_free}
use Rattle.dns_registry.proofs.typed.field_passes.Goals as goal

pub returns-in-Free : goal.returns-in-Free
returns-in-Free c = λ h. (λ e. passes_free c.args.index c.args.rule _ _ _ _ _ h.stands c.in-Free.is, λ p. refl)

pub returns-in-Some : goal.returns-in-Some
returns-in-Some c =
    let view = c.args.view.now in
    let e = view.offset + view.len in
    let tells : Tells c.passes.result c.args.rule c.in-Some.field view.message.now =
    subst (λ (m : List ℕ). Tells c.passes.result c.args.rule c.in-Some.field m) c.message.ensures c.passes.ensures in
    λ h. tells_at c.passes.result c.args.rule c.in-Some.field view.message.now tells c.args.index view.offset view.row.now h.values e h.stands
    (shown_at c.args.index c.in-Some.field view.message.now view.offset view.row.now h.values e (row_tested view.row.now view.checked).ordered h.stands
    (c.in-Some.ensures h))

pub returns-in-None : goal.returns-in-None
returns-in-None c = λ h. (λ e. passes_after c.args.index c.args.rule _ _ _ _ _ h.stands (c.in-None.ensures h), λ p. refl)
