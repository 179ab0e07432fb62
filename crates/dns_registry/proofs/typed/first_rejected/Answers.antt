use Rattle.std.proofs.Common.{arith}
use Rattle.std.proofs.lemmas.Option.{slice_get-get_or}
use Rattle.dns_registry.proofs.Passing.{first_more, all_passed}
use Rattle.dns_registry.proofs.typed.first_rejected.Goals as goal

pub rules-preserved : goal.rules-preserved
rules-preserved c = λ h. first_more c.rules.index _ c.args.rules.now _ _ _ _ _ h.stands
    (slice_get-get_or c.args.rules.now c.rules.index _ c.rules-test.true) (c.rules.invariant h) ((c.field_passes.ensures h).0 c.if-not-field_passes.false)

pub returns-clause-none : goal.returns-clause-none
returns-clause-none c = λ h. all_passed c.rules.index c.args.rules.now _ _ _ _ _ h.stands (omega (arith, c.rules-test.false)) (c.rules.invariant h)
