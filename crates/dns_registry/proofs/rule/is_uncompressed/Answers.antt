use Rattle.std.proofs.Common.{arith, refl, subst}
use Rattle.std.specs.Prelude.{ℕ, Option}
use Rattle.dns_fields.proofs.Stays.{stands_before}
use Rattle.dns_names_wire.specs.NameEnds.{SkipsRun}
use Rattle.dns_names_wire.proofs.NameSteps.{no_first}
use Rattle.dns_registry.proofs.Rules.{run_whole, run_pointed}
use Rattle.dns_registry.proofs.rule.is_uncompressed.Goals as goal

pub returns-then-message-offset : goal.returns-then-message-offset
returns-then-message-offset c = λ x q h. (λ e. absurd cc, λ e. absurd (omega (arith, stands_before h.stands, c.if-message-offset.true)))

pub returns-in-Some-next : goal.returns-in-Some-next
returns-in-Some-next c = λ x q h. (
  λ e. absurd cc,
  λ e. let r = subst (λ (n : Option ℕ). SkipsRun c.args.message.now c.args.offset n c.in-Some.run'.end 0 c.in-Some.run'.octets) c.in-Some-next.is c.in-Some.ensures.some in
      absurd (run_pointed r.run h e),
)

pub returns-in-None-next : goal.returns-in-None-next
returns-in-None-next c = λ x q h. (
  λ e. let r = subst (λ (n : Option ℕ). SkipsRun c.args.message.now c.args.offset n c.in-Some.run'.end 0 c.in-Some.run'.octets) c.in-None-next.is c.in-Some.ensures.some in
      run_whole r.run h,
  λ e. refl,
)

pub returns-in-None : goal.returns-in-None
returns-in-None c = λ x q h. (λ e. absurd cc, λ e. absurd (no_first c.in-None.ensures.none x q h))
