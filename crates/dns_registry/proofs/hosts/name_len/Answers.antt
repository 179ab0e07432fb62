use Rattle.std.specs.Prelude.{ℕ, Option}
use Rattle.std.proofs.Common.{subst}
use Rattle.dns_names_wire.specs.NameEnds.{SkipsRun}
use Rattle.dns_registry.proofs.HostSteps.{pointer_first, no_run}
use Rattle.dns_registry.proofs.hosts.name_len.Goals as goal

pub returns-in-Some-next-clause-none : goal.returns-in-Some-next-clause-none
returns-in-Some-next-clause-none c =
    pointer_first (subst (λ (n : Option ℕ). SkipsRun c.args.octets.now 0 n c.in-Some.run'.end 0 c.in-Some.run'.octets) c.in-Some-next.is c.in-Some.ensures.some)

pub returns-in-None-clause-none : goal.returns-in-None-clause-none
returns-in-None-clause-none c = no_run c.in-None.ensures.none
