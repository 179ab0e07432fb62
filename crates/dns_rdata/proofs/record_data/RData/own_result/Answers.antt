use Rattle.std.proofs.Common.{Result, Ok, Err}
use Rattle.std.specs.Result.{IfErr}
use Rattle.dns_types.specs.declared.error.DecodeError.{DecodeError}
use Rattle.dns_names_wire.specs.Terms.{UnlessMemory}
use Rattle.dns_names_wire.proofs.FieldReads.{unless_all}
use Rattle.dns_rdata.proofs.record_data.RData.own_result.Goals as goal

-- the view's clause speaks of every error
at_memory : (P : Type 0) (r : Result (Unit {0}) DecodeError) → IfErr r (λ e. P) → IfErr r (λ e. UnlessMemory e P)
at_memory P (Ok x) h = tt
at_memory P (Err e) h = unless_all e h

pub returns-clause-refused : goal.returns-clause-refused
returns-clause-refused c = at_memory _ c.own_result.result c.own_result.ensures.refused
