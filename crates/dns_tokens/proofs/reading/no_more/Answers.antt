use Rattle.dns_tokens.proofs.Steps.{nothing_refused}
use Rattle.dns_tokens.proofs.reading.no_more.Goals as goal

pub returns-in-Some-clause-refused : goal.returns-in-Some-clause-refused
returns-in-Some-clause-refused g c = nothing_refused _ _ c.in-Some.ensures.steps
