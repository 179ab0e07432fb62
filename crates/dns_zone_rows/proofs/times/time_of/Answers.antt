use Rattle.std.proofs.Common.{refl}
use Rattle.dns_zone_rows.proofs.times.time_of.Goals as goal

pub returns-in-None-clause-reads : goal.returns-in-None-clause-reads
returns-in-None-clause-reads c = record { none = λ n is. c.in-None.ensures.none n is.1 }

pub returns-in-None-clause-why : goal.returns-in-None-clause-why
returns-in-None-clause-why c = (refl, record { none = λ n is. c.in-None.ensures.none n is.1 })
