use Rattle.dns_zone_rows.proofs.TimeSteps.{no_date}
use Rattle.dns_zone_rows.proofs.times.seconds_of.Goals as goal

pub returns-then-text-eq14-clause-none : goal.returns-then-text-eq14-clause-none
returns-then-text-eq14-clause-none c = no_date c.seconds_of_date.result c.args.text.now c.if-text-eq14.true c.seconds_of_date.ensures.none
