use Rattle.dns_rdata_policy.proofs.csync.csync_step.Goals as goal

pub returns-in-1-clause-octets : goal.returns-in-1-clause-octets
returns-in-1-clause-octets c = rw c.in-1.is c.window_step.ensures.octets
