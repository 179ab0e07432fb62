use Rattle.dns_rdata.proofs.canonical.RDataStepped.step.Goals as goal

pub returns-in-CSYNC-clause-octets : goal.returns-in-CSYNC-clause-octets
returns-in-CSYNC-clause-octets c = rw c.in-CSYNC.is (c.csync_step.ensures.octets _)
