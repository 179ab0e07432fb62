use Rattle.dns_rdata.proofs.DataLaws.{one_value, each_region}
use Rattle.dns_rdata_laws.proofs.regions_hold.Goals as goal

pub returns-clause-one : goal.returns-clause-one
returns-clause-one c = one_value

pub returns-clause-each : goal.returns-clause-each
returns-clause-each c = each_region
