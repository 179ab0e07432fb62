use Rattle.dns_rdata_policy.proofs.Issuers.{one_issuer, issuer_written}
use Rattle.dns_rdata_policy.proofs.laws.issuers_hold.Goals as goal

pub returns-clause-one : goal.returns-clause-one
returns-clause-one c = one_issuer

pub returns-clause-written : goal.returns-clause-written
returns-clause-written c = issuer_written
