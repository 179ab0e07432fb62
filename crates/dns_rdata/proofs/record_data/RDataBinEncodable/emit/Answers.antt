use Rattle.std.proofs.Common.{Ok}
use Rattle.dns_rdata.proofs.DataLaws.{emits_again, emits_emittable}
use Rattle.dns_rdata.specs.Data.{EmitsData}
use Rattle.dns_rdata.proofs.record_data.RDataBinEncodable.emit.Goals as goal

pub returns-clause-again : goal.returns-clause-again
unfolding EmitsData
returns-clause-again c = emits_again _ _ (Ok tt) _ _ c.len-written.ensures.octets c.in_ok-emit_by_type.ensures

pub returns-clause-fits : goal.returns-clause-fits
unfolding EmitsData
returns-clause-fits c = emits_emittable _ _ (Ok tt) _ _ c.in_ok-emit_by_type.ensures
