use Rattle.dns_names_wire.proofs.FieldWrites.{emits_extend}
use Rattle.dns_rdata.proofs.{DataLaws.emits_again, DataLaws.emits_emittable, WholeOctets.emits_whole, WholeOctets.emitted_whole}
use Rattle.dns_rdata.specs.Data.{EmitsData}
use Rattle.dns_rdata.proofs.record_data.RData.emit_whole.Goals as goal

pub returns-clause-emits : goal.returns-clause-emits
unfolding EmitsData
returns-clause-emits c = emitted_whole c.args.self.now _ _ c.args.encoder.now _ _ _ c.with_rdata_behavior-earlier.ensures.earlier c.with_rdata_behavior-earlier.ensures.set c.emit_other-outcome.ensures c.with_rdata_behavior.ensures.set

pub returns-clause-whole : goal.returns-clause-whole
unfolding EmitsData
returns-clause-whole c = emits_whole _ _ _ _ (returns-clause-emits c)

pub returns-clause-again : goal.returns-clause-again
unfolding EmitsData
returns-clause-again c = emits_again _ _ _ _ _ c.len-written.ensures.octets (returns-clause-emits c)

pub returns-clause-extends : goal.returns-clause-extends
unfolding EmitsData
returns-clause-extends c = emits_extend _ _ _ _ _ _ (returns-clause-emits c)

pub returns-clause-fits : goal.returns-clause-fits
unfolding EmitsData
returns-clause-fits c = emits_emittable _ _ _ _ _ (returns-clause-emits c)
