use Rattle.dns_rdata_service.specs.SvcParamValue.{a_octets}
use Rattle.dns_rdata_service.proofs.ValueReads.{groups_fit, groups_body}
use Rattle.dns_rdata_service.proofs.svcb.value.hint4.Goals as goal

pub returns : goal.returns
returns c =
    let read = rw c.new.ensures at c.read.ensures.reads in
    record {
      fit = groups_fit 4 a_octets c.args.octets.now c.read.new.decoder c.read.result read;
      body = groups_body 4 a_octets c.args.octets.now c.read.new.decoder c.read.result read;
    }
