use Rattle.dns_rdata_service.proofs.SvcbValues.{unnamed_value}
use Rattle.dns_rdata_service.proofs.svcb.value.SvcParamValue.of_octets.Goals as goal

pub returns-in_ok-read-in-Key : goal.returns-in_ok-read-in-Key
returns-in_ok-read-in-Key c =
    unnamed_value c.args.key _ _ c.requires c.in-Key.is (rw c.new-decoder.ensures at c.in_ok-read-in-Key.ensures.reads.1.body)
