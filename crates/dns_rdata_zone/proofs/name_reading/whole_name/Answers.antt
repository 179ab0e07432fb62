use Rattle.dns_rdata_zone.proofs.NameTexts.{read_whole}
use Rattle.dns_rdata_zone.proofs.name_reading.whole_name.Goals as goal

pub returns-in-Ok-clause-found : goal.returns-in-Ok-clause-found
returns-in-Ok-clause-found c =
    read_whole c.args.octets.now c.new-decoder.result c.in-Ok.name c.read.new.decoder.index c.new-decoder.ensures c.in-Ok.ensures.reads.1
