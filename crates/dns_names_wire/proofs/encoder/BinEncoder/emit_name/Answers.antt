use Rattle.dns_names_wire.proofs.Names.{emitted_name}
use Rattle.dns_names_wire.proofs.encoder.BinEncoder.emit_name.Goals as goal

pub returns-clause-emits : goal.returns-clause-emits
returns-clause-emits c = let e = c.append_name.ensures in emitted_name c.append_name.new.message c.self.view_is c.args.octets.now c.args.is_fqdn
    c.append_name.result c.requires e.stays e.ok e.within e.err e.full
