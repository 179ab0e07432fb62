use Rattle.dns_rdata.proofs.canonical.of_value.Goals as goal

pub returns : goal.returns
returns g c = c.requires c.args.part c.args.item
