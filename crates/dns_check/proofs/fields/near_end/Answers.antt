use Rattle.dns_check.proofs.FieldEnds.{name_near}
use Rattle.dns_check.proofs.fields.near_end.Goals as goal

pub returns-in-Name-clause-skips : goal.returns-in-Name-clause-skips
returns-in-Name-clause-skips c = name_near c.args.part.now.rule c.args.start c.args.len c.near_name.result c.in-Name.is
    c.message.ensures c.index.ensures.offset c.near_name.ensures.some
