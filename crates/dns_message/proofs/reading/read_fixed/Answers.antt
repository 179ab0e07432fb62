use Rattle.std.proofs.Common.{◌+◌, ◌-◌, length, arith}
use Rattle.dns_message.proofs.Fields.{record_found, short_found, ends_after, length_passes}
use Rattle.dns_message.proofs.reading.read_fixed.Goals as goal

pub returns-then-after-lt-AFTER_OWNER-clause-none : goal.returns-then-after-lt-AFTER_OWNER-clause-none
returns-then-after-lt-AFTER_OWNER-clause-none c = short_found c.requires.name (omega arith)

pub returns-then-after-lt-AFTER_OWNER-clause-fault : goal.returns-then-after-lt-AFTER_OWNER-clause-fault
returns-then-after-lt-AFTER_OWNER-clause-fault c = ends_after 10 c.requires.name (omega arith)

pub returns-then-left-rdlength-clause-none : goal.returns-then-left-rdlength-clause-none
returns-then-left-rdlength-clause-none c =
    let left = length c.args.message.now - (c.args.end + 10) in
    (length_passes left c.requires.name c.number_at-record_type.ensures c.number_at-class.ensures c.long_at-ttl.ensures c.number_at-rdlength.ensures
    (omega arith) c.if-left-rdlength.true).1

pub returns-then-left-rdlength-clause-fault : goal.returns-then-left-rdlength-clause-fault
returns-then-left-rdlength-clause-fault c =
    let left = length c.args.message.now - (c.args.end + 10) in
    (length_passes left c.requires.name c.number_at-record_type.ensures c.number_at-class.ensures c.long_at-ttl.ensures c.number_at-rdlength.ensures
    (omega arith) c.if-left-rdlength.true).0

pub returns-clause-found : goal.returns-clause-found
returns-clause-found c =
    record_found c.requires.name c.number_at-record_type.ensures c.number_at-class.ensures c.long_at-ttl.ensures c.number_at-rdlength.ensures (omega arith)
