use Rattle.std.proofs.{lemmas.List.take_rest, Common.arith}
use Rattle.dns_labels.proofs.CutSteps.{cut_found, cut_more, cut_all}
use Rattle.dns_labels.proofs.name_offsets.NameOffsets.shorter_tail.Goals as goal

pub returns-in-Some : goal.returns-in-Some
returns-in-Some c =
    let e = rw (take_rest c.args.octets.now c.labels.cut) at c.in-Some.ensures in
    cut_found c.args.message.now c.args.octets.now c.labels.cut c.in-Some.target.offset c.labels.invariant (omega arith) e.0 e.1

pub returns : goal.returns
returns c = cut_all c.args.message.now c.args.octets.now c.labels.cut c.labels.invariant (omega arith)

pub label_hash-hash-requires-clause-within : goal.label_hash-hash-requires-clause-within
label_hash-hash-requires-clause-within c = (cut_more c.args.octets.now c.labels.cut c.labels.invariant (omega arith)).within
