use Rattle.std.proofs.Common.{refl, arith}
use Rattle.std.proofs.lemmas.List.{length-take}
use Rattle.dns_rdata_c.proofs.PartOctets.{part_room, next_part, no_next}
use Rattle.dns_rdata_c.proofs.parts.dns_rdata_parts_next.Goals as goal

pub returns-in_default-clause-absent : goal.returns-in_default-clause-absent
returns-in_default-clause-absent c = λ is p n t i before. no_next c.args.parts.now before c.in_default.ensures

pub returns-clause-ok : goal.returns-clause-ok
returns-clause-ok c = λ is p n t i before. next_part c.args.parts.now _ before c.in-Some.ensures refl refl

pub returns-clause-within : goal.returns-clause-within
returns-clause-within c = λ is. omega (arith, (part_room c.in-Some.ensures).0, length-take c.args.parts.now.end c.args.rdata.now.message.now)
