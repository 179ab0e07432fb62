use Rattle.std.proofs.Common.{◌∙◌, arith}
use Rattle.std.proofs.lemmas.List.{take_rest}
use Rattle.dns_rdata_c.proofs.PartOctets.{part_found}
use Rattle.dns_rdata_c.proofs.parts.part_at.Goals as goal

pub returns : goal.returns
returns c =
    let e = c.in_ok-rest.ensures.lookup.0.2 ∙ take_rest c.args.octets.now c.args.at in
    rw e (part_found c.args.octets.now c.args.at (λ i. omega (arith, c.type_inv.octets i)) (rw e at c.if-rest-lt4.false) (rw e at c.if-count-rest.false))
