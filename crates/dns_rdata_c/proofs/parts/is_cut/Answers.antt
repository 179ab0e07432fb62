use Rattle.std.proofs.Common.{◌≤◌, length, arith}
use Rattle.std.proofs.lemmas.Bool.{ltb-true, lt-ltb}
use Rattle.dns_rdata_c.proofs.PartOctets.{cut_is, cut_says}
use Rattle.dns_rdata_c.proofs.parts.is_cut.Goals as goal

pub returns-then-count-most : goal.returns-then-count-most
returns-then-count-most c =
    let few : 4 ≤ length c.args.octets.now = omega (arith, c.if-len-lt4.false) in (
      λ e. cut_is c.args.octets.now c.args.most (λ i. omega (arith, c.type_inv.octets i)) few c.if-count-most.true (ltb-true _ _ e),
      λ cut. lt-ltb _ _ (cut_says c.args.octets.now c.args.most few cut).1,
    )
