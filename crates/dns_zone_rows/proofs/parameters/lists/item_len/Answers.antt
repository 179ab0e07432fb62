use Rattle.std.proofs.{Common.arith, lemmas.Bool.Decides.nat_tests}
use Rattle.dns_zone_rows.proofs.ParameterItems.{two_more}
use Rattle.dns_zone_rows.proofs.parameters.lists.item_len.Goals as goal

pub octets-preserved-then-at-text : goal.octets-preserved-then-at-text
octets-preserved-then-at-text c = record {
  within = omega arith;
  so = two_more c.args.text.now c.octets.at c.octets.invariant.so (omega arith) (grind (arith, nat_tests)) (grind (arith, nat_tests));
}
