use Rattle.std.proofs.Common.{refl, arith}
use Rattle.std.proofs.lemmas.Grind.{common_steps}
use Rattle.dns_message.proofs.edns.edns_of.Goals as goal

pub returns : goal.returns
returns c = record {
  size = refl;
  rcode = refl;
  version = grind (arith, common_steps);
  dnssec_ok = c.is_set-dnssec_ok.ensures;
  reserved = grind (arith, common_steps);
}
