use Rattle.std.proofs.{Common.arith, lemmas.Bool.Decides.nat_tests}
use Rattle.dns_zone_tokens.proofs.TokenSteps.{quotes_line, quotes_quiet, quotes_escape, tokens_walk, seen_walk, lefts_walk}
use Rattle.dns_zone_tokens.proofs.tokens.quoted_len.Goals as goal

pub octets-init : goal.octets-init
octets-init c = record {
  within = c.quiet_len-at.ensures.within;
  so = quotes_quiet tokens_walk c.args.text.now c.quiet_len-at.result c.quiet_len-at.ensures.within c.quiet_len-at.ensures.quiet;
  seen = quotes_quiet seen_walk c.args.text.now c.quiet_len-at.result c.quiet_len-at.ensures.within c.quiet_len-at.ensures.quiet;
  left = quotes_quiet lefts_walk c.args.text.now c.quiet_len-at.result c.quiet_len-at.ensures.within c.quiet_len-at.ensures.quiet;
}

pub returns-then-text-at-eq10-clause-refused : goal.returns-then-text-at-eq10-clause-refused
returns-then-text-at-eq10-clause-refused c =
    quotes_line c.args.text.now c.octets.at c.octets.invariant.so c.octets.invariant.seen c.octets.invariant.left (omega arith) (grind (arith, nat_tests)) (grind (arith, nat_tests))

pub octets-preserved-then-not-is_number : goal.octets-preserved-then-not-is_number
octets-preserved-then-not-is_number c = record {
  within = omega (arith, c.quiet_behind_escape-at.ensures.within);
  so = quotes_escape tokens_walk c.args.text.now c.octets.at c.quiet_behind_escape-at.result c.octets.invariant.so (omega arith) (grind (arith, nat_tests))
      (grind (arith, nat_tests)) (grind (arith, nat_tests)) (omega (arith, c.quiet_behind_escape-at.ensures.within)) c.quiet_behind_escape-at.ensures.quiet;
  seen = quotes_escape seen_walk c.args.text.now c.octets.at c.quiet_behind_escape-at.result c.octets.invariant.seen (omega arith) (grind (arith, nat_tests))
      (grind (arith, nat_tests)) (grind (arith, nat_tests)) (omega (arith, c.quiet_behind_escape-at.ensures.within)) c.quiet_behind_escape-at.ensures.quiet;
  left = quotes_escape lefts_walk c.args.text.now c.octets.at c.quiet_behind_escape-at.result c.octets.invariant.left (omega arith) (grind (arith, nat_tests))
      (grind (arith, nat_tests)) (grind (arith, nat_tests)) (omega (arith, c.quiet_behind_escape-at.ensures.within)) c.quiet_behind_escape-at.ensures.quiet;
}
