use Rattle.dns_zone_tokens.proofs.TokenSteps.{run_quiet, tokens_walk, seen_walk, lefts_walk}
use Rattle.dns_zone_tokens.proofs.tokens.run_len_from.Goals as goal

pub octets-init : goal.octets-init
octets-init c = record {
  within = c.requires.within;
  so = run_quiet tokens_walk c.args.text.now c.args.start c.requires.within c.requires.quiet;
  seen = run_quiet seen_walk c.args.text.now c.args.start c.requires.within c.requires.quiet;
  left = run_quiet lefts_walk c.args.text.now c.args.start c.requires.within c.requires.quiet;
}
