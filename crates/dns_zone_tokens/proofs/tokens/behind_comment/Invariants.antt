use Rattle.std.proofs.Common.{◌≡◌, ◌≤◌, ℕ, length}
use Rattle.dns_zone_tokens.specs.{Spans.lefts_from, Tokens.comment, Tokens.over_comment, Tokens.tokens_read_from, Tokens.seen_from}
use Rattle.dns_zone_tokens.proofs.tokens.behind_comment.Given as goal

abbrev pub invariant-octets : goal.invariant-octets
invariant-octets l = record {
  within : (depth : ℕ) → tokens_read_from (comment depth) l.text ≡ tokens_read_from (comment depth) l.rest;
  seen : (depth : ℕ) → seen_from (comment depth) l.text ≡ seen_from (comment depth) l.rest;
  left : (depth : ℕ) → lefts_from (comment depth) l.text ≡ lefts_from (comment depth) l.rest;
  over : tokens_read_from over_comment l.text ≡ tokens_read_from over_comment l.rest;
  shorter : length l.rest ≤ length l.text;
}

abbrev pub decreases-octets : goal.decreases-octets
decreases-octets l = length l.rest
