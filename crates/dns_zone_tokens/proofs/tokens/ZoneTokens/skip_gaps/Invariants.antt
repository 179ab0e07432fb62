use Rattle.std.proofs.Common.{◌≡◌, ◌+◌, ◌<◌, ◌≤◌, ◌^◌, length}
use Rattle.dns_zone_tokens.specs.{Spans.lefts_from, Tokens.between, Tokens.tokens_read_from, Tokens.seen_from}
use Rattle.dns_zone_tokens.proofs.tokens.ZoneTokens.skip_gaps.Given as goal

-- the same tokens are left
abbrev pub invariant-gaps : goal.invariant-gaps
invariant-gaps l = record {
  same : tokens_read_from (between l.depth l.joined) l.rest ≡ tokens_read_from (between l.fn.self.depth l.fn.self.joined) l.fn.self.text;
  seen : seen_from (between l.depth l.joined) l.rest ≡ seen_from (between l.fn.self.depth l.fn.self.joined) l.fn.self.text;
  left : lefts_from (between l.depth l.joined) l.rest ≡ lefts_from (between l.fn.self.depth l.fn.self.joined) l.fn.self.text;
  shorter : length l.rest ≤ length l.fn.self.text;
  room : l.depth + length l.rest < 2 ^ 64;
}

abbrev pub decreases-gaps : goal.decreases-gaps
decreases-gaps l = length l.rest
