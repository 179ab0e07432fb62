use Rattle.std.proofs.Common.{◌≡◌, ℕ, Bool, [], length, take, drop, ◌-◌, ◌≤◌}
use Rattle.dns_zone_tokens.specs.{Spans.lefts_from, Tokens.quotes, Tokens.tokens_read_from, Tokens.seen_from}
use Rattle.dns_zone_tokens.proofs.tokens.quoted_len.Given as goal

-- the token is what was passed so far, and goes on
abbrev pub invariant-octets : goal.invariant-octets
invariant-octets l = record {
  within : l.at ≤ length l.text;
  so : (depth : ℕ) (joined : Bool)
      → tokens_read_from (quotes depth joined []) l.text ≡ tokens_read_from (quotes depth joined (take l.at l.text)) (drop l.at l.text);
  seen : (depth : ℕ) (joined : Bool) → seen_from (quotes depth joined []) l.text ≡ seen_from (quotes depth joined (take l.at l.text)) (drop l.at l.text);
  left : (depth : ℕ) (joined : Bool) → lefts_from (quotes depth joined []) l.text ≡ lefts_from (quotes depth joined (take l.at l.text)) (drop l.at l.text);
}

abbrev pub decreases-octets : goal.decreases-octets
decreases-octets l = length l.text - l.at
