use Rattle.std.proofs.Common.{◌≡◌, ℕ, ◌+◌, ◌≤◌, false, length}
use Rattle.std.specs.List.{slice_get}
use Rattle.dns_zone_tokens.specs.{Spans.lefts_at, Spans.lefts_from, Tokens.between}
use Rattle.dns_zone_tokens.proofs.spans.token_span.Given as goal

-- so many tokens were passed
abbrev pub invariant-loop : goal.invariant-loop
invariant-loop l = record {
  few : length l.tokens.text ≤ length l.text;
  passed : (j : ℕ) → slice_get (lefts_from (between 0 false) l.text) (l.counter + j) ≡ slice_get (lefts_at l.tokens) j;
}
