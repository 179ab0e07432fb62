use Rattle.std.proofs.Common.{◌≢◌, ◌<◌, ◌≤◌, ◌-◌, ℕ, length, get_or}
use Rattle.dns_zone_tokens.proofs.texts.plain_len.Given as goal

-- no `\` is before the index
abbrev pub invariant-octets : goal.invariant-octets
invariant-octets l = record {
  within : l.at ≤ length l.text;
  plain : (k : ℕ) → k < l.at → get_or l.text k 0 ≢ 92;
}

abbrev pub decreases-octets : goal.decreases-octets
decreases-octets l = length l.text - l.at
