use Rattle.std.proofs.Common.{◌≡◌, ℕ, ◌+◌, ◌-◌, ◌*◌, List, ◌++◌, length}
use Rattle.std.specs.Fmt.{HasWritten, IsPlainFormatter}
use Rattle.hex.specs.Hex.{encode_lower}
use Rattle.dns_rdata_zone.specs.Tokens.{tokens_from}
use Rattle.dns_rdata_zone.proofs.tokens.HexTokensDisplay.fmt.Given as goal

abbrev pub decreases-tokens : goal.decreases-tokens
decreases-tokens g l = length l.rest + (510 - l.left)

-- some tokens were written, and the digits that are left are the others
abbrev pub invariant-tokens : goal.invariant-tokens
invariant-tokens g l = IsPlainFormatter l.fn.f → (text : List ℕ) × HasWritten g.W.Write.write_str_gives l.fn.f text l.f
    × (text ++ tokens_from (2 * l.left) (encode_lower l.rest) ≡ tokens_from (2 * l.fn.self.left) (encode_lower l.fn.self.octets.now))
