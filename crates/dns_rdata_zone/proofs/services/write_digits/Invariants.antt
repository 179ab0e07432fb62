use Rattle.std.proofs.Common.{◌≡◌, ℕ, ◌*◌, List, ◌++◌, length}
use Rattle.std.specs.Fmt.{HasWritten, IsPlainFormatter}
use Rattle.hex.specs.Hex.{encode_lower}
use Rattle.dns_rdata_zone.specs.Tokens.{tokens_from}
use Rattle.dns_rdata_zone.proofs.services.write_digits.Given as goal

abbrev pub decreases-octets : goal.decreases-octets
decreases-octets g l = length l.octets.octets

-- some digits were written, and those of the octets that are left are the others
abbrev pub invariant-octets : goal.invariant-octets
invariant-octets g l = IsPlainFormatter l.fn.f → (text : List ℕ) × HasWritten g.W.Write.write_str_gives l.fn.f text l.f
    × (text ++ tokens_from (2 * l.left) (encode_lower l.octets.octets) ≡ tokens_from (2 * l.fn.left) (encode_lower l.fn.octets.octets))
