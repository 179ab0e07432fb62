use Rattle.std.proofs.Common.{◌≡◌, ℕ, List, ◌++◌, length}
use Rattle.std.specs.Fmt.{HasWritten, IsPlainFormatter}
use Rattle.base64.specs.{Engines.standard, GeneralPurpose.encode_of}
use Rattle.dns_rdata_zone.specs.Tokens.{tokens_from, in_tokens}
use Rattle.dns_rdata_zone.proofs.tokens.Base64TokensDisplay.fmt.Given as goal

abbrev pub decreases-tokens : goal.decreases-tokens
decreases-tokens g l = length l.rest

-- some tokens were written, and the digits that are left are the others
abbrev pub invariant-tokens : goal.invariant-tokens
invariant-tokens g l = IsPlainFormatter l.fn.f → (text : List ℕ) × HasWritten g.W.Write.write_str_gives l.fn.f text l.f
    × (text ++ tokens_from 1020 (encode_of standard l.rest) ≡ in_tokens (encode_of standard l.fn.self.0.now))
