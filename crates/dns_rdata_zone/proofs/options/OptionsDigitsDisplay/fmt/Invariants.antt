use Rattle.std.proofs.Common.{◌≡◌, ◌*◌, take, length}
use Rattle.std.specs.Fmt.{HasWritten, IsPlainFormatter}
use Rattle.hex.specs.Hex.{encode_lower}
use Rattle.dns_rdata_zone.specs.{Options.options_octets, Tokens.in_tokens, Tokens.left_after}
use Rattle.dns_rdata_zone.proofs.options.OptionsDigitsDisplay.fmt.Given as goal

-- the options so far were written, and the token takes as much as they left
abbrev pub invariant-loop-pair : goal.invariant-loop-pair
invariant-loop-pair g l = record {
  written : IsPlainFormatter l.fn.f
      → HasWritten g.W.Write.write_str_gives l.fn.f (in_tokens (encode_lower (options_octets (take l.pair-index l.pairs)))) l.f;
  left : 2 * l.left ≡ left_after 1020 (2 * length (options_octets (take l.pair-index l.pairs)));
}
