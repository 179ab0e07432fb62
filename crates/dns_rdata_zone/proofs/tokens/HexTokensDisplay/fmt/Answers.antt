use Rattle.std.proofs.{Common.take, Common.[], Common.◌∷◌, Common.rules, Output.has_written_append, Output.has_written_of_eq}
use Rattle.std.specs.Fmt.{HasWritten}
use Rattle.hex.specs.Hex.{encode_lower}
use Rattle.dns_rdata_zone.proofs.TokenSteps.{hex_step, hex_last}
use Rattle.dns_rdata_zone.proofs.tokens.HexTokensDisplay.fmt.Goals as goal

pub tokens-preserved : goal.tokens-preserved
tokens-preserved g c = λ p.
    let i = c.tokens.invariant p in
    let put = g.W.Write.write_str_gives in
    let first : HasWritten put c.tokens.f (encode_lower (take c.tokens.left c.tokens.rest.now)) c.write.new.self = let plain = i.1.plain in search rules in
    let next : HasWritten put c.write.new.self (32 ∷ []) c.write_str.new.self = let plain = first.plain in search rules in (
      _,
      has_written_append put _ _ _ _ _ i.1 (has_written_append put _ _ _ _ _ first next),
      hex_step c.tokens.left c.tokens.rest.now i.0 _ c.tokens-test.true i.2,
    )

pub returns-clause-writes : goal.returns-clause-writes
returns-clause-writes g c = λ p ok.
    let i = c.tokens.invariant p in
    has_written_of_eq _ _ _ _ _ (hex_last c.tokens.left c.tokens.rest.now i.0 _ c.tokens-test.false i.2)
    (has_written_append _ _ _ _ _ _ i.1 (c.write-2.ensures.writes i.1.plain ok))
