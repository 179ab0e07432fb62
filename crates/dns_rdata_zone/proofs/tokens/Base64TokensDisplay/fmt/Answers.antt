use Rattle.std.proofs.{lemmas.List.length-take, Output.has_written_append, Output.has_written_of_eq}
use Rattle.std.proofs.Common.{take, [], ◌∷◌, rules, arith}
use Rattle.std.specs.Fmt.{HasWritten}
use Rattle.base64.specs.{Engines.standard, GeneralPurpose.encode_of}
use Rattle.dns_rdata_zone.proofs.TokenSteps.{base64_step, base64_last}
use Rattle.dns_rdata_zone.proofs.tokens.Base64TokensDisplay.fmt.Goals as goal

pub slice_bounds-token-end : goal.slice_bounds-token-end
slice_bounds-token-end g c = omega (arith, length-take 765 c.tokens.rest.now, c.tokens-test.true)

pub tokens-preserved : goal.tokens-preserved
tokens-preserved g c = λ p.
    let i = c.tokens.invariant p in
    let put = g.W.Write.write_str_gives in
    let first : HasWritten put c.tokens.f (encode_of standard (take 765 c.tokens.rest.now)) c.write.new.self = let plain = i.1.plain in search rules in
    let next : HasWritten put c.write.new.self (32 ∷ []) c.write_str.new.self = let plain = first.plain in search rules in (
      _,
      has_written_append put _ _ _ _ _ i.1 (has_written_append put _ _ _ _ _ first next),
      base64_step c.tokens.rest.now i.0 _ c.tokens-test.true i.2,
    )

pub returns-clause-writes : goal.returns-clause-writes
returns-clause-writes g c = λ p ok.
    let i = c.tokens.invariant p in
    has_written_of_eq _ _ _ _ _ (base64_last c.tokens.rest.now i.0 _ c.tokens-test.false i.2)
    (has_written_append _ _ _ _ _ _ i.1 (c.write-2.ensures.writes i.1.plain ok))
