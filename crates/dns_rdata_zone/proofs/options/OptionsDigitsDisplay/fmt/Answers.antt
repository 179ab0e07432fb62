use Rattle.std.proofs.{Output.has_written_append, Output.has_written_of_eq, Common.refl, Common.sym, Common.ap, Common.rules, Common.ℕ, Common.List}
use Rattle.dns_rdata_zone.specs.Tokens.{in_tokens}
use Rattle.dns_rdata_zone.proofs.{Digits.hex_none, OptionDigits.option_written, OptionDigits.option_left}
use Rattle.dns_rdata_zone.proofs.options.OptionsDigitsDisplay.fmt.Goals as goal

pub loop-pair-init : goal.loop-pair-init
loop-pair-init g c =
    record { written = λ p. has_written_of_eq _ _ _ _ _ (ap (λ (s : List ℕ). in_tokens s) (sym hex_none)) (let plain = p in search rules); left = refl }

pub loop-pair-preserved : goal.loop-pair-preserved
loop-pair-preserved g c =
    let i = c.loop-pair.invariant in
    let pairs = c.args.self.now.0.now in
    let p = c.pair-item.result in
    record {
      written = λ plain.
          let before = i.written plain in
          has_written_of_eq _ _ _ _ _ (option_written pairs c.loop-pair.pair-index c.loop-pair.left p c.loop-pair-test.true c.pair-item.is i.left)
          (has_written_append _ _ _ _ _ _ before (c.in_ok-write.ensures.writes before.plain refl));
      left = option_left pairs c.loop-pair.pair-index c.loop-pair.left c.left_after-left.result c.option_len-len.result p c.loop-pair-test.true c.pair-item.is i.left
          c.left_after-left.ensures c.option_len-len.ensures;
    }
