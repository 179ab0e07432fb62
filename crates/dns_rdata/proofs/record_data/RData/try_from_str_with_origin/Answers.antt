use Rattle.std.proofs.Common.{ap, map}
use Rattle.std.specs.Cow.{cow_str_bytes}
use Rattle.dns_tokens.specs.Plain.{IsPlain}
use Rattle.dns_tokens.proofs.PlainSteps.{plain_words}
use Rattle.dns_rdata.proofs.DataTokens.{items_left, words_left, each_read, text_read, no_tokens_read, refused_early, refused_by_name}
use Rattle.dns_rdata.proofs.record_data.RData.try_from_str_with_origin.Goals as goal

pub returns-then-is_plain-clause-reads : goal.returns-then-is_plain-clause-reads
returns-then-is_plain-clause-reads c =
    let plain : IsPlain c.args.text.now = rw c.if-is_plain.true at c.is_plain.ensures in
    text_read _ _ _ _ _ (plain_words plain.1) (each_read words_left _ _ _ _ _ (rw c.new.ensures plain.1) c.from_tokens.ensures.reads)

pub returns-then-is_plain-clause-unsupported : goal.returns-then-is_plain-clause-unsupported
returns-then-is_plain-clause-unsupported c = λ h. refused_by_name _ _ _ (c.from_tokens.ensures.unsupported h)

pub returns-in_err-tokens-clause-reads : goal.returns-in_err-tokens-clause-reads
returns-in_err-tokens-clause-reads c = no_tokens_read _ _ _ _ _ c.from_residual.ensures.1 c.in_err-tokens.ensures.refused

pub returns-clause-reads : goal.returns-clause-reads
returns-clause-reads c = text_read _ _ _ _ _ c.in_ok-tokens.ensures.ok
    (each_read items_left _ _ _ _ _ (ap (map cow_str_bytes) c.into_iter.ensures.rest) c.from_tokens-2.ensures.reads)

pub returns-in_err-tokens-clause-unsupported : goal.returns-in_err-tokens-clause-unsupported
returns-in_err-tokens-clause-unsupported c = λ _. refused_early _ _ _ _ c.from_residual.ensures.1 c.in_err-tokens.ensures.refused

pub returns-clause-unsupported : goal.returns-clause-unsupported
returns-clause-unsupported c = λ h. refused_by_name _ _ _ (c.from_tokens-2.ensures.unsupported h)
