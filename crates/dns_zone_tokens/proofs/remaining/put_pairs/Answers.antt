use Rattle.dns_zone_tokens.specs.Views.{token_value}
use Rattle.dns_zone_tokens.proofs.HexTokens.{no_hex, hex_more, hex_kept, hex_front}
use Rattle.dns_zone_tokens.proofs.RemainingSteps.{none_taken, one_taken, all_taken}
use Rattle.dns_zone_tokens.proofs.remaining.put_pairs.Goals as goal

pub tokens-init : goal.tokens-init
tokens-init c = none_taken c.args.tokens.now (no_hex c.args.octets.now.items)

pub returns-then-token-clause-kept : goal.returns-then-token-clause-kept
returns-then-token-clause-kept c = hex_front c.tokens.invariant.are

pub returns-then-not-put_digits-clause-kept : goal.returns-then-not-put_digits-clause-kept
returns-then-not-put_digits-clause-kept c = hex_kept c.put_digits.new.octets.items c.tokens.invariant.are c.put_digits.ensures.kept

pub returns-in-Ok-None-clause-kept : goal.returns-in-Ok-None-clause-kept
returns-in-Ok-None-clause-kept c = hex_front c.tokens.invariant.are

pub returns-in-Err-clause-kept : goal.returns-in-Err-clause-kept
returns-in-Err-clause-kept c = hex_front c.tokens.invariant.are

pub tokens-preserved : goal.tokens-preserved
tokens-preserved c = one_taken c.tokens.invariant (token_value c.in-Ok-Some.token) c.next_token.new.self (rw c.in-Ok-Some.field-0-is at c.in-Ok-Some.ensures.token)
    (rw c.in-Ok-Some.field-0-is at c.in-Ok-Some.ensures.seen)
    (hex_more (token_value c.in-Ok-Some.token) c.if-token.false c.if-not-put_digits.ensures.put)

pub returns-in-Ok-None-clause-put : goal.returns-in-Ok-None-clause-put
returns-in-Ok-None-clause-put c = record {
  tokens = c.tokens.invariant.tokens;
  divided = all_taken c.tokens.invariant (rw c.in-Ok-None.field-0-is at c.in-Ok-None.ensures.end);
  octets = c.tokens.invariant.are.octets;
  given = c.tokens.invariant.are.are;
  same = c.tokens.invariant.are.same;
}
