use Rattle.std.proofs.Common.{inr, refl}
use Rattle.dns_zone_tokens.specs.{Errors.Says, Errors.undivided_text, Remaining.AreJoined, Remaining.ReadsAll, Views.token_value}
use Rattle.dns_tokens.proofs.Steps.{unless_all}
use Rattle.dns_zone_tokens.proofs.FirstSteps.{exit_as, exit_why}
use Rattle.dns_zone_tokens.proofs.RemainingSteps.{none_taken, one_taken, all_taken, undivided_none, undivided_why, none_among, fault_among, one_joined, none_quoted, not_joined}
use Rattle.dns_zone_tokens.proofs.remaining.all_joined.Goals as goal

pub tokens-init : goal.tokens-init
tokens-init c = rw c.in_ok-joined.ensures.items (none_taken c.args.tokens.now (record { bare = tt; same = refl }))

pub returns-in_err-token-clause-reads : goal.returns-in_err-token-clause-reads
returns-in_err-token-clause-reads c =
    exit_as (λ r. ReadsAll AreJoined (λ v. v.items) r c.args.tokens.now) _ c.from_residual-in_err-token.result c.from_residual-in_err-token.ensures.1
    (λ e _. unless_all e (undivided_none c.tokens.invariant c.in_err-token.ensures.refused))

pub returns-then-token-clause-reads : goal.returns-then-token-clause-reads
returns-then-token-clause-reads c = none_among c.tokens.invariant (token_value c.in-Some.token) c.next_token.new.self
    (rw c.in-Some.is at c.in_ok-token.ensures.token) (not_joined (token_value c.in-Some.token) c.if-token.true)

pub returns-then-token-clause-why : goal.returns-then-token-clause-why
returns-then-token-clause-why c = inr (fault_among c.tokens.invariant (token_value c.in-Some.token) c.next_token.new.self
    (rw c.in-Some.is at c.in_ok-token.ensures.seen) (λ tokens are. none_quoted _ tokens are.bare) (refl, c.if-token.true))

pub tokens-preserved : goal.tokens-preserved
tokens-preserved c = one_taken c.tokens.invariant (token_value c.in-Some.token) c.next_token.new.self (rw c.in-Some.is at c.in_ok-token.ensures.token)
    (rw c.in-Some.is at c.in_ok-token.ensures.seen) (one_joined (token_value c.in-Some.token) c.if-token.false c.in_ok-extend_from_slice-in-Some.ensures.items)

pub returns-in-None-clause-reads : goal.returns-in-None-clause-reads
returns-in-None-clause-reads c = record {
  tokens = c.tokens.invariant.tokens;
  divided = all_taken c.tokens.invariant (rw c.in-None.is at c.in_ok-token.ensures.end);
  value = c.tokens.invariant.are;
}

pub returns-in_err-token-clause-why : goal.returns-in_err-token-clause-why
returns-in_err-token-clause-why c =
    exit_why (Says (undivided_text c.in_err-token.field-0.0)) _ c.from_residual-in_err-token.result c.from_residual-in_err-token.ensures.1
    (λ e says. inr (undivided_why c.tokens.invariant c.in_err-token.ensures.refused c.in_err-token.ensures.none_seen
    (λ tokens are. none_quoted _ tokens are.bare) says))
