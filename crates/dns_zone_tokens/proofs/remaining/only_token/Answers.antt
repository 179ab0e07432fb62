use Rattle.std.proofs.Common.{[], refl}
use Rattle.dns_zone_tokens.specs.{Remaining.AreJoined, Views.token_value}
use Rattle.dns_zone_tokens.proofs.RemainingSteps.{TakenSoFar, none_taken, one_taken, all_taken, one_joined}
use Rattle.dns_zone_tokens.proofs.remaining.only_token.Goals as goal

pub returns-in-Ok-None : goal.returns-in-Ok-None
returns-in-Ok-None c =
    let start : TakenSoFar (AreJoined []) c.again-rest.result c.again-rest.result = none_taken c.again-rest.result (record { bare = tt; same = refl }) in
    let first : TakenSoFar (AreJoined c.in-Ok-Some.token.raw.now) c.again-rest.result c.next_token.new.self =
    one_taken start (token_value c.in-Ok-Some.token) c.next_token.new.self (rw c.in-Ok-Some.field-0-is at c.in-Ok-Some.ensures.token)
    (rw c.in-Ok-Some.field-0-is at c.in-Ok-Some.ensures.seen)
    (one_joined (token_value c.in-Ok-Some.token) c.if-not-token.true refl) in
    rw (← c.again-rest.ensures) (record {
      tokens = first.tokens;
      divided = all_taken first (rw c.in-Ok-None.field-0-is at c.in-Ok-None.ensures.end);
      value = first.are;
    })
