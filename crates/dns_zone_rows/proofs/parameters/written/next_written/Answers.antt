use Rattle.std.proofs.Common.{◌≡◌, ◌+◌, ◌<◌, ◌≤◌, true, false, sym, ◌∙◌, ap, subst, arith, length}
use Rattle.std.proofs.lemmas.List.{drop_all, length-drop}
use Rattle.dns_zone_tokens.specs.{Views.token_value, Tokens.Cursor, Tokens.tokens_at, Tokens.with_token}
use Rattle.dns_zone_rows.specs.{Parameters.name_in, Parameters.value_in, ParameterSteps.NoQuoted}
use Rattle.dns_zone_rows.proofs.ParameterTokens.{took_alone, took_quoted, took_same, no_equals, with_equals, goes_on, ends_here, to_end, not_alone}
use Rattle.dns_zone_rows.proofs.parameters.written.next_written.Goals.{then-token-via-then-token, then-token-via-else-token+then-token-2}
use Rattle.dns_zone_rows.proofs.parameters.written.next_written.Goals as goal

pub returns-then-token-clause-refused : goal.returns-then-token-clause-refused
returns-then-token-clause-refused c =
    not_alone (token_value c.in-Some.token) c.args.tokens.now c.next_token.new.self (rw c.in-Some.is at c.in_ok-token.ensures.token)
    (λ alone. elim c.then-token.branch [
      | then-token-via-then-token w ↦ (let both : true ≡ false = sym w.if-token.true ∙ alone.bare in absurd (cc))
      | then-token-via-else-token+then-token-2 w ↦ (let both : true ≡ false = sym w.if-token-2.true ∙ alone.apart in absurd (cc))
    ])

pub returns-in_default-equals_at-clause-took : goal.returns-in_default-equals_at-clause-took
returns-in_default-equals_at-clause-took c =
    let token = token_value c.in-Some.token in
    let first = rw c.in-Some.is at c.in_ok-token.ensures.token in
    let none = no_equals token.octets (sym c.equals_at.ensures ∙ c.in_default-equals_at.is) in
    let nothing = sym (drop_all (length token.octets) token.octets (omega arith)) ∙ to_end token.octets (length token.octets) in
    took_same (name_in token.octets) (value_in token.octets) token.octets _ c.args.tokens.now c.next_token.new.self none.0 (none.1 ∙ nothing)
    (took_alone token c.args.tokens.now c.next_token.new.self first (record { bare = c.if-token.false; apart = c.if-token-2.false }) (λ e. absurd (none.2 e)))

pub returns-then-behind-gt0-clause-took : goal.returns-then-behind-gt0-clause-took
returns-then-behind-gt0-clause-took c =
    let token = token_value c.in-Some.token in
    let at = c.in-Some-equals_at.at in
    let first = rw c.in-Some.is at c.in_ok-token.ensures.token in
    let here = sym c.equals_at.ensures ∙ c.in-Some-equals_at.is in
    let divided = with_equals token.octets at here in
    let more : at + 1 < length token.octets = omega (arith, ap length (to_end token.octets (at + 1)), length-drop (at + 1) token.octets) in
    took_same (name_in token.octets) (value_in token.octets) _ _ c.args.tokens.now c.next_token.new.self divided.0 (divided.1 ∙ to_end token.octets (at + 1))
    (took_alone token c.args.tokens.now c.next_token.new.self first (record { bare = c.if-token.false; apart = c.if-token-2.false })
    (λ e. absurd (goes_on token.octets at here more e)))

pub returns-in-Some-2-clause-took : goal.returns-in-Some-2-clause-took
returns-in-Some-2-clause-took c =
    let token = token_value c.in-Some.token in
    let at = c.in-Some-equals_at.at in
    let first = rw c.in-Some.is at c.in_ok-token.ensures.token in
    let here = sym c.equals_at.ensures ∙ c.in-Some-equals_at.is in
    let divided = with_equals token.octets at here in
    let took = rw c.in-Some-2.is at c.in_ok-value.ensures.took in
    let last : length token.octets ≤ at + 1 = omega (arith, ap length (to_end token.octets (at + 1)), length-drop (at + 1) token.octets) in
    took_same (name_in token.octets) took.token.octets _ _ c.args.tokens.now c.quoted_value.new.tokens divided.0 (sym took.same)
    (took_quoted token took.token c.args.tokens.now c.next_token.new.self c.quoted_value.new.tokens first took.divided
    (record { bare = c.if-token.false; apart = c.if-token-2.false }) (ends_here token.octets at here last) took.is)

pub returns-in-None-clause-took : goal.returns-in-None-clause-took
returns-in-None-clause-took c =
    let token = token_value c.in-Some.token in
    let at = c.in-Some-equals_at.at in
    let first = rw c.in-Some.is at c.in_ok-token.ensures.token in
    let here = sym c.equals_at.ensures ∙ c.in-Some-equals_at.is in
    let divided = with_equals token.octets at here in
    let stays = rw c.in-None.is at c.in_ok-value.ensures.stays in
    let none = rw c.in-None.is at c.in_ok-value.ensures.none in
    let first_left = first ∙ ap (λ (x : Cursor). with_token token (tokens_at x)) (sym stays) in
    took_same (name_in token.octets) (value_in token.octets) _ _ c.args.tokens.now c.quoted_value.new.tokens divided.0 (divided.1 ∙ to_end token.octets (at + 1))
    (took_alone token c.args.tokens.now c.quoted_value.new.tokens first_left (record { bare = c.if-token.false; apart = c.if-token-2.false })
    (λ e. subst NoQuoted (sym stays) none))
