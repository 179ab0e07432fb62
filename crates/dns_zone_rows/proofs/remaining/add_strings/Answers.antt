use Rattle.std.proofs.Common.{◌≡◌, ◌⊎◌, [], inr}
use Rattle.dns_types.specs.declared.error.ParseError.{ParseError}
use Rattle.dns_types.specs.declared.error.ParseError.TheVariants as parse
use Rattle.dns_tokens.proofs.Steps.{unless_all}
use Rattle.dns_zone_tokens.specs.{Tokens.Cursor, Forms.StringFault, Views.token_value, ZoneReads.LacksFirst, Errors.Says, Errors.undivided_text}
use Rattle.dns_zone_tokens.specs.{Remaining.AmongFault, Remaining.PutsAll, declared.field.StringField.StringField}
use Rattle.dns_zone_tokens.proofs.FirstSteps.{exit_as, exit_fault, exit_why}
use Rattle.dns_zone_tokens.proofs.RemainingSteps.{none_taken, one_taken, undivided_none, undivided_why}
use Rattle.dns_zone_rows.specs.Rows.{RestGives, SomeStrings}
use Rattle.dns_zone_rows.proofs.StringTokens.{ArePut, none_put, one_put, all_strings, exit_string, string_why, strings_right}
use Rattle.dns_zone_rows.proofs.remaining.add_strings.Goals as goal

-- why strings are rejected
abbrev Why : StringField → Cursor → ParseError → Type 0
Why field cursor e = (e ≡ parse.Memory) ⊎ LacksFirst (parse.MissingToken field.name) cursor e ⊎ AmongFault (StringFault field) cursor e

pub returns-in_err-put_string-clause-adds : goal.returns-in_err-put_string-clause-adds
returns-in_err-put_string-clause-adds c = exit_string c.some_token.new.tokens (token_value c.in_ok-first.first) _ _ c.args.octets.now.items
    c.put_string.new.octets.items
    c.from_residual-in_err-put_string.ensures.1 (none_taken {is = ArePut [] []} c.args.tokens.now (none_put [])) c.in_ok-first.ensures.token
    c.in_err-put_string.ensures.puts

pub returns-in_err-put_string-clause-why : goal.returns-in_err-put_string-clause-why
returns-in_err-put_string-clause-why c = exit_fault (Why c.args.field.now c.args.tokens.now) _ _ c.from_residual-in_err-put_string.ensures.1
    (string_why (StringFault c.args.field.now) _ c.some_token.new.tokens (token_value c.in_ok-first.first) _
    (none_taken {is = ArePut [] []} c.args.tokens.now (none_put [])) c.in_ok-first.ensures.seen
    (λ tokens put. strings_right c.args.field.now tokens put) c.in_err-put_string.ensures.why)

pub tokens-init : goal.tokens-init
tokens-init c = one_taken (none_taken c.args.tokens.now (none_put c.args.octets.now.items)) (token_value c.in_ok-first.first) c.some_token.new.tokens
    c.in_ok-first.ensures.token c.in_ok-first.ensures.seen (one_put c.in_ok-put_string.ensures.puts)

pub returns-in_err-token-clause-adds : goal.returns-in_err-token-clause-adds
returns-in_err-token-clause-adds c =
    exit_as (λ r. PutsAll (RestGives SomeStrings) r c.args.octets.now.items c.tokens.octets.items c.args.tokens.now) _ _ c.from_residual-in_err-token.ensures.1
    (λ e _. unless_all e (undivided_none c.tokens.invariant c.in_err-token.ensures.refused))

pub returns-in_err-token-clause-why : goal.returns-in_err-token-clause-why
returns-in_err-token-clause-why c = exit_why (Says (undivided_text c.in_err-token.field-0.0)) (Why c.args.field.now c.args.tokens.now) _
    c.from_residual-in_err-token.ensures.1 (λ e says. inr (inr (undivided_why c.tokens.invariant c.in_err-token.ensures.refused c.in_err-token.ensures.none_seen
    (λ tokens so. strings_right c.args.field.now tokens so.put) says)))

pub tokens-preserved : goal.tokens-preserved
tokens-preserved c = one_taken c.tokens.invariant (token_value c.in-Some.token) c.next_token.new.self (rw c.in-Some.is at c.in_ok-token.ensures.token)
    (rw c.in-Some.is at c.in_ok-token.ensures.seen) (λ tokens so. one_put c.in_ok-put_string-in-Some.ensures.puts tokens so.put)

pub returns-in_err-put_string-in-Some-clause-adds : goal.returns-in_err-put_string-in-Some-clause-adds
returns-in_err-put_string-in-Some-clause-adds c = exit_string c.next_token.new.self (token_value c.in-Some.token) _ _ c.args.octets.now.items
    c.put_string-in-Some.new.octets.items
    c.from_residual-in_err-put_string-in-Some.ensures.1 c.tokens.invariant (rw c.in-Some.is at c.in_ok-token.ensures.token)
    c.in_err-put_string-in-Some.ensures.puts

pub returns-in_err-put_string-in-Some-clause-why : goal.returns-in_err-put_string-in-Some-clause-why
returns-in_err-put_string-in-Some-clause-why c = exit_fault (Why c.args.field.now c.args.tokens.now) _ _ c.from_residual-in_err-put_string-in-Some.ensures.1
    (string_why (StringFault c.args.field.now) _ c.next_token.new.self (token_value c.in-Some.token) _ c.tokens.invariant
    (rw c.in-Some.is at c.in_ok-token.ensures.seen) (λ tokens so. strings_right c.args.field.now tokens so.put) c.in_err-put_string-in-Some.ensures.why)

pub returns-in-None-clause-adds : goal.returns-in-None-clause-adds
returns-in-None-clause-adds c = all_strings c.tokens.invariant (rw c.in-None.is at c.in_ok-token.ensures.end)
