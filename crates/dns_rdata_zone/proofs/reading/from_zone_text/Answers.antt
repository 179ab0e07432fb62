use Rattle.std.proofs.Common.{inl, inr}
use Rattle.std.specs.Option.{option_copied}
use Rattle.dns_tokens.proofs.Steps.{unless_map}
use Rattle.dns_zone_tokens.proofs.{FirstSteps.or_then, NamePuts.if_ok, NamePuts.if_err}
use Rattle.dns_rdata_zone.proofs.ZoneSteps.{none_behind, none_own, row_gives}
use Rattle.dns_rdata_zone.proofs.reading.from_zone_text.Goals as goal

pub returns-in-Some-clause-refused : goal.returns-in-Some-clause-refused
returns-in-Some-clause-refused c = if_err _ _ c.from_unknown_data.result (λ e. unless_map e _ _ (none_behind (option_copied c.args.origin) c.args.record_type
    c.args.text.now c.in-Some.tokens (rw c.in-Some.is at c.in_ok-tokens.ensures.marked))) c.from_unknown_data.ensures.refused

pub returns-in-None-clause-found : goal.returns-in-None-clause-found
returns-in-None-clause-found c = if_ok _ _ c.from_row.result
    (λ v. row_gives (option_copied c.args.origin) c.args.record_type c.args.text.now v (rw c.in-None.is at c.in_ok-tokens.ensures.unmarked))
    c.from_row.ensures.found

pub returns-in-None-clause-refused : goal.returns-in-None-clause-refused
returns-in-None-clause-refused c = if_err _ _ c.from_row.result (λ e. unless_map e _ _ (none_own (option_copied c.args.origin) c.args.record_type
    c.args.text.now (rw c.in-None.is at c.in_ok-tokens.ensures.unmarked))) c.from_row.ensures.refused

pub returns-in-Some-clause-why : goal.returns-in-Some-clause-why
returns-in-Some-clause-why c = if_err _ _ c.from_unknown_data.result (λ e. or_then (λ why. inr (inl (record {
  cursor = c.in-Some.tokens;
  behind = rw c.in-Some.is at c.in_ok-tokens.ensures.marked;
  why = why;
})))) c.from_unknown_data.ensures.why

pub returns-in-None-clause-why : goal.returns-in-None-clause-why
returns-in-None-clause-why c = if_err _ _ c.from_row.result (λ e. or_then (λ why. inr (inr (record {
  unmarked = rw c.in-None.is at c.in_ok-tokens.ensures.unmarked;
  why = why;
})))) c.from_row.ensures.why
