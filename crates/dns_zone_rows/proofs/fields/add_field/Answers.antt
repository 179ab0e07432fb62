use Rattle.std.proofs.Common.{◌≡◌, ◌∷◌}
use Rattle.std.specs.Option.{option_copied}
use Rattle.dns_zone_tokens.specs.{Views.token_value, Tokens.seen_at}
use Rattle.dns_zone_rows.proofs.Adding.{field_why}
use Rattle.dns_zone_rows.proofs.fields.add_field.Goals.{in-Some, in-None+in_ok-token-in-None}
use Rattle.dns_zone_rows.proofs.fields.add_field.Goals as goal

pub returns-clause-why : goal.returns-clause-why
returns-clause-why c =
    let seen : seen_at c.args.tokens.now ≡ token_value c.match-next_near.token ∷ seen_at c.match-next_near.tokens = elim c.match-next_near.branch [
      | in-Some w ↦ rw (w.tokens-is, w.token-is) w.in-Some.ensures.seen
      | in-None+in_ok-token-in-None w ↦ rw (w.tokens-is, w.token-is, ← w.in-None.ensures.stays) w.in_ok-token-in-None.ensures.seen
    ] in
    field_why (option_copied c.args.origin) c.args.field.now c.put_field.result (token_value c.match-next_near.token) c.args.tokens.now
    c.match-next_near.tokens seen c.put_field.ensures.why
