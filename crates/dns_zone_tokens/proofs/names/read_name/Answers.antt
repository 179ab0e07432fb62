use Rattle.std.proofs.Common.{◌∙◌, [], sym, refl}
use Rattle.std.specs.Option.{option_copied}
use Rattle.dns_zone_tokens.specs.{NameTokens.name, NameTokens.name_octets, NameTokens.labelled, Views.token_value, ZoneReads.PutsAs}
use Rattle.dns_tokens.proofs.Steps.{unless_all}
use Rattle.dns_zone_tokens.proofs.{FirstSteps.exit_as, NameLabels.no_name, NameLabels.fault_none}
use Rattle.dns_zone_tokens.proofs.NamePuts.{dot_ended, whole_put, is_completed, completed_put, completed_why, completed_full, completed_none, full_by}
use Rattle.dns_zone_tokens.proofs.names.read_name.Goals as goal

pub returns-in_err-is_fqdn-clause-puts : goal.returns-in_err-is_fqdn-clause-puts
returns-in_err-is_fqdn-clause-puts c =
    exit_as (λ r. PutsAs (name (option_copied c.args.origin)) name_octets r [] c.read_labels.new.wire.items (token_value c.args.token))
    _ c.from_residual.result c.from_residual.ensures.1
    (λ e _. unless_all e (no_name (option_copied c.args.origin) (token_value c.args.token) (sym c.is_alone.ensures ∙ c.if-is_alone.false)
    (sym c.is_alone-2.ensures ∙ c.if-is_alone-2.false) (fault_none c.args.field.now c.args.token.raw.now _ c.in_err-is_fqdn.ensures.refused)))

pub returns-then-is_fqdn-clause-puts : goal.returns-then-is_fqdn-clause-puts
returns-then-is_fqdn-clause-puts c =
    whole_put (option_copied c.args.origin) (token_value c.args.token) c.in_ok-is_fqdn.is_fqdn c.end_name-then-is_fqdn.result []
    c.end_name-then-is_fqdn.new.wire.items c.read_labels.new.wire.items c.if-token.false (sym c.is_alone.ensures ∙ c.if-is_alone.false)
    (sym c.is_alone-2.ensures ∙ c.if-is_alone-2.false) c.in_ok-is_fqdn.ensures.ok
    (completed_full (labelled c.args.token.raw.now) (option_copied c.args.origin) (full_by c.in_ok-is_fqdn.ensures.ok c.if-is_fqdn.true))
    c.end_name-then-is_fqdn.ensures.put c.end_name-then-is_fqdn.ensures.memory

pub returns-in-Some-origin-clause-puts : goal.returns-in-Some-origin-clause-puts
returns-in-Some-origin-clause-puts c = completed_put (option_copied c.args.origin) c.in-Some-origin.origin.now (token_value c.args.token) c.complete_name.result
    [] c.complete_name.new.wire.items c.read_labels.new.wire.items _
    (is_completed (option_copied c.args.origin) c.in-Some-origin.origin.now (token_value c.args.token) c.read_labels.new.wire.items c.in_ok-is_fqdn.is_fqdn
    (rw c.in-Some-origin.is refl) c.if-is_fqdn.false c.if-token.false (sym c.is_alone.ensures ∙ c.if-is_alone.false)
    (sym c.is_alone-2.ensures ∙ c.if-is_alone-2.false) c.in_ok-is_fqdn.ensures.ok)
    c.complete_name.ensures.put c.complete_name.ensures.fits
    c.complete_name.ensures.name c.complete_name.ensures.refused

pub returns-in-Some-origin-clause-why : goal.returns-in-Some-origin-clause-why
returns-in-Some-origin-clause-why c = completed_why (option_copied c.args.origin) c.in-Some-origin.origin.now (token_value c.args.token) c.args.field.now
    c.complete_name.result c.read_labels.new.wire.items
    (is_completed (option_copied c.args.origin) c.in-Some-origin.origin.now (token_value c.args.token) c.read_labels.new.wire.items c.in_ok-is_fqdn.is_fqdn
    (rw c.in-Some-origin.is refl) c.if-is_fqdn.false c.if-token.false (sym c.is_alone.ensures ∙ c.if-is_alone.false)
    (sym c.is_alone-2.ensures ∙ c.if-is_alone-2.false) c.in_ok-is_fqdn.ensures.ok)
    c.complete_name.ensures.refused

pub returns-in-None-origin-clause-puts : goal.returns-in-None-origin-clause-puts
returns-in-None-origin-clause-puts c =
    whole_put (option_copied c.args.origin) (token_value c.args.token) c.in_ok-is_fqdn.is_fqdn c.end_name-in-None-origin.result
    [] c.end_name-in-None-origin.new.wire.items c.read_labels.new.wire.items c.if-token.false
    (sym c.is_alone.ensures ∙ c.if-is_alone.false) (sym c.is_alone-2.ensures ∙ c.if-is_alone-2.false) c.in_ok-is_fqdn.ensures.ok
    (completed_none (labelled c.args.token.raw.now) (option_copied c.args.origin) (rw c.in-None-origin.is refl))
    c.end_name-in-None-origin.ensures.put c.end_name-in-None-origin.ensures.memory

pub returns-then-is_alone-2-clause-puts : goal.returns-then-is_alone-2-clause-puts
returns-then-is_alone-2-clause-puts c = dot_ended (option_copied c.args.origin) (token_value c.args.token) c.end_name-then-is_alone-2.result []
    c.end_name-then-is_alone-2.new.wire.items c.if-token.false (sym c.is_alone-2.ensures ∙ c.if-is_alone-2.true)
    (rw c.requires at c.end_name-then-is_alone-2.ensures.put) c.end_name-then-is_alone-2.ensures.memory
