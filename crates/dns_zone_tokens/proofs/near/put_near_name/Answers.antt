use Rattle.std.proofs.Common.{◌∙◌, ap, sym, refl, [], ◌∷◌, ◌++◌}
use Rattle.std.proofs.lemmas.Bool.{OnTrue_at, OnTrue_from}
use Rattle.std.specs.Option.{option_copied}
use Rattle.dns_zone_tokens.specs.{Views.token_value}
use Rattle.dns_zone_tokens.proofs.NearNames.{root_put, origin_put, full_put, relative_put, joined_put}
use Rattle.dns_zone_tokens.proofs.near.put_near_name.Goals as goal

pub returns-then-is_alone-2 : goal.returns-then-is_alone-2
returns-then-is_alone-2 c = OnTrue_from c.end_name-then-is_alone-2.result _ (λ h.
    root_put (option_copied c.args.origin) (token_value c.args.token) c.args.octets.now.items c.end_name-then-is_alone-2.new.octets.items c.if-token.false
    (sym c.is_alone-2.ensures ∙ c.if-is_alone-2.true) (OnTrue_at h c.end_name-then-is_alone-2.ensures.put))

pub returns-in-Some : goal.returns-in-Some
returns-in-Some c = OnTrue_from c.end_name.result _ (λ h.
    origin_put (option_copied c.args.origin) c.in-Some.origin.now (token_value c.args.token) c.args.octets.now.items c.end_name.new.octets.items c.if-token.false
    (sym c.is_alone.ensures ∙ c.if-is_alone.true) (rw c.in-Some.is refl) c.label_octets.ensures.name
    (OnTrue_at h c.end_name.ensures.put ∙ ap (λ o. c.args.octets.now.items ++ (o ++ 0 ∷ [])) c.label_octets.ensures.uncompressed))

pub returns-in-Some-true : goal.returns-in-Some-true
returns-in-Some-true c = full_put (option_copied c.args.origin) (token_value c.args.token) c.args.octets.now.items c.put_labels.new.octets.items c.if-token.false
    (sym c.is_alone.ensures ∙ c.if-is_alone.false) (sym c.is_alone-2.ensures ∙ c.if-is_alone-2.false)
    (rw c.in-Some-true.field-0-test at c.in-Some-true.ensures)

pub returns-in-Some-origin : goal.returns-in-Some-origin
returns-in-Some-origin c = OnTrue_from c.end_name-in-Some-origin.result _ (λ h.
    joined_put (option_copied c.args.origin) c.in-Some-origin.origin.now (token_value c.args.token) c.args.octets.now.items c.put_labels.new.octets.items
    c.end_name-in-Some-origin.new.octets.items (rw c.in-Some-origin.is refl) c.if-token.false
    (sym c.is_alone.ensures ∙ c.if-is_alone.false) (sym c.is_alone-2.ensures ∙ c.if-is_alone-2.false)
    (rw c.in-Some-false.field-0-test at c.in-Some-false.ensures) c.label_octets-in-Some-origin.ensures.name
    (OnTrue_at h c.end_name-in-Some-origin.ensures.put ∙ ap (λ o. c.put_labels.new.octets.items ++ (o ++ 0 ∷ [])) c.label_octets-in-Some-origin.ensures.uncompressed)
    (OnTrue_at h c.end_name-in-Some-origin.ensures.fits))

pub returns-in-None-origin : goal.returns-in-None-origin
returns-in-None-origin c = OnTrue_from c.end_name-in-None-origin.result _ (λ h.
    relative_put (option_copied c.args.origin) (token_value c.args.token) c.args.octets.now.items c.put_labels.new.octets.items
    c.end_name-in-None-origin.new.octets.items (rw c.in-None-origin.is refl) c.if-token.false
    (sym c.is_alone.ensures ∙ c.if-is_alone.false) (sym c.is_alone-2.ensures ∙ c.if-is_alone-2.false)
    (rw c.in-Some-false.field-0-test at c.in-Some-false.ensures) (OnTrue_at h c.end_name-in-None-origin.ensures.put))
