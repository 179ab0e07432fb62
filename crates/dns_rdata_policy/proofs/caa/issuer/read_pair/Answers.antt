use Rattle.std.proofs.{Common.◌≡◌, Common.◌∷◌, Common.sym, Common.◌∙◌, Common.arith, Common.true, lemmas.Bool.both_ways, lemmas.Grind.common_steps}
use Rattle.std.specs.List.{list_all}
use Rattle.dns_rdata_policy.specs.Issuer.{IsKey, is_value_octet}
use Rattle.dns_rdata_policy.proofs.IssuerSteps.{parameter_cut, parameter_read, key_utf8, value_utf8}
use Rattle.dns_rdata_policy.proofs.caa.issuer.read_pair.Goals as goal

pub returns-then-not-is_key-clause-refused : goal.returns-then-not-is_key-clause-refused
returns-then-not-is_key-clause-refused c = λ x e h.
    let p = parameter_cut _ _ _ x c.cut_at.ensures e h in
    both_ways _ c.if-not-is_key.true (c.is_key.ensures.1 (rw p.0 h.key))

pub returns-then-not-are_value_octets-clause-refused : goal.returns-then-not-are_value_octets-clause-refused
returns-then-not-are_value_octets-clause-refused c = λ x e h.
    let p = parameter_cut _ _ _ x c.cut_at.ensures e h in
    let rest : c.cut_at.result.1.now ≡ c.in-Some.field-0-0.now ∷ c.in-Some.value.now = grind (arith, common_steps) in
    let tail : c.in-Some.value.now ≡ x.value = cc (rest, p.1) in
    both_ways _ c.if-not-are_value_octets.true (c.are_value_octets.ensures ∙ rw tail h.value)

pub returns-clause-read : goal.returns-clause-read
returns-clause-read c =
    let rest : c.cut_at.result.1.now ≡ c.in-Some.field-0-0.now ∷ c.in-Some.value.now = grind (arith, common_steps) in
    let key : IsKey c.cut_at.result.0.now = c.is_key.ensures.0 c.if-not-is_key.false in
    let value : list_all is_value_octet c.in-Some.value.now ≡ true = sym c.are_value_octets.ensures ∙ c.if-not-are_value_octets.false in
    parameter_read _ _ _ _ _ c.cut_at.ensures rest key value (c.in_ok-key.ensures.ok (key_utf8 _ key)) (c.in_ok-value.ensures.ok (value_utf8 _ value))
