use Rattle.std.proofs.Common.{refl}
use Rattle.dns_zone_rows.proofs.ParameterValues.{meant_plain, plain_fault}
use Rattle.dns_zone_rows.proofs.parameters.values.meant_octets.Goals as goal

pub returns-then-has_no_escape-clause-reads : goal.returns-then-has_no_escape-clause-reads
returns-then-has_no_escape-clause-reads c =
    meant_plain c.args.key c.args.text.now (λ x. x) c.octets_of.result (c.if-has_no_escape.ensures.0 refl) c.octets_of.ensures.reads

pub returns-then-has_no_escape-clause-why : goal.returns-then-has_no_escape-clause-why
returns-then-has_no_escape-clause-why c =
    plain_fault c.args.key c.args.text.now (λ x. x) c.octets_of.result (c.if-has_no_escape.ensures.0 refl) c.octets_of.ensures.reads
    c.octets_of.ensures.why
