use Rattle.dns_zone_rows.specs.ParameterSteps.{PushesItem}
use Rattle.dns_zone_tokens.proofs.FirstSteps.{exit_with}
use Rattle.dns_zone_rows.proofs.ParameterValues.{no_ipv4, no_ipv6}
use Rattle.dns_zone_rows.proofs.parameters.lists.push_item.Goals as goal

pub returns-in_err-address-in-Ipv4-clause-reads : goal.returns-in_err-address-in-Ipv4-clause-reads
returns-in_err-address-in-Ipv4-clause-reads c =
    exit_with (λ r. PushesItem c.args.item c.args.text.now r c.args.octets.now.items c.args.octets.now.items) c.in_err-address-in-Ipv4.field-0.0
    c.from_residual.result c.from_residual.ensures.1 (no_ipv4 c.in_err-address-in-Ipv4.field-0.0 c.args.item c.args.text.now c.in-Ipv4.is c.in_err-address-in-Ipv4.ensures.reads)

pub returns-in_err-address-in-Ipv6-clause-reads : goal.returns-in_err-address-in-Ipv6-clause-reads
returns-in_err-address-in-Ipv6-clause-reads c =
    exit_with (λ r. PushesItem c.args.item c.args.text.now r c.args.octets.now.items c.args.octets.now.items) c.in_err-address-in-Ipv6.field-0.0
    c.from_residual-in_err-address-in-Ipv6.result c.from_residual-in_err-address-in-Ipv6.ensures.1
    (no_ipv6 c.in_err-address-in-Ipv6.field-0.0 c.args.item c.args.text.now c.in-Ipv6.is c.in_err-address-in-Ipv6.ensures.reads)
