use Rattle.std.proofs.Common.{arith, subst, get_or}
use Rattle.dns_registry.specs.FieldRules.{IsOfFamily}
use Rattle.dns_registry.proofs.PrefixSteps.{first_prefix, family_of, part_is}
use Rattle.dns_registry.proofs.prefixes.prefix_len.Goals as goal

pub returns-clause-some : goal.returns-clause-some
returns-clause-some c =
    first_prefix c.args.octets.now (λ i. omega (arith, c.type_inv.octets i)) (omega (arith, c.if-octets-lt4.false)) c.if-octets-count.false
    (subst (IsOfFamily (family_of c.args.octets.now) (get_or c.args.octets.now 2 0)) (part_is c.args.octets.now) (c.is_of_family.ensures.0 c.if-not-is_of_family.false))
