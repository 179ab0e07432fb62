use Rattle.std.proofs.Common.{refl, arith, rules}
use Rattle.dns_fields.specs.Tlvs.{Nothing, PortNumber, Addresses4, Addresses16}
use Rattle.dns_check.proofs.ValueForms.{value_at, text_at, any_at, none_form, port_form, four_form, sixteen_form}
use Rattle.dns_check.proofs.parameter_values.check_value.Goals as goal

pub returns-in-0-len-clause-found : goal.returns-in-0-len-clause-found
returns-in-0-len-clause-found c = value_at 2 Nothing c.in-2.is refl refl (none_form (omega arith))

pub returns-else-octets-lt2-clause-found : goal.returns-else-octets-lt2-clause-found
returns-else-octets-lt2-clause-found c = value_at 3 PortNumber c.in-3.is refl refl (port_form c.are_octets.ensures (omega arith))

pub returns-else-octets-ne0-clause-found : goal.returns-else-octets-ne0-clause-found
returns-else-octets-ne0-clause-found c = value_at 4 Addresses4 c.in-4.is refl refl (four_form (omega arith))

pub returns-else-octets-ne0-2-clause-found : goal.returns-else-octets-ne0-2-clause-found
returns-else-octets-ne0-2-clause-found c = value_at 6 Addresses16 c.in-6.is refl refl (sixteen_form (omega arith))

pub returns-else-not-is_text-clause-found : goal.returns-else-not-is_text-clause-found
returns-else-not-is_text-clause-found c = text_at c.in-7.is (c.if-not-is_text.ensures.0 (search rules))

pub returns-in_default-clause-found : goal.returns-in_default-clause-found
returns-in_default-clause-found c = any_at (omega arith) (omega arith) (omega arith) (omega arith) (omega arith) (omega arith) (omega arith)
