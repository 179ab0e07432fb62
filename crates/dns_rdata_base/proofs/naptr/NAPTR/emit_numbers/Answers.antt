use Rattle.std.proofs.Common.{arith, refl}
use Rattle.dns_fields.specs.Fields.{field_octets}
use Rattle.dns_names_wire.proofs.NamelessWrites.{emits_nameless, number_then}
use Rattle.dns_rdata_base.specs.NAPTR.{naptr_numbers_shape, naptr_numbers}
use Rattle.dns_rdata_base.proofs.naptr.NAPTR.emit_numbers.Goals as goal

pub returns : goal.returns
unfolding field_octets
returns c =
    let e = rw (c.to_be_bytes-order.ensures, c.to_be_bytes-preference.ensures) at c.emit_vec.ensures.emits in
    emits_nameless naptr_numbers_shape (naptr_numbers c.args.self.now) _ _ _ _ tt (omega arith, (omega arith, tt))
    (number_then 2 _ _ _ (number_then 2 _ _ _ refl)) e
