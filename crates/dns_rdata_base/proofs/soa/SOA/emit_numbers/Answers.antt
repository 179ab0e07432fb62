use Rattle.std.proofs.Common.{◌≡◌, arith, refl, rules}
use Rattle.std.specs.Int.{cast_unsigned, w32}
use Rattle.dns_fields.specs.Fields.{field_octets}
use Rattle.dns_names_wire.proofs.NamelessWrites.{emits_nameless, number_then}
use Rattle.dns_rdata_base.specs.SOA.{soa_numbers_shape}
use Rattle.dns_rdata_base.proofs.soa.SOA.emit_numbers.Goals as goal

pub returns : goal.returns
unfolding field_octets
returns c =
    let x = c.args.self.now in
    let refresh : c.cast_unsigned.result ≡ cast_unsigned w32 x.refresh = search rules in
    let retry : c.cast_unsigned-2.result ≡ cast_unsigned w32 x.retry = search rules in
    let expire : c.cast_unsigned-3.result ≡ cast_unsigned w32 x.expire = search rules in
    record {
      emits = rw (← refresh, ← retry, ← expire)
          (emits_nameless soa_numbers_shape (x.serial, (c.cast_unsigned.result, (c.cast_unsigned-2.result, (c.cast_unsigned-3.result, (x.minimum, tt)))))
          _ _ _ _ tt (omega arith, (omega arith, (omega arith, (omega arith, (omega arith, tt)))))
          (number_then 4 _ _ _ (number_then 4 _ _ _ (number_then 4 _ _ _ (number_then 4 _ _ _ (number_then 4 _ _ _ refl)))))
          (rw c.five_numbers.ensures at c.emit_vec.ensures.emits));
    }
