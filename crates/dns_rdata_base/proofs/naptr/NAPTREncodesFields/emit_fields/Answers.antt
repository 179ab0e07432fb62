use Rattle.dns_names_wire.proofs.NamelessWrites.{emits_more}
use Rattle.dns_rdata_base.specs.NAPTR.{naptr_numbers_shape, naptr_numbers, naptr_rest_shape, naptr_rest}
use Rattle.dns_rdata_base.proofs.naptr.NAPTREncodesFields.emit_fields.Goals as goal

pub returns : goal.returns
returns c = record {
  emits = emits_more naptr_numbers_shape naptr_rest_shape (naptr_numbers c.args.self.now) (naptr_rest c.args.self.now) _ _ _ _
      c.in_ok-emit_numbers.ensures c.emit_rest.ensures.emits;
}
