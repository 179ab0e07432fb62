-- SOA by its fields: a record whose signed numbers have 32 bits is told by them, and any fields make one.
use Rattle.std.proofs.{Common.◌≡◌, Common.refl, lemmas.Int.to_z-of_z, lemmas.Int.of_z-to_z, Math.Facts.sfits_to_z, Math.Facts.Fits-of_lt}
use Rattle.std.specs.Int.{cast_signed, w32}
use Rattle.dns_fields.specs.Fields.{Values, AllFit}
use Rattle.dns_rdata_base.specs.{SOA.soa_shape, SOA.soa_fields, SOA.HasSeconds, declared.soa.SOA.SOA}

abbrev pub soa_from : Values soa_shape → SOA
soa_from vs = record {
  mname = vs.0;
  rname = vs.1.0;
  serial = vs.1.1.0;
  refresh = cast_signed w32 vs.1.1.1.0;
  retry = cast_signed w32 vs.1.1.1.1.0;
  expire = cast_signed w32 vs.1.1.1.1.1.0;
  minimum = vs.1.1.1.1.1.1.0;
}

pub soa_from-fields : (x : SOA) → HasSeconds x → x ≡ soa_from (soa_fields x)
soa_from-fields x h = rw (to_z-of_z w32 x.refresh h.refresh, to_z-of_z w32 x.retry h.retry, to_z-of_z w32 x.expire h.expire) refl

pub soa_fields-from : (vs : Values soa_shape) → AllFit soa_shape vs → soa_fields (soa_from vs) ≡ vs
soa_fields-from vs f = rw (of_z-to_z w32 vs.1.1.1.0 f.1.1.1.0, of_z-to_z w32 vs.1.1.1.1.0 f.1.1.1.1.0, of_z-to_z w32 vs.1.1.1.1.1.0 f.1.1.1.1.1.0) refl

pub soa_from-seconds : (vs : Values soa_shape) → AllFit soa_shape vs → HasSeconds (soa_from vs)
soa_from-seconds vs f = record {
  refresh = sfits_to_z (Fits-of_lt f.1.1.1.0);
  retry = sfits_to_z (Fits-of_lt f.1.1.1.1.0);
  expire = sfits_to_z (Fits-of_lt f.1.1.1.1.1.0);
}
