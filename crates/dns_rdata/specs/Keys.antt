-- The keys that values of RDATA are compared by.
use Rattle.std.specs.Prelude.{List, [], ◌∷◌, Option, Some, None}
use Rattle.dns_fields.specs.{Fields.Values, declared.Kind.Kind}
use Rattle.dns_rows.specs.Table.{kinds_of}
use Rattle.dns_rows.specs.declared.row.TheConstants as rows
use Rattle.dns_rdata_options.specs.OPT.{Pair}
use Rattle.dns_rdata_base.specs as base
use Rattle.dns_rdata_certs.specs as certs
use Rattle.dns_rdata_service.specs as service
use Rattle.dns_rdata_policy.specs as policy
use Rattle.dns_rdata.specs.declared.record_data.RData.{RData}
use Rattle.dns_rdata.specs.declared.record_data.RData.TheVariants as rdata

-- What the values of one variant are compared by, and how a value gives it: fields of some kinds, or options, which
-- have no order of their own.
pub data VariantKey : Type 0 where
  fields : (kinds : List Kind) → (RData → Option (Values kinds)) → VariantKey
  options : (RData → Option (List Pair)) → VariantKey

-- One key for each variant, the last declared first: of two variants, the one whose key comes first in this list is the
-- greater. If several values of a field have one number, the fields here tell them apart.
abbrev pub variant_keys : List VariantKey
variant_keys =
    fields [] (elim [ rdata.ZERO ↦ Some tt | v ↦ None ]) ∷
    fields [] (elim [ rdata.Update0 t ↦ Some tt | v ↦ None ]) ∷
    fields (kinds_of rows.NULL) (elim [ rdata.Unknown code x ↦ Some (base.NULL.null_fields x) | v ↦ None ]) ∷
    fields (kinds_of rows.TXT) (elim [ rdata.TXT x ↦ Some (base.TXT.txt_fields x) | v ↦ None ]) ∷
    fields certs.TLSA.tlsa_key_shape (elim [ rdata.TLSA x ↦ Some (certs.TLSA.tlsa_keys x) | v ↦ None ]) ∷
    fields service.SVCB.svcb_key_shape (elim [ rdata.SVCB x ↦ Some (service.SVCB.svcb_keys x) | v ↦ None ]) ∷
    fields certs.SSHFP.sshfp_key_shape (elim [ rdata.SSHFP x ↦ Some (certs.SSHFP.sshfp_keys x) | v ↦ None ]) ∷
    fields (kinds_of rows.SRV) (elim [ rdata.SRV x ↦ Some (base.NameRecords.srv_fields x) | v ↦ None ]) ∷
    fields (kinds_of rows.SOA) (elim [ rdata.SOA x ↦ Some (base.SOA.soa_fields x) | v ↦ None ]) ∷
    fields certs.TLSA.tlsa_key_shape (elim [ rdata.SMIMEA x ↦ Some (certs.TLSA.tlsa_keys x.0) | v ↦ None ]) ∷
    fields (kinds_of rows.NAME) (elim [ rdata.PTR x ↦ Some (base.NameRecords.name_fields x.0) | v ↦ None ]) ∷
    options (elim [ rdata.OPT x ↦ Some x | v ↦ None ]) ∷
    fields (kinds_of rows.OPENPGPKEY) (elim [ rdata.OPENPGPKEY x ↦ Some (base.OPENPGPKEY.openpgpkey_fields x) | v ↦ None ]) ∷
    fields (kinds_of rows.NAME) (elim [ rdata.NS x ↦ Some (base.NameRecords.name_fields x.0) | v ↦ None ]) ∷
    fields (kinds_of rows.NULL) (elim [ rdata.NULL x ↦ Some (base.NULL.null_fields x) | v ↦ None ]) ∷
    fields (kinds_of rows.NAPTR) (elim [ rdata.NAPTR x ↦ Some (base.NAPTR.naptr_fields x) | v ↦ None ]) ∷
    fields (kinds_of rows.MX) (elim [ rdata.MX x ↦ Some (base.NameRecords.mx_fields x) | v ↦ None ]) ∷
    fields service.SVCB.svcb_key_shape (elim [ rdata.HTTPS x ↦ Some (service.SVCB.svcb_keys x.0) | v ↦ None ]) ∷
    fields (kinds_of rows.HINFO) (elim [ rdata.HINFO x ↦ Some (base.HINFO.hinfo_fields x) | v ↦ None ]) ∷
    fields policy.CSYNC.csync_key_shape (elim [ rdata.CSYNC x ↦ Some (policy.CSYNC.csync_keys x) | v ↦ None ]) ∷
    fields (kinds_of rows.NAME) (elim [ rdata.CNAME x ↦ Some (base.NameRecords.name_fields x.0) | v ↦ None ]) ∷
    fields certs.CERT.cert_key_shape (elim [ rdata.CERT x ↦ Some (certs.CERT.cert_keys x) | v ↦ None ]) ∷
    fields policy.CAA.caa_key_shape (elim [ rdata.CAA x ↦ Some (policy.CAA.caa_keys x) | v ↦ None ]) ∷
    fields (kinds_of rows.NAME) (elim [ rdata.ANAME x ↦ Some (base.NameRecords.name_fields x.0) | v ↦ None ]) ∷
    fields (kinds_of rows.AAAA) (elim [ rdata.AAAA x ↦ Some (base.AAAA.aaaa_fields x) | v ↦ None ]) ∷
    fields (kinds_of rows.A) (elim [ rdata.A x ↦ Some (base.A.a_fields x) | v ↦ None ]) ∷ []
