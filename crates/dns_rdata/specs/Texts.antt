-- The display texts of RDATA.
use Rattle.std.specs.Prelude.{ℕ, Option, Some, None, List, [], ⊤, codes}
use Rattle.dns_tokens.specs.Straight.{field_texts, spaced}
use Rattle.dns_rdata_base.specs as base
use Rattle.dns_rdata_certs.specs as certs
use Rattle.dns_rdata_service.specs as service
use Rattle.dns_rdata_policy.specs as policy
use Rattle.dns_rdata.specs.{declared.record_data.RData.RData, Data.fields_of}
use Rattle.dns_rdata.specs.declared.record_data.RData.TheVariants as rdata

-- The text of each value, except those of OPT: its numbers and names, a blank between two, unless its type is named here.
abbrev pub text_of : RData → List ℕ
text_of (rdata.A x) = base.A.a_text x
text_of (rdata.AAAA x) = base.AAAA.aaaa_text x
text_of (rdata.CAA x) = policy.CAA.caa_text x
text_of (rdata.CERT x) = certs.CERT.cert_text x
text_of (rdata.CSYNC x) = policy.CSYNC.csync_text x
text_of (rdata.HINFO x) = base.HINFO.hinfo_text x
text_of (rdata.HTTPS x) = service.SVCB.svcb_text x.0
text_of (rdata.NAPTR x) = base.NAPTR.naptr_text x
text_of (rdata.NULL x) = base.NULL.null_text x
text_of (rdata.OPENPGPKEY x) = base.OPENPGPKEY.openpgpkey_text x
text_of (rdata.OPT x) = []
text_of (rdata.SMIMEA x) = certs.TLSA.tlsa_text x.0
text_of (rdata.SOA x) = base.SOA.soa_text x
text_of (rdata.SSHFP x) = certs.SSHFP.sshfp_text x
text_of (rdata.SVCB x) = service.SVCB.svcb_text x
text_of (rdata.TLSA x) = certs.TLSA.tlsa_text x
text_of (rdata.TXT x) = base.TXT.txt_text x
text_of (rdata.Unknown code x) = base.NULL.null_text x
text_of (rdata.Update0 t) = codes "UPDATE"
text_of rdata.ZERO = []
text_of v = spaced (field_texts (fields_of v).kinds (fields_of v).values)

-- OPT has no text
abbrev pub data_text : RData → Option (List ℕ)
data_text (rdata.OPT x) = None
data_text v = Some (text_of v)

-- whether a value has a text
abbrev pub HasText : RData → Type 0
HasText (rdata.OPT x) = ⊥
HasText v = ⊤
