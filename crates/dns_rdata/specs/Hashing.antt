-- What values of RDATA feed a hasher: equal values feed the same.
use Rattle.std.specs.Prelude.{◌≡◌, Bool, true, ◌&&◌, ◌++◌, []}
use Rattle.std.specs.{Cmp.first_so, Hash.HashWrites}
use Rattle.std.proofs.Common.{ap, arith, ◌∙◌, refl, true≢false, sym}
use Rattle.std.proofs.Math.Bool.{and_assoc, and-true}
use Rattle.dns_types.specs.contracts.record_type.RecordTypeHash.TheImpl as type_hash
use Rattle.dns_types.specs.contracts.record_type.RecordTypeHash.TheImpl.Laws as type_hash_laws
use Rattle.dns_rdata_base.specs.contracts as base
use Rattle.dns_rdata_certs.specs.contracts as certs
use Rattle.dns_rdata_options.specs.contracts as options
use Rattle.dns_rdata_service.specs.contracts as service
use Rattle.dns_rdata_policy.specs.contracts as policy
use Rattle.dns_rdata.specs.{declared.record_data.RData.RData, Data.type_of, Keys.variant_keys}
use Rattle.dns_rdata.specs.Equal.{equal, record_type_eq, types_equal}
use Rattle.dns_rdata.specs.declared.record_data.RData.TheVariants as rdata

-- what the record in the value feeds
abbrev pub record_fed : RData → HashWrites
record_fed (rdata.A x) = base.a.AHash.TheImpl.ghosts.hash_input x
record_fed (rdata.AAAA x) = base.aaaa.AAAAHash.TheImpl.ghosts.hash_input x
record_fed (rdata.ANAME x) = base.name.ANAMEHash.TheImpl.ghosts.hash_input x
record_fed (rdata.CAA x) = policy.caa.CAAHash.TheImpl.ghosts.hash_input x
record_fed (rdata.CERT x) = certs.cert.CERTHash.TheImpl.ghosts.hash_input x
record_fed (rdata.CNAME x) = base.name.CNAMEHash.TheImpl.ghosts.hash_input x
record_fed (rdata.CSYNC x) = policy.csync.CSYNCHash.TheImpl.ghosts.hash_input x
record_fed (rdata.HINFO x) = base.hinfo.HINFOHash.TheImpl.ghosts.hash_input x
record_fed (rdata.HTTPS x) = service.https.HTTPSHash.TheImpl.ghosts.hash_input x
record_fed (rdata.MX x) = base.mx.MXHash.TheImpl.ghosts.hash_input x
record_fed (rdata.NAPTR x) = base.naptr.NAPTRHash.TheImpl.ghosts.hash_input x
record_fed (rdata.NULL x) = base.null.NULLHash.TheImpl.ghosts.hash_input x
record_fed (rdata.NS x) = base.name.NSHash.TheImpl.ghosts.hash_input x
record_fed (rdata.OPENPGPKEY x) = base.openpgpkey.OPENPGPKEYHash.TheImpl.ghosts.hash_input x
record_fed (rdata.OPT x) = options.opt.OPTHash.TheImpl.ghosts.hash_input x
record_fed (rdata.PTR x) = base.name.PTRHash.TheImpl.ghosts.hash_input x
record_fed (rdata.SMIMEA x) = certs.smimea.SMIMEAHash.TheImpl.ghosts.hash_input x
record_fed (rdata.SOA x) = base.soa.SOAHash.TheImpl.ghosts.hash_input x
record_fed (rdata.SRV x) = base.srv.SRVHash.TheImpl.ghosts.hash_input x
record_fed (rdata.SSHFP x) = certs.sshfp.SSHFPHash.TheImpl.ghosts.hash_input x
record_fed (rdata.SVCB x) = service.svcb.SVCBHash.TheImpl.ghosts.hash_input x
record_fed (rdata.TLSA x) = certs.tlsa.TLSAHash.TheImpl.ghosts.hash_input x
record_fed (rdata.TXT x) = base.txt.TXTHash.TheImpl.ghosts.hash_input x
record_fed (rdata.Unknown code x) = base.null.NULLHash.TheImpl.ghosts.hash_input x
record_fed (rdata.Update0 t) = []
record_fed rdata.ZERO = []

-- the type, and then what the record in the value feeds
abbrev pub data_fed : RData → HashWrites
data_fed v = type_hash.ghosts.hash_input (type_of v) ++ record_fed v

alone : (b : Bool) → (b && true) ≡ true → b ≡ true
alone b h = first_so b true h

record_fed_same : (v w : RData) → equal v w ≡ true → record_fed v ≡ record_fed w
record_fed_same (rdata.A x) (rdata.A y) h = base.a.AHash.TheImpl.Laws.respects_eq-law x y (simp and-true at h)
record_fed_same (rdata.AAAA x) (rdata.AAAA y) h = base.aaaa.AAAAHash.TheImpl.Laws.respects_eq-law x y (alone _ h)
record_fed_same (rdata.ANAME x) (rdata.ANAME y) h =
    base.name.ANAMEHash.TheImpl.Laws.respects_eq-law x y (simp and-true at h)
record_fed_same (rdata.CAA x) (rdata.CAA y) h = policy.caa.CAAHash.TheImpl.Laws.respects_eq-law x y (alone _ h)
record_fed_same (rdata.CERT x) (rdata.CERT y) h =
    certs.cert.CERTHash.TheImpl.Laws.respects_eq-law x y (simp and_assoc (simp (and_assoc, and-true) at h))
record_fed_same (rdata.CNAME x) (rdata.CNAME y) h =
    base.name.CNAMEHash.TheImpl.Laws.respects_eq-law x y (simp and-true at h)
record_fed_same (rdata.CSYNC x) (rdata.CSYNC y) h =
    policy.csync.CSYNCHash.TheImpl.Laws.respects_eq-law x y (grind (arith, h))
record_fed_same (rdata.HINFO x) (rdata.HINFO y) h =
    base.hinfo.HINFOHash.TheImpl.Laws.respects_eq-law x y (simp and-true at h)
record_fed_same (rdata.HTTPS x) (rdata.HTTPS y) h = service.https.HTTPSHash.TheImpl.Laws.respects_eq-law x y (alone _ h)
record_fed_same (rdata.MX x) (rdata.MX y) h = base.mx.MXHash.TheImpl.Laws.respects_eq-law x y (simp and-true at h)
record_fed_same (rdata.NAPTR x) (rdata.NAPTR y) h =
    base.naptr.NAPTRHash.TheImpl.Laws.respects_eq-law x y (simp and-true at h)
record_fed_same (rdata.NULL x) (rdata.NULL y) h =
    base.null.NULLHash.TheImpl.Laws.respects_eq-law x y (simp and-true at h)
record_fed_same (rdata.NS x) (rdata.NS y) h = base.name.NSHash.TheImpl.Laws.respects_eq-law x y (simp and-true at h)
record_fed_same (rdata.OPENPGPKEY x) (rdata.OPENPGPKEY y) h =
    base.openpgpkey.OPENPGPKEYHash.TheImpl.Laws.respects_eq-law x y (simp and-true at h)
record_fed_same (rdata.OPT x) (rdata.OPT y) h = options.opt.OPTHash.TheImpl.Laws.respects_eq-law x y (alone _ h)
record_fed_same (rdata.PTR x) (rdata.PTR y) h = base.name.PTRHash.TheImpl.Laws.respects_eq-law x y (simp and-true at h)
record_fed_same (rdata.SMIMEA x) (rdata.SMIMEA y) h =
    certs.smimea.SMIMEAHash.TheImpl.Laws.respects_eq-law x y (simp and_assoc (simp (and_assoc, and-true) at h))
record_fed_same (rdata.SOA x) (rdata.SOA y) h = base.soa.SOAHash.TheImpl.Laws.respects_eq-law x y (alone _ h)
record_fed_same (rdata.SRV x) (rdata.SRV y) h = base.srv.SRVHash.TheImpl.Laws.respects_eq-law x y (simp and-true at h)
record_fed_same (rdata.SSHFP x) (rdata.SSHFP y) h =
    certs.sshfp.SSHFPHash.TheImpl.Laws.respects_eq-law x y (simp and_assoc (simp (and_assoc, and-true) at h))
record_fed_same (rdata.SVCB x) (rdata.SVCB y) h = service.svcb.SVCBHash.TheImpl.Laws.respects_eq-law x y (alone _ h)
record_fed_same (rdata.TLSA x) (rdata.TLSA y) h =
    certs.tlsa.TLSAHash.TheImpl.Laws.respects_eq-law x y (simp and_assoc (simp (and_assoc, and-true) at h))
record_fed_same (rdata.TXT x) (rdata.TXT y) h = base.txt.TXTHash.TheImpl.Laws.respects_eq-law x y (simp and-true at h)
record_fed_same (rdata.Unknown a x) (rdata.Unknown b y) h =
    base.null.NULLHash.TheImpl.Laws.respects_eq-law x y (first_so _ (record_type_eq a b) (simp and-true at h))
record_fed_same (rdata.Update0 t) (rdata.Update0 u) h = refl
record_fed_same rdata.ZERO rdata.ZERO h = refl
record_fed_same v w h = absurd (true≢false (sym h))

pub fed_same : (v w : RData) → equal v w ≡ true → data_fed v ≡ data_fed w
fed_same v w h =
    ap (λ (f : HashWrites). f ++ record_fed v)
    (type_hash_laws.respects_eq-law (type_of v) (type_of w) (types_equal variant_keys v w h))
    ∙ ap (λ (f : HashWrites). type_hash.ghosts.hash_input (type_of w) ++ f) (record_fed_same v w h)
