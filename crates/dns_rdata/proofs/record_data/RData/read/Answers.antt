use Rattle.std.proofs.Common.{refl, arith}
use Rattle.dns_types.specs.declared.record_type.RecordType.TheVariants as types
use Rattle.dns_rdata_base.specs as base
use Rattle.dns_rdata_policy.specs as policy
use Rattle.dns_rdata_certs.specs as certs
use Rattle.dns_rdata_options.specs as options
use Rattle.dns_rdata_service.specs as service
use Rattle.dns_rdata.specs.declared.record_data.RData.TheVariants as rdata
use Rattle.dns_rdata.proofs.DataReads.{IsNone, known_types, has_no_format, has_read, unknown_read, gives, fails, unknown_fails, never_fails, zero_gives}
use Rattle.dns_rdata.proofs.record_data.RData.read.Goals as goal

pub returns-in-A : goal.returns-in-A
returns-in-A c =
    let w = c.in_ok-read_whole-in-A.ensures.found in
    gives c.in-A.is (has_read types.A rdata.A base.A.a_fields _ w.message w.index w.region (record { type = refl; fields = refl; can_be_read = tt }))

pub returns-in_err-read_whole-in-A : goal.returns-in_err-read_whole-in-A
returns-in_err-read_whole-in-A c =
    fails types.A c.args.length _ c.from_residual.result c.in-A.is c.from_residual.ensures.1 (λ h. h) c.in_err-read_whole-in-A.ensures.refused c.in_err-read_whole-in-A.ensures.why c.in_err-read_whole-in-A.ensures.behind

pub returns-in-AAAA : goal.returns-in-AAAA
returns-in-AAAA c =
    let w = c.in_ok-read_whole-in-AAAA.ensures.found in
    gives c.in-AAAA.is (has_read types.AAAA rdata.AAAA base.AAAA.aaaa_fields _ w.message w.index w.region (record { type = refl; fields = refl; can_be_read = tt }))

pub returns-in_err-read_whole-in-AAAA : goal.returns-in_err-read_whole-in-AAAA
returns-in_err-read_whole-in-AAAA c =
    fails types.AAAA c.args.length _ c.from_residual-in_err-read_whole-in-AAAA.result c.in-AAAA.is c.from_residual-in_err-read_whole-in-AAAA.ensures.1 (λ h. h) c.in_err-read_whole-in-AAAA.ensures.refused c.in_err-read_whole-in-AAAA.ensures.why c.in_err-read_whole-in-AAAA.ensures.behind

pub returns-in-ANAME : goal.returns-in-ANAME
returns-in-ANAME c =
    let w = c.in_ok-read_whole-in-ANAME.ensures.found in
    gives c.in-ANAME.is (has_read types.ANAME rdata.ANAME base.NameRecords.aname_fields _ w.message w.index w.region (record { type = refl; fields = refl; can_be_read = tt }))

pub returns-in_err-read_whole-in-ANAME : goal.returns-in_err-read_whole-in-ANAME
returns-in_err-read_whole-in-ANAME c =
    fails types.ANAME c.args.length _ c.from_residual-in_err-read_whole-in-ANAME.result c.in-ANAME.is c.from_residual-in_err-read_whole-in-ANAME.ensures.1 (λ h. h) c.in_err-read_whole-in-ANAME.ensures.refused c.in_err-read_whole-in-ANAME.ensures.why c.in_err-read_whole-in-ANAME.ensures.behind

pub returns-in-CAA : goal.returns-in-CAA
returns-in-CAA c =
    let w = c.in_ok-read_whole-in-CAA.ensures.found in
    gives c.in-CAA.is (has_read types.CAA rdata.CAA policy.CAA.caa_fields _ w.message w.index w.region (record { type = refl; fields = refl; can_be_read = c.in_ok-read_whole-in-CAA.ensures.after_read.0 }))

pub returns-in_err-read_whole-in-CAA : goal.returns-in_err-read_whole-in-CAA
returns-in_err-read_whole-in-CAA c =
    fails types.CAA c.args.length _ c.from_residual-in_err-read_whole-in-CAA.result c.in-CAA.is c.from_residual-in_err-read_whole-in-CAA.ensures.1 (λ h. h) c.in_err-read_whole-in-CAA.ensures.refused c.in_err-read_whole-in-CAA.ensures.why c.in_err-read_whole-in-CAA.ensures.behind

pub returns-in-CERT : goal.returns-in-CERT
returns-in-CERT c =
    let w = c.in_ok-read_whole-in-CERT.ensures.found in
    gives c.in-CERT.is (has_read types.CERT rdata.CERT certs.CERT.cert_fields _ w.message w.index w.region (record { type = refl; fields = refl; can_be_read = c.in_ok-read_whole-in-CERT.ensures.after_read.0 }))

pub returns-in_err-read_whole-in-CERT : goal.returns-in_err-read_whole-in-CERT
returns-in_err-read_whole-in-CERT c =
    fails types.CERT c.args.length _ c.from_residual-in_err-read_whole-in-CERT.result c.in-CERT.is c.from_residual-in_err-read_whole-in-CERT.ensures.1 (λ h. h) c.in_err-read_whole-in-CERT.ensures.refused c.in_err-read_whole-in-CERT.ensures.why c.in_err-read_whole-in-CERT.ensures.behind

pub returns-in-CNAME : goal.returns-in-CNAME
returns-in-CNAME c =
    let w = c.in_ok-read_whole-in-CNAME.ensures.found in
    gives c.in-CNAME.is (has_read types.CNAME rdata.CNAME base.NameRecords.cname_fields _ w.message w.index w.region (record { type = refl; fields = refl; can_be_read = tt }))

pub returns-in_err-read_whole-in-CNAME : goal.returns-in_err-read_whole-in-CNAME
returns-in_err-read_whole-in-CNAME c =
    fails types.CNAME c.args.length _ c.from_residual-in_err-read_whole-in-CNAME.result c.in-CNAME.is c.from_residual-in_err-read_whole-in-CNAME.ensures.1 (λ h. h) c.in_err-read_whole-in-CNAME.ensures.refused c.in_err-read_whole-in-CNAME.ensures.why c.in_err-read_whole-in-CNAME.ensures.behind

pub returns-in-CSYNC : goal.returns-in-CSYNC
returns-in-CSYNC c =
    let w = c.in_ok-read_whole-in-CSYNC.ensures.found in
    gives c.in-CSYNC.is (has_read types.CSYNC rdata.CSYNC policy.CSYNC.csync_fields _ w.message w.index w.region (record { type = refl; fields = refl; can_be_read = c.in_ok-read_whole-in-CSYNC.ensures.after_read.0 }))

pub returns-in_err-read_whole-in-CSYNC : goal.returns-in_err-read_whole-in-CSYNC
returns-in_err-read_whole-in-CSYNC c =
    fails types.CSYNC c.args.length _ c.from_residual-in_err-read_whole-in-CSYNC.result c.in-CSYNC.is c.from_residual-in_err-read_whole-in-CSYNC.ensures.1 (λ h. h) c.in_err-read_whole-in-CSYNC.ensures.refused c.in_err-read_whole-in-CSYNC.ensures.why c.in_err-read_whole-in-CSYNC.ensures.behind

pub returns-in-HINFO : goal.returns-in-HINFO
returns-in-HINFO c =
    let w = c.in_ok-read_whole-in-HINFO.ensures.found in
    gives c.in-HINFO.is (has_read types.HINFO rdata.HINFO base.HINFO.hinfo_fields _ w.message w.index w.region (record { type = refl; fields = refl; can_be_read = tt }))

pub returns-in_err-read_whole-in-HINFO : goal.returns-in_err-read_whole-in-HINFO
returns-in_err-read_whole-in-HINFO c =
    fails types.HINFO c.args.length _ c.from_residual-in_err-read_whole-in-HINFO.result c.in-HINFO.is c.from_residual-in_err-read_whole-in-HINFO.ensures.1 (λ h. h) c.in_err-read_whole-in-HINFO.ensures.refused c.in_err-read_whole-in-HINFO.ensures.why c.in_err-read_whole-in-HINFO.ensures.behind

pub returns-in-HTTPS : goal.returns-in-HTTPS
returns-in-HTTPS c =
    let w = c.in_ok-read_whole-in-HTTPS.ensures.found in
    gives c.in-HTTPS.is (has_read types.HTTPS rdata.HTTPS (λ x. service.SVCB.svcb_fields x.0) _ w.message w.index w.region (record { type = refl; fields = refl; can_be_read = c.in_ok-read_whole-in-HTTPS.ensures.after_read.read }))

pub returns-in_err-read_whole-in-HTTPS : goal.returns-in_err-read_whole-in-HTTPS
returns-in_err-read_whole-in-HTTPS c =
    fails types.HTTPS c.args.length _ c.from_residual-in_err-read_whole-in-HTTPS.result c.in-HTTPS.is c.from_residual-in_err-read_whole-in-HTTPS.ensures.1 (λ h. h) c.in_err-read_whole-in-HTTPS.ensures.refused c.in_err-read_whole-in-HTTPS.ensures.why c.in_err-read_whole-in-HTTPS.ensures.behind

pub returns-in-MX : goal.returns-in-MX
returns-in-MX c =
    let w = c.in_ok-read_whole-in-MX.ensures.found in
    gives c.in-MX.is (has_read types.MX rdata.MX base.NameRecords.mx_fields _ w.message w.index w.region (record { type = refl; fields = refl; can_be_read = tt }))

pub returns-in_err-read_whole-in-MX : goal.returns-in_err-read_whole-in-MX
returns-in_err-read_whole-in-MX c =
    fails types.MX c.args.length _ c.from_residual-in_err-read_whole-in-MX.result c.in-MX.is c.from_residual-in_err-read_whole-in-MX.ensures.1 (λ h. h) c.in_err-read_whole-in-MX.ensures.refused c.in_err-read_whole-in-MX.ensures.why c.in_err-read_whole-in-MX.ensures.behind

pub returns-in-NAPTR : goal.returns-in-NAPTR
returns-in-NAPTR c =
    let w = c.in_ok-read_whole-in-NAPTR.ensures.found in
    gives c.in-NAPTR.is (has_read types.NAPTR rdata.NAPTR base.NAPTR.naptr_fields _ w.message w.index w.region (record { type = refl; fields = refl; can_be_read = tt }))

pub returns-in_err-read_whole-in-NAPTR : goal.returns-in_err-read_whole-in-NAPTR
returns-in_err-read_whole-in-NAPTR c =
    fails types.NAPTR c.args.length _ c.from_residual-in_err-read_whole-in-NAPTR.result c.in-NAPTR.is c.from_residual-in_err-read_whole-in-NAPTR.ensures.1 (λ h. h) c.in_err-read_whole-in-NAPTR.ensures.refused c.in_err-read_whole-in-NAPTR.ensures.why c.in_err-read_whole-in-NAPTR.ensures.behind

pub returns-in-NULL : goal.returns-in-NULL
returns-in-NULL c =
    let w = c.in_ok-read_whole-in-NULL.ensures.found in
    gives c.in-NULL.is (has_read types.NULL rdata.NULL base.NULL.null_fields _ w.message w.index w.region (record { type = refl; fields = refl; can_be_read = tt }))

pub returns-in_err-read_whole-in-NULL : goal.returns-in_err-read_whole-in-NULL
returns-in_err-read_whole-in-NULL c =
    fails types.NULL c.args.length _ c.from_residual-in_err-read_whole-in-NULL.result c.in-NULL.is c.from_residual-in_err-read_whole-in-NULL.ensures.1 (λ h. h) c.in_err-read_whole-in-NULL.ensures.refused c.in_err-read_whole-in-NULL.ensures.why c.in_err-read_whole-in-NULL.ensures.behind

pub returns-in-NS : goal.returns-in-NS
returns-in-NS c =
    let w = c.in_ok-read_whole-in-NS.ensures.found in
    gives c.in-NS.is (has_read types.NS rdata.NS base.NameRecords.ns_fields _ w.message w.index w.region (record { type = refl; fields = refl; can_be_read = tt }))

pub returns-in_err-read_whole-in-NS : goal.returns-in_err-read_whole-in-NS
returns-in_err-read_whole-in-NS c =
    fails types.NS c.args.length _ c.from_residual-in_err-read_whole-in-NS.result c.in-NS.is c.from_residual-in_err-read_whole-in-NS.ensures.1 (λ h. h) c.in_err-read_whole-in-NS.ensures.refused c.in_err-read_whole-in-NS.ensures.why c.in_err-read_whole-in-NS.ensures.behind

pub returns-in-OPENPGPKEY : goal.returns-in-OPENPGPKEY
returns-in-OPENPGPKEY c =
    let w = c.in_ok-read_whole-in-OPENPGPKEY.ensures.found in
    gives c.in-OPENPGPKEY.is (has_read types.OPENPGPKEY rdata.OPENPGPKEY base.OPENPGPKEY.openpgpkey_fields _ w.message w.index w.region (record { type = refl; fields = refl; can_be_read = tt }))

pub returns-in_err-read_whole-in-OPENPGPKEY : goal.returns-in_err-read_whole-in-OPENPGPKEY
returns-in_err-read_whole-in-OPENPGPKEY c =
    fails types.OPENPGPKEY c.args.length _ c.from_residual-in_err-read_whole-in-OPENPGPKEY.result c.in-OPENPGPKEY.is c.from_residual-in_err-read_whole-in-OPENPGPKEY.ensures.1 (λ h. h) c.in_err-read_whole-in-OPENPGPKEY.ensures.refused c.in_err-read_whole-in-OPENPGPKEY.ensures.why c.in_err-read_whole-in-OPENPGPKEY.ensures.behind

pub returns-in-OPT : goal.returns-in-OPT
returns-in-OPT c =
    let w = c.in_ok-read_whole-in-OPT.ensures.found in
    gives c.in-OPT.is (has_read types.OPT rdata.OPT options.OPT.opt_fields _ w.message w.index w.region (record { type = refl; fields = refl; can_be_read = c.in_ok-read_whole-in-OPT.ensures.after_read.0 }))

pub returns-in_err-read_whole-in-OPT : goal.returns-in_err-read_whole-in-OPT
returns-in_err-read_whole-in-OPT c =
    fails types.OPT c.args.length _ c.from_residual-in_err-read_whole-in-OPT.result c.in-OPT.is c.from_residual-in_err-read_whole-in-OPT.ensures.1 (λ h. h) c.in_err-read_whole-in-OPT.ensures.refused c.in_err-read_whole-in-OPT.ensures.why c.in_err-read_whole-in-OPT.ensures.behind

pub returns-in-PTR : goal.returns-in-PTR
returns-in-PTR c =
    let w = c.in_ok-read_whole-in-PTR.ensures.found in
    gives c.in-PTR.is (has_read types.PTR rdata.PTR base.NameRecords.ptr_fields _ w.message w.index w.region (record { type = refl; fields = refl; can_be_read = tt }))

pub returns-in_err-read_whole-in-PTR : goal.returns-in_err-read_whole-in-PTR
returns-in_err-read_whole-in-PTR c =
    fails types.PTR c.args.length _ c.from_residual-in_err-read_whole-in-PTR.result c.in-PTR.is c.from_residual-in_err-read_whole-in-PTR.ensures.1 (λ h. h) c.in_err-read_whole-in-PTR.ensures.refused c.in_err-read_whole-in-PTR.ensures.why c.in_err-read_whole-in-PTR.ensures.behind

pub returns-in-SMIMEA : goal.returns-in-SMIMEA
returns-in-SMIMEA c =
    let w = c.in_ok-read_whole-in-SMIMEA.ensures.found in
    gives c.in-SMIMEA.is (has_read types.SMIMEA rdata.SMIMEA (λ x. certs.TLSA.tlsa_fields x.0) _ w.message w.index w.region (record { type = refl; fields = refl; can_be_read = c.in_ok-read_whole-in-SMIMEA.ensures.after_read.0 }))

pub returns-in_err-read_whole-in-SMIMEA : goal.returns-in_err-read_whole-in-SMIMEA
returns-in_err-read_whole-in-SMIMEA c =
    fails types.SMIMEA c.args.length _ c.from_residual-in_err-read_whole-in-SMIMEA.result c.in-SMIMEA.is c.from_residual-in_err-read_whole-in-SMIMEA.ensures.1 (λ h. h) c.in_err-read_whole-in-SMIMEA.ensures.refused c.in_err-read_whole-in-SMIMEA.ensures.why c.in_err-read_whole-in-SMIMEA.ensures.behind

pub returns-in-SOA : goal.returns-in-SOA
returns-in-SOA c =
    let w = c.in_ok-read_whole-in-SOA.ensures.found in
    gives c.in-SOA.is (has_read types.SOA rdata.SOA base.SOA.soa_fields _ w.message w.index w.region (record { type = refl; fields = refl; can_be_read = c.in_ok-read_whole-in-SOA.ensures.after_read }))

pub returns-in_err-read_whole-in-SOA : goal.returns-in_err-read_whole-in-SOA
returns-in_err-read_whole-in-SOA c =
    fails types.SOA c.args.length _ c.from_residual-in_err-read_whole-in-SOA.result c.in-SOA.is c.from_residual-in_err-read_whole-in-SOA.ensures.1 (λ h. h) c.in_err-read_whole-in-SOA.ensures.refused c.in_err-read_whole-in-SOA.ensures.why c.in_err-read_whole-in-SOA.ensures.behind

pub returns-in-SRV : goal.returns-in-SRV
returns-in-SRV c =
    let w = c.in_ok-read_whole-in-SRV.ensures.found in
    gives c.in-SRV.is (has_read types.SRV rdata.SRV base.NameRecords.srv_fields _ w.message w.index w.region (record { type = refl; fields = refl; can_be_read = tt }))

pub returns-in_err-read_whole-in-SRV : goal.returns-in_err-read_whole-in-SRV
returns-in_err-read_whole-in-SRV c =
    fails types.SRV c.args.length _ c.from_residual-in_err-read_whole-in-SRV.result c.in-SRV.is c.from_residual-in_err-read_whole-in-SRV.ensures.1 (λ h. h) c.in_err-read_whole-in-SRV.ensures.refused c.in_err-read_whole-in-SRV.ensures.why c.in_err-read_whole-in-SRV.ensures.behind

pub returns-in-SSHFP : goal.returns-in-SSHFP
returns-in-SSHFP c =
    let w = c.in_ok-read_whole-in-SSHFP.ensures.found in
    gives c.in-SSHFP.is (has_read types.SSHFP rdata.SSHFP certs.SSHFP.sshfp_fields _ w.message w.index w.region (record { type = refl; fields = refl; can_be_read = c.in_ok-read_whole-in-SSHFP.ensures.after_read.0 }))

pub returns-in_err-read_whole-in-SSHFP : goal.returns-in_err-read_whole-in-SSHFP
returns-in_err-read_whole-in-SSHFP c =
    fails types.SSHFP c.args.length _ c.from_residual-in_err-read_whole-in-SSHFP.result c.in-SSHFP.is c.from_residual-in_err-read_whole-in-SSHFP.ensures.1 (λ h. h) c.in_err-read_whole-in-SSHFP.ensures.refused c.in_err-read_whole-in-SSHFP.ensures.why c.in_err-read_whole-in-SSHFP.ensures.behind

pub returns-in-SVCB : goal.returns-in-SVCB
returns-in-SVCB c =
    let w = c.in_ok-read_whole-in-SVCB.ensures.found in
    gives c.in-SVCB.is (has_read types.SVCB rdata.SVCB service.SVCB.svcb_fields _ w.message w.index w.region (record { type = refl; fields = refl; can_be_read = c.in_ok-read_whole-in-SVCB.ensures.after_read.read }))

pub returns-in_err-read_whole-in-SVCB : goal.returns-in_err-read_whole-in-SVCB
returns-in_err-read_whole-in-SVCB c =
    fails types.SVCB c.args.length _ c.from_residual-in_err-read_whole-in-SVCB.result c.in-SVCB.is c.from_residual-in_err-read_whole-in-SVCB.ensures.1 (λ h. h) c.in_err-read_whole-in-SVCB.ensures.refused c.in_err-read_whole-in-SVCB.ensures.why c.in_err-read_whole-in-SVCB.ensures.behind

pub returns-in-TLSA : goal.returns-in-TLSA
returns-in-TLSA c =
    let w = c.in_ok-read_whole-in-TLSA.ensures.found in
    gives c.in-TLSA.is (has_read types.TLSA rdata.TLSA certs.TLSA.tlsa_fields _ w.message w.index w.region (record { type = refl; fields = refl; can_be_read = c.in_ok-read_whole-in-TLSA.ensures.after_read.0 }))

pub returns-in_err-read_whole-in-TLSA : goal.returns-in_err-read_whole-in-TLSA
returns-in_err-read_whole-in-TLSA c =
    fails types.TLSA c.args.length _ c.from_residual-in_err-read_whole-in-TLSA.result c.in-TLSA.is c.from_residual-in_err-read_whole-in-TLSA.ensures.1 (λ h. h) c.in_err-read_whole-in-TLSA.ensures.refused c.in_err-read_whole-in-TLSA.ensures.why c.in_err-read_whole-in-TLSA.ensures.behind

pub returns-in-TXT : goal.returns-in-TXT
returns-in-TXT c =
    let w = c.in_ok-read_whole-in-TXT.ensures.found in
    gives c.in-TXT.is (has_read types.TXT rdata.TXT base.TXT.txt_fields _ w.message w.index w.region (record { type = refl; fields = refl; can_be_read = tt }))

pub returns-in_err-read_whole-in-TXT : goal.returns-in_err-read_whole-in-TXT
returns-in_err-read_whole-in-TXT c =
    fails types.TXT c.args.length _ c.from_residual-in_err-read_whole-in-TXT.result c.in-TXT.is c.from_residual-in_err-read_whole-in-TXT.ensures.1 (λ h. h) c.in_err-read_whole-in-TXT.ensures.refused c.in_err-read_whole-in-TXT.ensures.why c.in_err-read_whole-in-TXT.ensures.behind

pub returns-in-ANY : goal.returns-in-ANY
returns-in-ANY c = rw c.into.ensures (never_fails c.args.record_type c.args.length c.args.decoder.now c.in-ANY.is)

pub returns-in_default : goal.returns-in_default
returns-in_default c =
    let none : IsNone c.args.record_type known_types = assumption in
    gives refl (unknown_read c.args.record_type _ (has_no_format c.args.record_type none) c.in_ok-rdata-in_default.ensures.found)

pub returns-in_err-rdata-in_default : goal.returns-in_err-rdata-in_default
returns-in_err-rdata-in_default c =
    let none : IsNone c.args.record_type known_types = assumption in
    let e = c.in_err-rdata-in_default.ensures in
    unknown_fails c.args.record_type c.args.length _ c.from_residual-in_err-rdata-in_default.result (has_no_format c.args.record_type none)
    c.from_residual-in_err-rdata-in_default.ensures.1 e.refused e.why e.behind

pub returns-then-unverified-eq0 : goal.returns-then-unverified-eq0
returns-then-unverified-eq0 c = zero_gives c.in-ZERO.is (omega (arith, c.unverified.ensures)) c.index-start.ensures.inside c.index-start.ensures.octets
