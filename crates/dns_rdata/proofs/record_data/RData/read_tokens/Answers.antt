use Rattle.std.proofs.Common.{refl}
use Rattle.dns_types.specs.declared.record_type.RecordType.TheVariants as types
use Rattle.dns_rdata.specs.declared.record_data.RData.TheVariants as rdata
use Rattle.dns_rdata.proofs.DataReads.{IsNone, of_read}
use Rattle.dns_rdata.proofs.DataTokens.{token_types, has_no_tokens, no_https, no_svcb, answers, answers_no_tokens, by_token_row, by_own, zero_took}
use Rattle.dns_rdata.proofs.record_data.RData.read_tokens.Goals as goal

pub returns-in-A : goal.returns-in-A
returns-in-A g c = rw c.in-A.is (by_token_row _ types.A _ (λ x. rdata.A x) _ (λ h. h) (λ v tokens. (λ is. is, λ is. is)) c.from_tokens.ensures.reads (λ x _. record { type = refl; fields = refl; can_be_read = tt }) c.wrap.ensures)

pub returns-in-AAAA : goal.returns-in-AAAA
returns-in-AAAA g c = rw c.in-AAAA.is (by_token_row _ types.AAAA _ (λ x. rdata.AAAA x) _ (λ h. h) (λ v tokens. (λ is. is, λ is. is)) c.from_tokens-in-AAAA.ensures.reads (λ x _. record { type = refl; fields = refl; can_be_read = tt }) c.wrap-in-AAAA.ensures)

pub returns-in-ANAME : goal.returns-in-ANAME
returns-in-ANAME g c = rw c.in-ANAME.is (by_token_row _ types.ANAME _ (λ x. rdata.ANAME x) _ (λ h. h) (λ v tokens. (λ is. is, λ is. is)) c.from_tokens-in-ANAME.ensures (λ x _. record { type = refl; fields = refl; can_be_read = tt }) c.wrap-in-ANAME.ensures)

pub returns-in-CAA : goal.returns-in-CAA
returns-in-CAA g c = rw c.in-CAA.is (by_token_row _ types.CAA _ (λ x. rdata.CAA x) _ (λ h. h) (λ v tokens. (λ is. is, λ is. is)) c.from_tokens-in-CAA.ensures.reads (λ x e. record { type = refl; fields = refl; can_be_read = of_read _ c.from_tokens-in-CAA.ensures.flags e }) c.wrap-in-CAA.ensures)

pub returns-in-CERT : goal.returns-in-CERT
returns-in-CERT g c = rw c.in-CERT.is (by_token_row _ types.CERT _ (λ x. rdata.CERT x) _ (λ h. h) (λ v tokens. (λ is. is, λ is. is)) c.from_tokens-in-CERT.ensures.reads (λ x e. record { type = refl; fields = refl; can_be_read = of_read _ c.from_tokens-in-CERT.ensures.enums e }) c.wrap-in-CERT.ensures)

pub returns-in-CNAME : goal.returns-in-CNAME
returns-in-CNAME g c = rw c.in-CNAME.is (by_token_row _ types.CNAME _ (λ x. rdata.CNAME x) _ (λ h. h) (λ v tokens. (λ is. is, λ is. is)) c.from_tokens-in-CNAME.ensures (λ x _. record { type = refl; fields = refl; can_be_read = tt }) c.wrap-in-CNAME.ensures)

pub returns-in-CSYNC : goal.returns-in-CSYNC
returns-in-CSYNC g c = rw c.in-CSYNC.is (by_token_row _ types.CSYNC _ (λ x. rdata.CSYNC x) _ (λ h. h) (λ v tokens. (λ is. is, λ is. is)) c.from_tokens-in-CSYNC.ensures.reads (λ x e. record { type = refl; fields = refl; can_be_read = of_read _ c.from_tokens-in-CSYNC.ensures.flags e }) c.wrap-in-CSYNC.ensures)

pub returns-in-HINFO : goal.returns-in-HINFO
returns-in-HINFO g c = rw c.in-HINFO.is (by_token_row _ types.HINFO _ (λ x. rdata.HINFO x) _ (λ h. h) (λ v tokens. (λ is. is, λ is. is)) c.from_tokens-in-HINFO.ensures (λ x _. record { type = refl; fields = refl; can_be_read = tt }) c.wrap-in-HINFO.ensures)

pub returns-in-HTTPS : goal.returns-in-HTTPS
returns-in-HTTPS g c = rw c.in-HTTPS.is (by_own _ _ _ types.HTTPS (λ x. rdata.HTTPS x) (λ x. x.0) (λ h. h) (λ x. refl) (λ x tokens h. h) no_https c.from_tokens-in-HTTPS.ensures.own c.from_tokens-in-HTTPS.ensures.reads c.wrap-in-HTTPS.ensures)

pub returns-in-MX : goal.returns-in-MX
returns-in-MX g c = rw c.in-MX.is (by_token_row _ types.MX _ (λ x. rdata.MX x) _ (λ h. h) (λ v tokens. (λ is. is, λ is. is)) c.from_tokens-in-MX.ensures (λ x _. record { type = refl; fields = refl; can_be_read = tt }) c.wrap-in-MX.ensures)

pub returns-in-NAPTR : goal.returns-in-NAPTR
returns-in-NAPTR g c = rw c.in-NAPTR.is (by_token_row _ types.NAPTR _ (λ x. rdata.NAPTR x) _ (λ h. h) (λ v tokens. (λ is. is, λ is. is)) c.from_tokens-in-NAPTR.ensures (λ x _. record { type = refl; fields = refl; can_be_read = tt }) c.wrap-in-NAPTR.ensures)

pub returns-in-NS : goal.returns-in-NS
returns-in-NS g c = rw c.in-NS.is (by_token_row _ types.NS _ (λ x. rdata.NS x) _ (λ h. h) (λ v tokens. (λ is. is, λ is. is)) c.from_tokens-in-NS.ensures (λ x _. record { type = refl; fields = refl; can_be_read = tt }) c.wrap-in-NS.ensures)

pub returns-in-OPENPGPKEY : goal.returns-in-OPENPGPKEY
returns-in-OPENPGPKEY g c = rw c.in-OPENPGPKEY.is (by_token_row _ types.OPENPGPKEY _ (λ x. rdata.OPENPGPKEY x) _ (λ h. h) (λ v tokens. (λ is. is, λ is. is)) c.from_tokens-in-OPENPGPKEY.ensures (λ x _. record { type = refl; fields = refl; can_be_read = tt }) c.wrap-in-OPENPGPKEY.ensures)

pub returns-in-PTR : goal.returns-in-PTR
returns-in-PTR g c = rw c.in-PTR.is (by_token_row _ types.PTR _ (λ x. rdata.PTR x) _ (λ h. h) (λ v tokens. (λ is. is, λ is. is)) c.from_tokens-in-PTR.ensures (λ x _. record { type = refl; fields = refl; can_be_read = tt }) c.wrap-in-PTR.ensures)

pub returns-in-SMIMEA : goal.returns-in-SMIMEA
returns-in-SMIMEA g c = rw c.in-SMIMEA.is (by_token_row _ types.SMIMEA _ (λ x. rdata.SMIMEA x) _ (λ h. h) (λ v tokens. (λ is. is, λ is. is)) c.from_tokens-in-SMIMEA.ensures.reads (λ x e. record { type = refl; fields = refl; can_be_read = of_read _ c.from_tokens-in-SMIMEA.ensures.enums e }) c.wrap-in-SMIMEA.ensures)

pub returns-in-SOA : goal.returns-in-SOA
returns-in-SOA g c = rw c.in-SOA.is (by_token_row _ types.SOA _ (λ x. rdata.SOA x) _ (λ h. h) (λ v tokens. (λ is. is, λ is. is)) c.from_tokens-in-SOA.ensures.reads (λ x e. record { type = refl; fields = refl; can_be_read = of_read _ c.from_tokens-in-SOA.ensures.seconds e }) c.wrap-in-SOA.ensures)

pub returns-in-SRV : goal.returns-in-SRV
returns-in-SRV g c = rw c.in-SRV.is (by_token_row _ types.SRV _ (λ x. rdata.SRV x) _ (λ h. h) (λ v tokens. (λ is. is, λ is. is)) c.from_tokens-in-SRV.ensures (λ x _. record { type = refl; fields = refl; can_be_read = tt }) c.wrap-in-SRV.ensures)

pub returns-in-SSHFP : goal.returns-in-SSHFP
returns-in-SSHFP g c = rw c.in-SSHFP.is (by_token_row _ types.SSHFP _ (λ x. rdata.SSHFP x) _ (λ h. h) (λ v tokens. (λ is. is, λ is. is)) c.from_tokens-in-SSHFP.ensures.reads (λ x e. record { type = refl; fields = refl; can_be_read = of_read _ c.from_tokens-in-SSHFP.ensures.enums e }) c.wrap-in-SSHFP.ensures)

pub returns-in-SVCB : goal.returns-in-SVCB
returns-in-SVCB g c = rw c.in-SVCB.is (by_own _ _ _ types.SVCB (λ x. rdata.SVCB x) (λ x. x) (λ h. h) (λ x. refl) (λ x tokens h. h) no_svcb c.from_tokens-in-SVCB.ensures.own c.from_tokens-in-SVCB.ensures.reads c.wrap-in-SVCB.ensures)

pub returns-in-TLSA : goal.returns-in-TLSA
returns-in-TLSA g c = rw c.in-TLSA.is (by_token_row _ types.TLSA _ (λ x. rdata.TLSA x) _ (λ h. h) (λ v tokens. (λ is. is, λ is. is)) c.from_tokens-in-TLSA.ensures.reads (λ x e. record { type = refl; fields = refl; can_be_read = of_read _ c.from_tokens-in-TLSA.ensures.enums e }) c.wrap-in-TLSA.ensures)

pub returns-in-TXT : goal.returns-in-TXT
returns-in-TXT g c = rw c.in-TXT.is (by_token_row _ types.TXT _ (λ x. rdata.TXT x) _ (λ h. h) (λ v tokens. (λ is. is, λ is. is)) c.from_tokens-in-TXT.ensures (λ x _. record { type = refl; fields = refl; can_be_read = tt }) c.wrap-in-TXT.ensures)

pub returns-in-ZERO : goal.returns-in-ZERO
returns-in-ZERO g c = rw c.in-ZERO.is (answers types.ZERO (λ h. h) (zero_took _))

pub returns-in_default : goal.returns-in_default
returns-in_default g c =
    let none : IsNone c.args.record_type token_types = assumption in answers_no_tokens _ c.args.record_type (has_no_tokens c.args.record_type none)
