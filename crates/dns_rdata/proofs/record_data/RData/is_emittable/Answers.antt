use Rattle.std.proofs.{Common.◌∙◌, Common.sym, Math.Bool.and-true}
use Rattle.dns_rdata.proofs.CursorSteps.{decides}
use Rattle.dns_rdata.proofs.record_data.RData.is_emittable.Goals as goal

pub returns-in-CAA : goal.returns-in-CAA
returns-in-CAA c = rw c.in-CAA.is (decides _ _ c.caa_is_emittable.ensures)

pub returns-in-HINFO : goal.returns-in-HINFO
returns-in-HINFO c = rw c.in-HINFO.is (decides _ _ c.hinfo_is_emittable.ensures)

pub returns-in-HTTPS : goal.returns-in-HTTPS
returns-in-HTTPS c = rw c.in-HTTPS.is (decides _ _ (c.svcb_is_emittable.ensures ∙ sym (and-true _)))

pub returns-in-NAPTR : goal.returns-in-NAPTR
returns-in-NAPTR c = rw c.in-NAPTR.is (decides _ _ c.naptr_is_emittable.ensures)

pub returns-in-OPT : goal.returns-in-OPT
returns-in-OPT c = rw c.in-OPT.is (decides _ _ (c.opt_is_emittable.ensures ∙ sym (and-true _)))

pub returns-in-SVCB : goal.returns-in-SVCB
returns-in-SVCB c = rw c.in-SVCB.is (decides _ _ (c.svcb_is_emittable-in-SVCB.ensures ∙ sym (and-true _)))

pub returns-in-TXT : goal.returns-in-TXT
returns-in-TXT c = rw c.in-TXT.is (decides _ _ c.txt_is_emittable.ensures)
