use Rattle.dns_rdata.proofs.record_data.RData.uncounted_step.Goals as goal

pub returns-in-NULL : goal.returns-in-NULL
returns-in-NULL c = rw c.in-NULL.is ((rw c.as_slice.ensures.value at c.rest_step.ensures) _ _)

pub returns-in-OPENPGPKEY : goal.returns-in-OPENPGPKEY
returns-in-OPENPGPKEY c = rw c.in-OPENPGPKEY.is ((rw c.as_slice-in-OPENPGPKEY.ensures.value at c.rest_step-in-OPENPGPKEY.ensures) _ _)

pub returns-in-TXT : goal.returns-in-TXT
returns-in-TXT c = rw c.in-TXT.is (c.txt_step.ensures _)

pub returns-in-Unknown : goal.returns-in-Unknown
returns-in-Unknown c = rw c.in-Unknown.is ((rw c.as_slice-in-Unknown.ensures.value at c.rest_step-in-Unknown.ensures) _ _)
