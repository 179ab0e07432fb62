use Rattle.std.proofs.Common.{refl}
use Rattle.dns_rdata.proofs.view_fields.FieldsIterator.next.Goals as goal

pub returns-in_err-field-clause-steps : goal.returns-in_err-field-clause-steps
returns-in_err-field-clause-steps c =
    rw c.from_residual.ensures (record { rdata = refl; on = refl; shows = λ m p n t v is f. c.in_err-field.ensures m p n t v is f })

pub returns-clause-steps : goal.returns-clause-steps
returns-clause-steps c = record { rdata = refl; on = refl; shows = λ m p n t v is f. c.in_ok-field.ensures m p n t v is f }
