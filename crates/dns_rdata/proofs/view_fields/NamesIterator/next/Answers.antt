use Rattle.std.proofs.Common.{refl}
use Rattle.dns_rdata.proofs.view_fields.NamesIterator.next.Goals as goal

pub returns-in_err-name-clause-steps : goal.returns-in_err-name-clause-steps
returns-in_err-name-clause-steps c =
    rw c.from_residual.ensures (record { rdata = refl; on = refl; shows = λ m p n t v is f. c.in_err-name.ensures m p n t v is f })

pub returns-clause-steps : goal.returns-clause-steps
returns-clause-steps c = record { rdata = refl; on = refl; shows = λ m p n t v is f. c.in_ok-name.ensures m p n t v is f }
