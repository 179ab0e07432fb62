use Rattle.std.proofs.Common.{[], refl}
use Rattle.dns_view.proofs.TlvSteps.{no_octets}
use Rattle.dns_rdata.proofs.ViewLists.{parameters_told, parameters_other, parameters_missing}
use Rattle.dns_rdata.proofs.view.RDataRef.params.Goals as goal

pub returns-in-Parameters : goal.returns-in-Parameters
returns-in-Parameters c = λ m p n t v is f. parameters_told m p n v _ c.of.result (rw c.in-Parameters.is at c.in-Some.ensures m p n t v is f) c.of.ensures

pub returns-in_default : goal.returns-in_default
returns-in_default c = λ m p n t v is f.
    parameters_other m p n v c.in-Some.field c.of-in_default.result (c.in-Some.ensures m p n t v is f) c.in_default.not-Parameters
    (c.of-in_default.ensures [] [] tt refl no_octets)

pub returns-in-None : goal.returns-in-None
returns-in-None c = λ m p n t v is f. parameters_missing v c.of-in-None.result (c.in-None.ensures m p n t v is f) (c.of-in-None.ensures [] [] tt refl no_octets)
