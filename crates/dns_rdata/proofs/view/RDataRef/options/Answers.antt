use Rattle.std.proofs.Common.{[], refl}
use Rattle.dns_view.proofs.TlvSteps.{no_octets}
use Rattle.dns_rdata.proofs.ViewLists.{options_told, options_none}
use Rattle.dns_rdata.proofs.view.RDataRef.options.Goals as goal

pub returns-in-OPT : goal.returns-in-OPT
returns-in-OPT c = λ m p n t v is f.
    options_told _ c.of_options.result is f c.in-OPT.is (c.octets.ensures m p n t is) (c.of_options.ensures.complete, c.of_options.ensures.truncated)

pub returns-in_default : goal.returns-in_default
returns-in_default c = λ m p n t v is f. options_none c.of.result is f c.in_default.not-OPT (c.of.ensures [] [] tt refl no_octets)
