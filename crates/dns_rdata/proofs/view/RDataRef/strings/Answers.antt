use Rattle.std.proofs.Common.{[], refl, sym, ◌∙◌}
use Rattle.std.proofs.lemmas.List.{append-nil}
use Rattle.dns_view.proofs.StringSteps.{no_octets}
use Rattle.dns_rdata.specs.ViewLists.{strings_in}
use Rattle.dns_rdata.proofs.ViewLists.{strings_octets, strings_none}
use Rattle.dns_rdata.proofs.view.RDataRef.strings.Goals as goal

pub returns-in-TXT : goal.returns-in-TXT
returns-in-TXT c = λ m p n t v is f.
    c.of.ensures (strings_in v) [] (c.octets.ensures m p n t is ∙ strings_octets is f c.in-TXT.is ∙ sym (append-nil _)) no_octets

pub returns-in_default : goal.returns-in_default
returns-in_default c = λ m p n t v is f. c.of-in_default.ensures [] [] refl no_octets ∙ strings_none is f c.in_default.not-TXT
