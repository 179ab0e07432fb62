use Rattle.std.proofs.Common.{ap, ◌∙◌, zero}
use Rattle.dns_view.specs.StringList.{strings_after}
use Rattle.dns_view.proofs.StringSteps.{strings_are}
use Rattle.dns_view.proofs.strings.StringsRef.of.Goals as goal

pub returns : goal.returns
returns c = λ v rest e none. ap (strings_after zero) e ∙ strings_are v rest none
