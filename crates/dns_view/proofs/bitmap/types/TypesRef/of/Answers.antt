use Rattle.std.proofs.Common.{ap, ◌∙◌, zero}
use Rattle.dns_view.specs.TypeList.{types_after}
use Rattle.dns_view.proofs.TypeLists.{all_types}
use Rattle.dns_view.proofs.bitmap.types.TypesRef.of.Goals as goal

pub returns : goal.returns
returns c = λ blocks fit e. ap (types_after zero) e ∙ all_types blocks fit
