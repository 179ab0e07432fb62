use Rattle.dns_view.proofs.LabelSteps.{labels_found}
use Rattle.dns_view.proofs.name.labels.Labels.at.Goals as goal

pub returns-clause-name : goal.returns-clause-name
returns-clause-name c = λ x q is. labels_found is
