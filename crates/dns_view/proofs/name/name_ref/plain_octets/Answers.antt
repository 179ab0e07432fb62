use Rattle.std.proofs.Common.{ap, ◌∙◌, arith}
use Rattle.dns_fields.specs.Labels.{DomainName, wire}
use Rattle.dns_fields.proofs.{NameLaws.name_same, Stays.labels_stand}
use Rattle.dns_labels.proofs.Octets.{are_name_octets, labels_from}
use Rattle.dns_view.proofs.NamesPut.{plain_front}
use Rattle.dns_view.proofs.name.name_ref.plain_octets.Goals as goal

pub returns-in-Some-clause-octets : goal.returns-in-Some-clause-octets
returns-in-Some-clause-octets c =
    let n = c.in-Some.ensures.some in
    are_name_octets _ n.name.labels (labels_stand n.is.stands) n.is.fits (plain_front n (omega (arith, c.in-Some.ensures.few, c.told-out))).1

pub returns-in-Some-clause-labels : goal.returns-in-Some-clause-labels
returns-in-Some-clause-labels c = λ x q is.
    let n = c.in-Some.ensures.some in
    labels_from _ x.labels ((plain_front n (omega (arith, c.in-Some.ensures.few, c.told-out))).1 ∙ ap (λ (y : DomainName). wire y.labels) (name_same n.is is).0)
