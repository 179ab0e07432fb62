use Rattle.std.proofs.{Common.arith, Common.ap, Common.length, Common.◌∷◌, Common.[], Common.length-append}
use Rattle.dns_labels.specs.TextFaults.{LabelFault.empty, LabelFault.full}
use Rattle.dns_labels.proofs.NameSteps.{empty_ends}
use Rattle.dns_labels.proofs.text.read_label.Goals as goal

pub returns-then-start-ge-MAX_OCTETS-clause-why : goal.returns-then-start-ge-MAX_OCTETS-clause-why
returns-then-start-ge-MAX_OCTETS-clause-why c = full (omega arith)

pub returns-then-count-eq0-clause-why : goal.returns-then-count-eq0-clause-why
returns-then-count-eq0-clause-why c =
    empty (omega arith) (empty_ends c.in-Ok.ensures.some (omega (arith, ap length c.push.ensures, length-append c.args.octets.now (0 ∷ []))))
