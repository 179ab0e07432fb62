use Rattle.dns_labels.proofs.Wrote.{whole_wrote}
use Rattle.dns_labels.proofs.writing.write_again.Goals as goal

pub returns-in_ok-extend_from_slice-in-Canonical-2-clause-ok : goal.returns-in_ok-extend_from_slice-in-Canonical-2-clause-ok
returns-in_ok-extend_from_slice-in-Canonical-2-clause-ok c = whole_wrote c.requires.name c.in_ok-extend_from_slice-in-Canonical-2.ensures.ok
    c.in_ok-extend_from_slice-in-Canonical.ensures.ok c.in_ok-reserve-in-Canonical.ensures.items
