use Rattle.dns_labels.specs.Labels.{name_of}
use Rattle.dns_labels.proofs.NameTexts.{one_name, name_reads}
use Rattle.dns_labels.proofs.text.parse_octets.Goals as goal

pub returns-clause-reads_back : goal.returns-clause-reads_back
returns-clause-reads_back c = λ name is has e. one_name c.args.text.now (name_of c.in_ok-octets.octets c.in-Ok.is_fqdn) name
    (rw (c.in_ok-octets.ensures, c.as_slice.ensures) c.in-Ok.ensures.some.1) (rw e (name_reads name is has))
