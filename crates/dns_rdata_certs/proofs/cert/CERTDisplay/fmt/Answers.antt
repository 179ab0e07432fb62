use Rattle.std.proofs.{Common.append_assoc, Output.has_written_of_eq}
use Rattle.dns_rdata_certs.proofs.cert.CERTDisplay.fmt.Goals as goal

pub returns-clause-writes : goal.returns-clause-writes
returns-clause-writes g c = λ p ok. has_written_of_eq _ _ _ _ _ (simp (append_assoc, c.as_slice.ensures.value))
    (c.write.ensures.writes p ok)
