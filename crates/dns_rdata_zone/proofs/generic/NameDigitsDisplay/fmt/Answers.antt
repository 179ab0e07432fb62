use Rattle.std.proofs.Output.{has_written_of_eq}
use Rattle.dns_rdata_zone.proofs.Digits.{name_digits}
use Rattle.dns_rdata_zone.proofs.generic.NameDigitsDisplay.fmt.Goals as goal

pub returns-clause-writes : goal.returns-clause-writes
returns-clause-writes g c = λ p ok.
    has_written_of_eq _ _ _ _ _ (name_digits _ c.args.self.now.0.now.labels c.label_octets.ensures.uncompressed) (c.write.ensures.writes p ok)
