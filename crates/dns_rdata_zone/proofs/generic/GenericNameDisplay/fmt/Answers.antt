use Rattle.std.proofs.{Common.◌∙◌, Common.arith, Output.has_written_of_eq}
use Rattle.dns_rdata.specs.WholeOctets.{name_octets}
use Rattle.dns_rdata_zone.proofs.{Digits.length_low, TokenSteps.generic_short}
use Rattle.dns_rdata_zone.proofs.generic.GenericNameDisplay.fmt.Goals as goal

pub returns-clause-writes : goal.returns-clause-writes
returns-clause-writes g c = λ p ok.
    let name = c.args.self.now.0.now in
    has_written_of_eq _ _ _ _ _
    (generic_short (name_octets name) c.len-count.result (c.len-count.ensures.value ∙ length_low name) c.len-count.ensures.some
    (omega (arith, c.len-count.ensures.room)))
    (c.write.ensures.writes p ok)
