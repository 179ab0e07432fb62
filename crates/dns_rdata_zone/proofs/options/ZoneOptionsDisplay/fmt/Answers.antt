use Rattle.std.proofs.{Output.has_written_of_eq, Common.◌≤◌, Common.◌∙◌, Common.ap, Common.arith}
use Rattle.dns_rdata_zone.specs.Options.{options_octets, zone_options}
use Rattle.dns_rdata_zone.proofs.Digits.{generic_is}
use Rattle.dns_rdata_zone.proofs.options.ZoneOptionsDisplay.fmt.Goals as goal

pub returns-clause-writes : goal.returns-clause-writes
returns-clause-writes g c = λ p ok.
    let count = c.in-Some.count in
    let some : 1 ≤ count = omega (arith, c.if-count-eq0.false) in
    has_written_of_eq _ _ _ _ _ (generic_is (options_octets c.as_ref-pairs.result.now) count c.in-Some.ensures some ∙ ap zone_options c.as_ref-pairs.ensures)
    (c.write.ensures.writes p ok)
