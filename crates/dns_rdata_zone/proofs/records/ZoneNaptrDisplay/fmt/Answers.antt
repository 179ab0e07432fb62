use Rattle.std.proofs.{Common.refl, Common.decimal, Output.has_written_append, Output.has_written_of_eq}
use Rattle.dns_rdata_zone.specs.Names.{zone_name}
use Rattle.dns_rdata_zone.proofs.Joined.{naptr_joined}
use Rattle.dns_rdata_zone.proofs.records.ZoneNaptrDisplay.fmt.Goals as goal

pub returns-clause-writes : goal.returns-clause-writes
returns-clause-writes g c = λ p ok.
    let x = c.args.self.now.0.now in
    let first = c.in_ok-write.ensures.writes p refl in
    has_written_of_eq _ _ _ _ _
    (naptr_joined (decimal x.order) (decimal x.preference) c.as_slice.result.now c.as_slice-2.result.now c.as_slice-3.result.now
    x.flags x.services x.regexp (zone_name x.replacement) c.as_slice.ensures.value c.as_slice-2.ensures.value c.as_slice-3.ensures.value)
    (has_written_append _ _ _ _ _ _ first (c.write-2.ensures.writes first.plain ok))
