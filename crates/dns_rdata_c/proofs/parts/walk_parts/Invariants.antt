use Rattle.std.proofs.Common.{ℕ, ◌-◌, ◌≤◌, length, MatchOption}
use Rattle.dns_types.specs.declared.record_type.RecordType.{RecordType}
use Rattle.dns_rdata_c.specs.Parts.{AreLeft, AreBetween, IsPartOf}
use Rattle.dns_rdata_c.proofs.parts.walk_parts.Given as goal

abbrev pub invariant-parts : goal.invariant-parts
invariant-parts l = AreBetween l.octets l.first l.end × (l.i ≤ l.end)
    × ((p : ℕ) (t : RecordType) → AreLeft l.octets p t 0 l.first → AreLeft l.octets p t l.i l.end)
    × ((p : ℕ) (t : RecordType) → AreLeft l.octets p t 0 l.first
    → MatchOption l.found (l.i ≤ l.index) (λ part. IsPartOf l.octets p t l.index part.number part.begin part.count))

abbrev pub decreases-parts : goal.decreases-parts
decreases-parts l = length l.octets - l.end
