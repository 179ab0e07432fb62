use Rattle.std.proofs.Common.{List, ℕ, [], ◌≤◌, length}
use Rattle.dns_zone_tokens.specs.NameSteps.{ReadSoFar}
use Rattle.dns_zone_tokens.proofs.names.read_letters.Given as goal

abbrev pub invariant-letters : goal.invariant-letters
invariant-letters l = record {
  so : (text : List ℕ) → ReadSoFar text l.rest l.fn.wire.items [] → ReadSoFar text l.letters l.wire.items l.label.items;
  few : length l.label.items ≤ 63;
}

abbrev pub decreases-letters : goal.decreases-letters
decreases-letters l = length l.letters
