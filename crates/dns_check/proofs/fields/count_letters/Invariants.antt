use Rattle.std.proofs.Common.{◌≡◌, take}
use Rattle.dns_rows.specs.Rules.{AreLetters}
use Rattle.dns_check.proofs.fields.count_letters.Given as goal

abbrev pub invariant-loop-octet : goal.invariant-loop-octet
invariant-loop-octet l = (l.count ≡ l.octet-index) × AreLetters (take l.octet-index l.octets)
