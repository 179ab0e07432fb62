use Rattle.std.proofs.Common.{◌≡◌, ◌<◌, ℕ, take, get_or}
use Rattle.std.specs.{Int.IsInRange, Str.Parse.digits_value}
use Rattle.dns_zone_tokens.proofs.numbers.decimal.Given as goal

abbrev pub invariant-loop-octet : goal.invariant-loop-octet
invariant-loop-octet l = record {
  digits : (k : ℕ) → k < l.octet-index → IsInRange 48 57 (get_or l.digits k 0);
  value : l.number ≡ digits_value 10 (take l.octet-index l.digits);
}
