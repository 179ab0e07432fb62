use Rattle.std.proofs.Common.{◌≡◌, drop}
use Rattle.std.specs.List.{list_all}
use Rattle.dns_zone_tokens.specs.Letters.{is_digit}
use Rattle.dns_zone_rows.proofs.fields.are_digits.Given as goal

-- the octets so far are digits
abbrev pub invariant-loop-octet : goal.invariant-loop-octet
invariant-loop-octet l = list_all is_digit l.text ≡ list_all is_digit (drop l.octet-index l.text)
