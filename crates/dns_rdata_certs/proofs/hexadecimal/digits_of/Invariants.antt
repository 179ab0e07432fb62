use Rattle.std.proofs.Common.{◌≡◌, take}
use Rattle.dns_rdata_certs.specs.HEX.{without_blanks}
use Rattle.dns_rdata_certs.proofs.hexadecimal.digits_of.Given as goal

abbrev pub invariant-loop-octet : goal.invariant-loop-octet
invariant-loop-octet l = l.digits.items ≡ without_blanks (take l.octet-index l.text)
