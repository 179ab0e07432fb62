use Rattle.std.proofs.Common.{◌≡◌, true, take}
use Rattle.std.specs.List.{list_all}
use Rattle.dns_rdata_policy.specs.Issuer.{is_blank}
use Rattle.dns_rdata_policy.proofs.caa.issuer.cut_blanks.Given as goal

abbrev pub invariant-loop-octet : goal.invariant-loop-octet
invariant-loop-octet l = (l.len ≡ l.octet-index) × (list_all is_blank (take l.octet-index l.octets) ≡ true)
