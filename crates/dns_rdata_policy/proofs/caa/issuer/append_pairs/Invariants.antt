use Rattle.std.proofs.Common.{◌≡◌, ◌++◌, take}
use Rattle.dns_rdata_policy.specs.Issuer.{parameters_text}
use Rattle.dns_rdata_policy.proofs.caa.issuer.append_pairs.Given as goal

abbrev pub invariant-loop-pair : goal.invariant-loop-pair
invariant-loop-pair l = l.out.items ≡ l.fn.out.items ++ parameters_text (take l.pair-index l.pairs)
