use Rattle.std.proofs.Common.{◌≡◌, drop}
use Rattle.dns_rdata_options.specs.OPT.{options_of}
use Rattle.dns_rdata_options.proofs.opt.OPT.get.Given as goal

abbrev pub invariant-loop-pair : goal.invariant-loop-pair
invariant-loop-pair l = options_of l.code (drop l.pair-index l.pair-items) ≡ options_of l.code l.pair-items
