use Rattle.std.proofs.Common.{◌≡◌, take, map}
use Rattle.dns_rdata_options.specs.OPT.{options_of}
use Rattle.dns_rdata_options.proofs.opt.OPT.get_all.Given as goal

abbrev pub invariant-loop-pair : goal.invariant-loop-pair
invariant-loop-pair l = map (λ option. option.now) l.found.items ≡ options_of l.code (take l.pair-index l.pair-items)
