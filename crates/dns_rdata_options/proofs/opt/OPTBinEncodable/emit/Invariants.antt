use Rattle.std.proofs.Common.{take, map}
use Rattle.dns_fields.specs.declared.Kind.{TheVariants.Options}
use Rattle.dns_names_wire.specs.Terms.{AppendedField}
use Rattle.dns_rdata_options.specs.OPT.{pair_value}
use Rattle.dns_rdata_options.proofs.opt.OPTBinEncodable.emit.Given as goal

abbrev pub invariant-loop-pair : goal.invariant-loop-pair
invariant-loop-pair l = AppendedField l.initial.encoder Options (map pair_value (take l.pair-index l.pair-items)) l.encoder
