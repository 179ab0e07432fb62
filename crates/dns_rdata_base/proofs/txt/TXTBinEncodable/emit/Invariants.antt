use Rattle.std.proofs.Common.{take}
use Rattle.dns_fields.specs.declared.Kind.{TheVariants.CharacterStrings}
use Rattle.dns_names_wire.specs.Terms.{AppendedField}
use Rattle.dns_rdata_base.proofs.txt.TXTBinEncodable.emit.Given as goal

abbrev pub invariant-loop-string : goal.invariant-loop-string
invariant-loop-string l = AppendedField l.initial.encoder CharacterStrings (take l.string-index l.string-items) l.encoder
