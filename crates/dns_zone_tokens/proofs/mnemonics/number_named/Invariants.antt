use Rattle.std.proofs.Common.{◌≡◌, drop}
use Rattle.dns_zone_tokens.specs.Mnemonics.{named_values, number_named}
use Rattle.dns_zone_tokens.proofs.mnemonics.number_named.Given as goal

-- none of the names so far is the text
abbrev pub invariant-loop-name : goal.invariant-loop-name
invariant-loop-name l = number_named (named_values l.names) l.text ≡ number_named (named_values (drop l.name-index l.names)) l.text
