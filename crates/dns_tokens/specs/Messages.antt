-- Which error a text has that is not read.
use Rattle.dns_types.specs.declared.error.ParseError.{ParseError}
use Rattle.dns_types.specs.declared.error.ParseError.TheVariants as parse

-- memory ran out, or the error is a message
abbrev pub IsMessage : ParseError → Type 0
IsMessage parse.Memory = Unit {0}
IsMessage (parse.Message text) = Unit {0}
IsMessage e = ⊥
