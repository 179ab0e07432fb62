-- Why tokens are rejected.
use Rattle.std.specs.Prelude.{◌≡◌, ◌⊎◌}
use Rattle.dns_types.specs.declared.error.ParseError.{ParseError}
use Rattle.dns_types.specs.declared.error.ParseError.TheVariants as parse
use Rattle.dns_tokens.specs.declared.field.Field.{Field}

-- the field's token is missing, or it is none of its values
abbrev pub IsOfField : Field → ParseError → Type 0
IsOfField field e = (e ≡ parse.MissingToken field.name) ⊎ (e ≡ parse.Message field.wrong)
