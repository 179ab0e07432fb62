-- What errors say.
use Rattle.std.specs.Prelude.{◌≡◌, ℕ, List, codes}
use Rattle.dns_types.specs.declared.error.ParseError.{ParseError}
use Rattle.dns_types.specs.declared.error.ParseError.TheVariants as parse
use Rattle.dns_zone_tokens.specs.declared.tokens_error.TokensError.{TokensError}
use Rattle.dns_zone_tokens.specs.declared.tokens_error.TokensError.TheVariants.{OpenParenthesis, NoParenthesis, OpenQuotes, LineInQuotes, FurtherLine}

-- the error is a message with this text
abbrev pub Says : List ℕ → ParseError → Type 0
Says text (parse.Message said) = said.now ≡ text
Says text e = ⊥

-- why a text cannot be divided into tokens, as the error says it
abbrev pub undivided_text : TokensError → List ℕ
undivided_text OpenParenthesis = codes "`(` without `)`"
undivided_text NoParenthesis = codes "`)` without `(`"
undivided_text OpenQuotes = codes "quotes without an end"
undivided_text LineInQuotes = codes "line end within quotes"
undivided_text FurtherLine = codes "more than one line"
