-- The code's tokens, with their words as octets.
use Rattle.std.specs.Prelude.{ℕ, List, map}
use Rattle.std.specs.{Cow.cow_str_bytes, declared.borrow.CowStr.CowStr, declared.alloc.Global.Global, declared.vec.Vec.Vec}
use Rattle.dns_tokens.specs.{declared.text.token.Token.Token, Tokens.TokenValue}
use Rattle.dns_tokens.specs.Tokens.TokenValue.{blank, line_end, at, list, char_data}
use Rattle.dns_tokens.specs.declared.text.token.Token.TheVariants as code

abbrev pub words_value : Vec (CowStr Global) Global → List (List ℕ)
words_value words = map cow_str_bytes words.items

abbrev pub token_value : Token → TokenValue
token_value code.Blank = blank
token_value code.EOL = line_end
token_value code.At = at
token_value (code.List words) = list (words_value words)
token_value (code.CharData word) = char_data (cow_str_bytes word)
