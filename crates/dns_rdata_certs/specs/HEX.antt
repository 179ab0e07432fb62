-- Octets as hexadecimal text.
use Rattle.std.specs.Prelude.{◌≡◌, ℕ, ◌==◌, ◌||◌, Bool, List, filter, not, Result, Ok, Err}
use Rattle.std.specs.{declared.vec.Vec.Vec, declared.alloc.Global.Global}
use Rattle.hex.specs.{declared.error.FromHexError.FromHexError, Hex.decode_of}
use Rattle.dns_types.specs.declared.error.ParseError.{ParseError}
use Rattle.dns_types.specs.declared.error.ParseError.TheVariants as parse

-- a tab, LF, CR or a space
abbrev pub is_white_space : ℕ → Bool
is_white_space c = c == 9 || c == 10 || c == 13 || c == 32

abbrev pub without_blanks : List ℕ → List ℕ
without_blanks text = filter (λ c. not (is_white_space c)) text

-- two digits of either case for each octet, the higher one first, and blanks anywhere
abbrev pub octets_of_hex : List ℕ → Result (List ℕ) FromHexError
octets_of_hex text = decode_of (without_blanks text)

-- no octets have this text
pub record IsNoHex (text : List ℕ) : Type 0 where
  pub none : (octets : List ℕ) → octets_of_hex text ≡ Ok octets → ⊥

abbrev pub IsHexError : List ℕ → ParseError → Type 0
IsHexError text parse.Memory = Unit {0}
IsHexError text (parse.Message m) = IsNoHex text
IsHexError text e = ⊥

-- the octets of the text, and an error exactly if it has none
abbrev pub DecodesHex : List ℕ → Result (Vec ℕ Global) ParseError → Type 0
DecodesHex text (Ok octets) = octets_of_hex text ≡ Ok octets.items
DecodesHex text (Err e) = IsHexError text e
