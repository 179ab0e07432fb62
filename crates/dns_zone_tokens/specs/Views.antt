-- The code's letters and tokens, as the definitions have them.
use Rattle.std.specs.Prelude.{◌≡◌, ℕ, true, List, [], ◌∷◌, ◌++◌}
use Rattle.dns_zone_tokens.specs.{Tokens.Token, declared.letter.Letter.Letter as CodeLetter, declared.tokens.ZoneToken.ZoneToken}
use Rattle.dns_zone_tokens.specs.Letters.{Letter, plain, kept, letters, escapes_stand}
use Rattle.dns_zone_tokens.specs.declared.letter.Letter.TheVariants as code

abbrev pub letter_value : CodeLetter → Letter
letter_value (code.Plain c) = plain c
letter_value (code.Kept c) = kept c

-- the text begins with the octets of this one letter, and rest follows it
pub record BeginsWith (letter : Letter) (text rest : List ℕ) : Type 0 where
  pub octets : List ℕ
  pub split : text ≡ octets ++ rest
  pub own : letters octets ≡ letter ∷ []
  pub whole : escapes_stand octets ≡ true
  pub first : letters text ≡ letter ∷ letters rest
  pub escapes : escapes_stand text ≡ escapes_stand rest

abbrev pub token_value : ZoneToken → Token
token_value w = record { octets = w.raw.now; quoted = w.quoted; joined = w.joined }
