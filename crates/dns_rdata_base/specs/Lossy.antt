-- Octets printed as text.
use Rattle.std.specs.Prelude.{ℕ, List, encode_utf8_all}
use Rattle.bstr.specs.Utf8.{lossy_chars}

-- UTF-8, with U+FFFD for each run of octets that is no character
unfoldable pub lossy : List ℕ → List ℕ
lossy octets = encode_utf8_all (lossy_chars octets)
