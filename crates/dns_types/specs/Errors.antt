-- What an error becomes one layer up: `Memory` stays `Memory`, at any depth. And the field that an error is about.
use Rattle.std.specs.Prelude.{◌≡◌, ℕ, ◌≤◌, List, ◌++◌, length, codes}
use Rattle.dns_types.specs.{declared.error.DecodeError.DecodeError, declared.error.ProtoError.ProtoError, declared.error.ParseError.ParseError}
use Rattle.dns_types.specs.declared.error.DecodeError.TheVariants as decode
use Rattle.dns_types.specs.declared.error.ProtoError.TheVariants as proto
use Rattle.dns_types.specs.declared.error.ParseError.TheVariants as parse

abbrev pub decode_error : DecodeError → ProtoError
decode_error decode.Memory = proto.Memory
decode_error e = proto.Decode e

abbrev pub proto_error : ProtoError → ParseError
proto_error proto.Memory = parse.Memory
proto_error (proto.Decode decode.Memory) = parse.Memory
proto_error e = parse.Proto e

-- ---- the field that an error is about

-- The text ends with ` token`, and the name is what follows the last ` in ` before that.
pub record NamesField (text name : List ℕ) : Type 0 where
  pub front : List ℕ
  pub spelled : text ≡ (front ++ codes " in " ++ name) ++ codes " token"
  pub last : (earlier later : List ℕ) → front ++ codes " in " ++ name ≡ earlier ++ codes " in " ++ later
      → length earlier ≤ length front

-- The error has the name of the field whose token is missing, or a text that names the field.
abbrev pub IsAbout : ParseError → List ℕ → Type 0
IsAbout (parse.MissingToken missing) name = name ≡ missing.now
IsAbout (parse.Message text) name = NamesField text.now name
IsAbout e name = ⊥
