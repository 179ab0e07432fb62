-- The tokens of each record.
use Rattle.std.specs.{Prelude.◌≡◌, Prelude.ℕ, Prelude.◌%◌, Prelude.List, Prelude.[], Prelude.◌∷◌, Prelude.map, List.AllZip}
use Rattle.dns_types.specs.{RecordTypes.number_of, RecordTypes.IsTypeText, declared.record_type.RecordType.RecordType}
use Rattle.dns_fields.specs.declared.Kind.{TheVariants.Number, TheVariants.Bitmap}
use Rattle.dns_tokens.specs.Forms.{Form, TokenRow, token, ignored, number, kept, kept_rest, IsNumberToken}
use Rattle.dns_rdata_policy.specs.{CAA.caa_shape, CSYNC.csync_shape, RecordTypeSet.IsSetOf}

-- flags, tag, value
abbrev pub caa_tokens : TokenRow caa_shape
caa_tokens = token (number 1) (token kept (token kept_rest ignored))

-- a decimal number of 16 bits, of which the two lowest bits are kept (RFC 7477, 2.1.1.2)
abbrev pub known_flags : Form (Number 2)
known_flags = record { is = λ flags token. (n : ℕ) × IsNumberToken 16 n token × (flags ≡ n % 4) }

-- every further token is the text of a type, in any order, also repeatedly
abbrev pub type_tokens : TokenRow (Bitmap ∷ [])
type_tokens =
    record {
      stand = λ vs tokens. (types : List RecordType) × AllZip IsTypeText tokens types
          × IsSetOf (map number_of types) vs.0;
    }

-- serial, flags, types
abbrev pub csync_tokens : TokenRow csync_shape
csync_tokens = token (number 4) (token known_flags type_tokens)
