-- Why the tag of a CAA record is rejected (RFC 6844, 5.1).
use Rattle.std.specs.Prelude.{◌≡◌, ℕ, ◌+◌, ◌-◌, ◌<◌, ◌≤◌, ◌⊎◌, false, List, [], ◌∷◌, ◌++◌, length, drop}
use Rattle.std.specs.Char.{is_ascii_alphanumeric}
use Rattle.dns_types.specs.declared.error.DecodeError.{DecodeError}
use Rattle.dns_types.specs.declared.error.DecodeError.TheVariants as decode
use Rattle.dns_fields.specs.declared.Kind.TheVariants.{Number, Octets}
use Rattle.dns_names_wire.specs.{State.Reading, Terms.TookField, Terms.LacksOctets}
use Rattle.dns_rows.specs.Rules.{AreLetters}

-- the fields up to the tag's length have `used` octets, and with a tag of t octets more than the n octets of the RDATA
pub record PassedLength (used n t : ℕ) (d : Reading) (e : DecodeError) (new : Reading) : Type 0 where
  pub error : e ≡ decode.IncorrectRDataLengthRead n (t + used)
  pub passed : n < t + used
  pub unchanged : new ≡ d

-- no tag has t octets
pub record BadTagLength (used n t : ℕ) (d : Reading) (e : DecodeError) (new : Reading) : Type 0 where
  pub error : e ≡ decode.CaaTagInvalid
  pub fits : t + used ≤ n
  pub length : (t ≡ 0) ⊎ (15 < t)
  pub unchanged : new ≡ d

-- the first octet that is no letter and no digit is the last one taken
pub record BadTagOctet (used n t : ℕ) (d : Reading) (e : DecodeError) (new : Reading) : Type 0 where
  pub error : e ≡ decode.CaaTagInvalid
  pub fits : t + used ≤ n
  pub short : t ≤ 15
  pub front : List ℕ
  pub octet : ℕ
  pub within : length front < t
  pub letters : AreLetters front
  pub bad : is_ascii_alphanumeric octet ≡ false
  pub took : TookField d (Octets (length front + 1)) (front ++ octet ∷ []) new

-- the message ends within the tag, after letters and digits, which are taken
pub record TruncatedTag (used n t : ℕ) (d : Reading) (e : DecodeError) (new : Reading) : Type 0 where
  pub error : e ≡ decode.InsufficientBytes
  pub fits : t + used ≤ n
  pub some : 1 ≤ t
  pub short : t ≤ 15
  pub lacks : LacksOctets d t
  pub letters : AreLetters (drop d.index d.message)
  pub index : new.index ≡ length d.message

abbrev pub IsTagError : ℕ → ℕ → ℕ → Reading → DecodeError → Reading → Type 0
IsTagError used n t d e new = PassedLength used n t d e new
    ⊎ (BadTagLength used n t d e new ⊎ (BadTagOctet used n t d e new ⊎ TruncatedTag used n t d e new))

-- the tag's length is taken, and the tag is rejected
pub record RefusedTag (start n : ℕ) (old : Reading) (e : DecodeError) (new : Reading) : Type 0 where
  pub size : ℕ
  pub between : Reading
  pub took : TookField old (Number 1) size between
  pub refused : IsTagError (between.index - start) n size between e new

-- the tag's length is missing, or the tag is rejected after it
abbrev pub TagFault : ℕ → ℕ → Reading → DecodeError → Reading → Type 0
TagFault start n old e new = ((e ≡ decode.InsufficientBytes) × LacksOctets old 1 × (new ≡ old))
    ⊎ RefusedTag start n old e new
