-- CAA: a property of a domain's issuers of certificates (RFC 8659, 4.1).
use Rattle.std.specs.Prelude.{◌≡◌, ◌⊎◌, ℕ, ◌+◌, ◌%◌, ◌<◌, ◌≤◌, Bool, true, false, if◌then◌else◌, List, [], ◌∷◌, ◌++◌, codes, decimal, length, drop}
use Rattle.std.specs.{Prelude.map, List.list_all, Char.is_ascii_alphanumeric, Char.to_ascii_lowercase, Str.IsUtf8}
use Rattle.dns_types.specs.{declared.error.DecodeError.DecodeError, declared.error.ProtoError.ProtoError}
use Rattle.dns_types.specs.declared.error.DecodeError.TheVariants as decode
use Rattle.dns_types.specs.declared.error.ProtoError.TheVariants as proto
use Rattle.dns_fields.specs.{Fields.Values, declared.Kind.TheVariants.Rest}
use Rattle.dns_fields.specs.declared.Kind.{Kind, TheVariants.Number, TheVariants.Octets, TheVariants.CharacterString}
use Rattle.dns_rows.specs.{Table.kinds_of, Rules.AreLetters, Rules.IsTag, Rules.MeetsRow}
use Rattle.dns_rows.specs.declared.row.TheConstants as rows
use Rattle.dns_names_wire.specs.{State.Reading, Terms.Took, Terms.TookField, Terms.LacksOctets, Terms.IsMessage, Facts.Facts, Facts.filling}
use Rattle.dns_rdata_base.specs.{Ordered.by_keys, Lossy.lossy}
use Rattle.dns_rdata_policy.specs.{Issuer.IsIssuerError, declared.caa.CAA.CAA}

-- flags, tag, value
abbrev pub caa_shape : List Kind
caa_shape = kinds_of rows.CAA

-- the low seven bits of the reserved flags, and 128 where critical
abbrev pub caa_flags : CAA → ℕ
caa_flags x = x.reserved_flags % 128 + (if x.issuer_critical then 128 else 0)

abbrev pub caa_fields : CAA → Values (kinds_of rows.CAA)
caa_fields x = (caa_flags x, (x.tag, (x.value, tt)))

abbrev pub MeetsCaaCondition : Values caa_shape → Type 0
MeetsCaaCondition vs = MeetsRow rows.CAA vs

-- what is compared: both parts of the flags
abbrev pub caa_key_shape : List Kind
caa_key_shape = Number 1 ∷ Number 1 ∷ CharacterString ∷ Rest ∷ []

abbrev pub critical_number : Bool → ℕ
critical_number true = 1
critical_number false = 0

abbrev pub caa_keys : CAA → Values caa_key_shape
caa_keys x = (critical_number x.issuer_critical, (x.reserved_flags, (x.tag, (x.value, tt))))

-- the reserved flags have seven bits
abbrev pub IsReadCaa : CAA → Type 0
IsReadCaa x = x.reserved_flags < 128

-- the flags in decimal, the tag, and the value in quotes, a blank between
abbrev pub caa_text : CAA → List ℕ
caa_text x = decimal (caa_flags x) ++ codes " " ++ lossy x.tag ++ codes " \"" ++ lossy x.value ++ codes "\""

-- ---- tags

-- A to Z lowered
abbrev pub low_tag : List ℕ → List ℕ
low_tag tag = map to_ascii_lowercase tag

-- a tag whose value names an issuer (RFC 8659, 4.2 and 4.3), and one whose value is a URL (4.4)
abbrev pub IsIssuerTag : List ℕ → Type 0
IsIssuerTag tag = (low_tag tag ≡ codes "issue") ⊎ (low_tag tag ≡ codes "issuewild")

abbrev pub IsIodefTag : List ℕ → Type 0
IsIodefTag tag = low_tag tag ≡ codes "iodef"

-- no tag of an issuer; or one, and a value that is rejected
abbrev pub IsIssuerValueError : CAA → ProtoError → Type 0
IsIssuerValueError x e = (IsMessage e × (IsIssuerTag x.tag → ⊥)) ⊎ (IsIssuerTag x.tag × IsIssuerError x.value e)

-- no tag of a URL; or one, and a value that is not UTF-8
abbrev pub IsIodefValueError : CAA → ProtoError → Type 0
IsIodefValueError x e = (IsMessage e × (IsIodefTag x.tag → ⊥))
    ⊎ (IsIodefTag x.tag × (e ≡ proto.Decode decode.Utf8) × (IsUtf8 x.value → ⊥))

abbrev pub caa_facts : Facts CAA
caa_facts = by_keys caa_key_shape caa_keys (filling rows.CAA caa_fields IsReadCaa)
