-- The types of records: their numbers, their order and their texts.
use Rattle.std.specs.Prelude.{◌≡◌, ℕ, ◌+◌, ◌*◌, ◌^◌, ◌<◌, ◌≤◌, ◌==◌, ◌⊎◌, ◌&&◌, Bool, true, false, IsTrue, List, [], ◌∷◌, ◌++◌, length, find}
use Rattle.std.specs.Prelude.{unwrap_or, codes, decimal, Result, Ok, MatchResult}
use Rattle.std.specs.{Cmp.Lexicographic.pointwise, Str.Parse.IsNumeral, Str.Parse.digits_value}
use Rattle.dns_types.specs.{declared.error.DecodeError.DecodeError, declared.record_type.RecordType.RecordType}
use Rattle.dns_types.specs.declared.error.DecodeError.TheVariants.{UnknownRecordTypeStr}
use Rattle.dns_types.specs.declared.record_type.RecordType.TheVariants.{ZERO, A, NS, CNAME, SOA, NULL, PTR, HINFO, MX, TXT, SIG, KEY, AAAA, SRV}
use Rattle.dns_types.specs.declared.record_type.RecordType.TheVariants.{NAPTR, CERT, DNAME, OPT, DS, SSHFP, RRSIG, NSEC, DNSKEY, NSEC3, NSEC3PARAM}
use Rattle.dns_types.specs.declared.record_type.RecordType.TheVariants.{TLSA, SMIMEA, CDS, CDNSKEY, OPENPGPKEY, CSYNC, SVCB, HTTPS, TSIG, IXFR, AXFR}
use Rattle.dns_types.specs.declared.record_type.RecordType.TheVariants.{ANY, CAA, ANAME, Unknown}

-- the number of a type on the wire (IANA's "Resource Record (RR) TYPEs"; ANAME's is of private use), and what is
-- printed: the name in capitals, or TYPE and the number (RFC 3597, section 5)
abbrev pub type_entry : RecordType → ℕ × List ℕ
type_entry ZERO = (0, codes "ZERO")
type_entry A = (1, codes "A")
type_entry NS = (2, codes "NS")
type_entry CNAME = (5, codes "CNAME")
type_entry SOA = (6, codes "SOA")
type_entry NULL = (10, codes "NULL")
type_entry PTR = (12, codes "PTR")
type_entry HINFO = (13, codes "HINFO")
type_entry MX = (15, codes "MX")
type_entry TXT = (16, codes "TXT")
type_entry SIG = (24, codes "SIG")
type_entry KEY = (25, codes "KEY")
type_entry AAAA = (28, codes "AAAA")
type_entry SRV = (33, codes "SRV")
type_entry NAPTR = (35, codes "NAPTR")
type_entry CERT = (37, codes "CERT")
type_entry DNAME = (39, codes "DNAME")
type_entry OPT = (41, codes "OPT")
type_entry DS = (43, codes "DS")
type_entry SSHFP = (44, codes "SSHFP")
type_entry RRSIG = (46, codes "RRSIG")
type_entry NSEC = (47, codes "NSEC")
type_entry DNSKEY = (48, codes "DNSKEY")
type_entry NSEC3 = (50, codes "NSEC3")
type_entry NSEC3PARAM = (51, codes "NSEC3PARAM")
type_entry TLSA = (52, codes "TLSA")
type_entry SMIMEA = (53, codes "SMIMEA")
type_entry CDS = (59, codes "CDS")
type_entry CDNSKEY = (60, codes "CDNSKEY")
type_entry OPENPGPKEY = (61, codes "OPENPGPKEY")
type_entry CSYNC = (62, codes "CSYNC")
type_entry SVCB = (64, codes "SVCB")
type_entry HTTPS = (65, codes "HTTPS")
type_entry TSIG = (250, codes "TSIG")
type_entry IXFR = (251, codes "IXFR")
type_entry AXFR = (252, codes "AXFR")
type_entry ANY = (255, codes "ANY")
type_entry CAA = (257, codes "CAA")
type_entry ANAME = (65305, codes "ANAME")
type_entry (Unknown n) = (n, codes "TYPE" ++ decimal n)

abbrev pub number_of : RecordType → ℕ
number_of t = (type_entry t).0

abbrev pub type_text : RecordType → List ℕ
type_text t = (type_entry t).1

-- a type with a name of its own
abbrev pub is_named : RecordType → Bool
is_named (Unknown n) = false
is_named t = true

abbrev pub named_types : List RecordType
named_types = ZERO ∷ A ∷ NS ∷ CNAME ∷ SOA ∷ NULL ∷ PTR ∷ HINFO ∷ MX ∷ TXT ∷ SIG ∷ KEY ∷ AAAA ∷ SRV ∷ NAPTR ∷ CERT
    ∷ DNAME ∷ OPT ∷ DS ∷ SSHFP ∷ RRSIG ∷ NSEC ∷ DNSKEY ∷ NSEC3 ∷ NSEC3PARAM ∷ TLSA ∷ SMIMEA ∷ CDS ∷ CDNSKEY
    ∷ OPENPGPKEY ∷ CSYNC ∷ SVCB ∷ HTTPS ∷ TSIG ∷ IXFR ∷ AXFR ∷ ANY ∷ CAA ∷ ANAME ∷ []

-- the named type of a number, or the number itself where none has it
abbrev pub record_type_of : ℕ → RecordType
record_type_of n = unwrap_or (find (λ t. number_of t == n) named_types) (Unknown n)

-- a number of its own for each value, in their order: by number on the wire, and `Unknown n` after the named type
abbrev pub code_of : RecordType → ℕ
code_of (Unknown n) = 2 * n + 1
code_of t = 2 * number_of t

-- the text is the printed name of a named type
pub record IsTypeName (text : List ℕ) (t : RecordType) : Type 0 where
  pub named : IsTrue (is_named t)
  pub printed : text ≡ type_text t

-- the same as a test
abbrev pub has_name : List ℕ → RecordType → Bool
has_name text t = is_named t && pointwise ◌==◌ (type_text t) text

-- the text is TYPE and one to five decimal digits of a number of 16 bits, whose type it is
pub record IsNumberText (text : List ℕ) (t : RecordType) : Type 0 where
  pub digits : List ℕ
  pub spelled : text ≡ codes "TYPE" ++ digits
  pub numeral : IsNumeral 10 digits
  pub few : length digits ≤ 5
  pub fits : digits_value 10 digits < 2 ^ 16
  pub value : t ≡ record_type_of (digits_value 10 digits)

-- the text is read as the type
abbrev pub IsTypeText : List ℕ → RecordType → Type 0
IsTypeText text t = IsTypeName text t ⊎ IsNumberText text t

-- the one type that a text is read as, and an error where there is none
abbrev pub ReadsType : List ℕ → Result RecordType DecodeError → Type 0
ReadsType text r = MatchResult r
    (λ t. IsTypeText text t × ((u : RecordType) → IsTypeText text u → u ≡ t))
    (λ e. (e ≡ UnknownRecordTypeStr) × ((u : RecordType) → ¬ (IsTypeText text u)))

-- what the type of a number of 16 bits prints is read as that type
abbrev pub ReadsPrinted : List ℕ → Result RecordType DecodeError → Type 0
ReadsPrinted text r =
    (n : ℕ) → n < 2 ^ 16 → text ≡ type_text (record_type_of n) → r ≡ Ok (record_type_of n)
