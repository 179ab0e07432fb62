-- What is no token of a field. Texts of TTLs and of record types are ASCII.
use Rattle.std.proofs.Common.{◌≡◌, ℕ, zero, suc, ◌<◌, true, List, [], ◌∷◌, refl, arith, inl, inr, sym, ◌∙◌, Some, None}
use Rattle.std.specs.{Char.is_ascii, List.list_all, Str.IsUtf8, Str.IsAscii, declared.net.ipv4_addr.Ipv4Addr.Ipv4Addr, declared.net.ipv6_addr.Ipv6Addr.Ipv6Addr}
use Rattle.std.specs.{Net.Grammar.IsIpv4Text, Net.Grammar.IsIpv6Text, Prelude.codes, Prelude.IsTrue, Prelude.◌&&◌, Prelude.Bool, Prelude.false}
use Rattle.std.proofs.{lemmas.Bool.Decides.nat_tests, lemmas.Fmt.IsAscii-from_digits}
use Rattle.std.proofs.lemmas.Str.{IsUtf8-from_ascii, IsUtf8-append, IsUtf8-nil}
use Rattle.dns_tokens.specs.Ttl.{Periods, unitless, last, next}
use Rattle.dns_tokens.proofs.TtlSteps.{unit_ascii}
use Rattle.dns_types.specs.{RecordTypes.is_named, RecordTypes.type_text, RecordTypes.IsTypeText, RecordTypes.record_type_of, declared.record_type.RecordType.RecordType}
use Rattle.dns_types.specs.declared.record_type.RecordType.TheVariants as types
use Rattle.dns_tokens.specs.{Forms.ttl, Forms.ipv4, Forms.ipv6, Reads.HoldsOfNone}
use Rattle.dns_zone_tokens.specs.{Tokens.Token, ZoneReads.NoValueOf, Forms.bare, Forms.IsType, Mnemonics.number_named, TypeNames.registry, TypeNames.IsZoneType}

-- a token that is no address does not have the form
pub no_ipv4 : (token : Token) → ((a : Ipv4Addr) → ¬ (IsIpv4Text token.octets a)) → NoValueOf (bare ipv4) token
no_ipv4 token isnt = record { none = λ v is. isnt is.1.0 is.1.1 }

pub no_ipv6 : (token : Token) → ((a : Ipv6Addr) → ¬ (IsIpv6Text token.octets a)) → NoValueOf (bare ipv6) token
no_ipv6 token isnt = record { none = λ v is. isnt is.1.0 is.1.1 }

-- ---- times to live

one_ascii : (c : ℕ) → c < 128 → IsAscii (c ∷ [])
one_ascii c h zero = h
one_ascii c h (suc i) = omega arith

one_utf8 : (c : ℕ) → c < 128 → IsUtf8 (c ∷ [])
one_utf8 c h = IsUtf8-from_ascii (c ∷ []) (one_ascii c h)

periods_utf8 : {text : List ℕ} {sum : ℕ} → Periods text sum → IsUtf8 text
periods_utf8 {text} (unitless digits e) = IsUtf8-from_ascii text (IsAscii-from_digits text digits.1)
periods_utf8 (last {unit = unit} front digits is same e) =
    rw same (IsUtf8-append front (unit ∷ []) (IsUtf8-from_ascii front (IsAscii-from_digits front digits.1)) (one_utf8 unit (unit_ascii is)))
periods_utf8 (next {rest = rest} {unit = unit} front digits is more same e) =
    rw same (IsUtf8-append front (unit ∷ rest) (IsUtf8-from_ascii front (IsAscii-from_digits front digits.1))
    (IsUtf8-append (unit ∷ []) rest (one_utf8 unit (unit_ascii is)) (periods_utf8 more)))

pub no_ttl : (token : Token) (most : ℕ) → ¬ (IsUtf8 token.octets) → NoValueOf (bare (ttl most)) token
no_ttl token most isnt = record { none = λ v is. isnt (periods_utf8 is.1.0.sum) }

-- ---- record types

second_true : (a b : Bool) → a && b ≡ true → b ≡ true
second_true true b h = h
second_true false b h = absurd (cc h)

-- each octet is ASCII
pub ascii_utf8 : (text : List ℕ) → list_all is_ascii text ≡ true → IsUtf8 text
ascii_utf8 [] h = IsUtf8-nil
ascii_utf8 (c ∷ text) h =
    IsUtf8-append (c ∷ []) text (one_utf8 c (grind (arith, nat_tests))) (ascii_utf8 text (second_true (is_ascii c) (list_all is_ascii text) h))

name_utf8 : (t : RecordType) → IsTrue (is_named t) → IsUtf8 (type_text t)
name_utf8 (types.Unknown n) h = absurd (cc h)
name_utf8 t h = ascii_utf8 _ refl

type_utf8 : (text : List ℕ) (t : RecordType) → IsTypeText text t → IsUtf8 text
type_utf8 text t (inl is) = rw is.printed (name_utf8 t is.named)
type_utf8 text t (inr is) =
    rw is.spelled (IsUtf8-append (codes "TYPE") is.digits (ascii_utf8 _ refl) (IsUtf8-from_ascii is.digits (IsAscii-from_digits is.digits is.numeral.1)))

pub no_type : (text : List ℕ) → ¬ (IsUtf8 text) → (t : RecordType) → IsTypeText text t → ⊥
no_type text isnt t is = isnt (type_utf8 text t is)

-- a name of the registry
pub registered : (text : List ℕ) (n : ℕ) (t : RecordType) → ((u : RecordType) → IsTypeText text u → ⊥) → Some n ≡ number_named registry text
    → t ≡ record_type_of n → IsZoneType text t
registered text n t others listed value = inr (record { others = others; number = n; listed = sym listed; value = value })

-- no name
pub unregistered : (text : List ℕ) → ((u : RecordType) → IsTypeText text u → ⊥) → None ≡ number_named registry text → (t : RecordType) → IsZoneType text t → ⊥
unregistered text others listed t (inl is) = others t is
unregistered text others listed t (inr is) = let both : None ≡ Some is.number = listed ∙ is.listed in absurd (cc both)

-- no token of a type
pub no_type_token : (token : Token) → ((t : RecordType) → IsZoneType token.octets t → ⊥) → HoldsOfNone (λ t. IsType t token)
no_type_token token none = record { none = λ t is. none t is.text }
