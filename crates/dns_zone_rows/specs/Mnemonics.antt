-- Numbers that tokens have by name: certificate types (RFC 4398, 2.1), algorithms (RFC 4034, A.1) and schemes (RFC 9859, 2.1).
use Rattle.std.specs.Prelude.{◌≡◌, ◌⊎◌, ℕ, true, false, List, [], ◌∷◌, Option, Some, None, codes}
use Rattle.dns_fields.specs.declared.Kind.{TheVariants.Number}
use Rattle.dns_zone_tokens.specs.{Forms.ZoneForm, Forms.number, Mnemonics.Named, Mnemonics.named, Mnemonics.number_named, Tokens.Token}

-- a token without quotes that is a name is its number; any other token is a number of so many octets
abbrev pub IsNamedNumber : ℕ → Option ℕ → ℕ → Token → Type 0
IsNamedNumber octets (Some value) n token = (token.quoted ≡ false) × (n ≡ value)
IsNamedNumber octets None n token = (number octets).is n token

-- a name of the table, or a number of so many octets
abbrev pub named_number : (octets : ℕ) → List Named → ZoneForm (Number octets)
named_number octets table = record { is = λ n token. IsNamedNumber octets (number_named table token.octets) n token }

-- ---- one token

-- the token, without quotes, is a name of this number
pub record IsByName (table : List Named) (value : ℕ) (token : Token) : Type 0 where
  pub bare : token.quoted ≡ false
  pub listed : number_named table token.octets ≡ Some value

-- the token is in quotes, or is none of the names
abbrev pub IsNotByName : List Named → Token → Type 0
IsNotByName table token = (token.quoted ≡ true) ⊎ (number_named table token.octets ≡ None)

-- ---- the tables

-- types of certificates (RFC 4398, 2.1)
abbrev pub cert_types : List Named
cert_types =
    named (codes "PKIX") 1
    ∷ named (codes "SPKI") 2
    ∷ named (codes "PGP") 3
    ∷ named (codes "IPKIX") 4
    ∷ named (codes "ISPKI") 5
    ∷ named (codes "IPGP") 6
    ∷ named (codes "ACPKIX") 7
    ∷ named (codes "IACPKIX") 8
    ∷ named (codes "URI") 253
    ∷ named (codes "OID") 254
    ∷ []

-- algorithms of keys (RFC 4034, A.1; IANA's "DNS Security Algorithm Numbers"), with the shorter names that BIND has
abbrev pub algorithms : List Named
algorithms =
    named (codes "RSAMD5") 1
    ∷ named (codes "DH") 2
    ∷ named (codes "DSA") 3
    ∷ named (codes "RSASHA1") 5
    ∷ named (codes "DSA-NSEC3-SHA1") 6
    ∷ named (codes "NSEC3DSA") 6
    ∷ named (codes "RSASHA1-NSEC3-SHA1") 7
    ∷ named (codes "NSEC3RSASHA1") 7
    ∷ named (codes "RSASHA256") 8
    ∷ named (codes "RSASHA512") 10
    ∷ named (codes "ECC-GOST") 12
    ∷ named (codes "ECCGOST") 12
    ∷ named (codes "ECDSAP256SHA256") 13
    ∷ named (codes "ECDSA256") 13
    ∷ named (codes "ECDSAP384SHA384") 14
    ∷ named (codes "ECDSA384") 14
    ∷ named (codes "ED25519") 15
    ∷ named (codes "ED448") 16
    ∷ named (codes "INDIRECT") 252
    ∷ named (codes "PRIVATEDNS") 253
    ∷ named (codes "PRIVATEOID") 254
    ∷ []

-- schemes of DSYNC (RFC 9859, 2.1)
abbrev pub schemes : List Named
schemes = named (codes "NOTIFY") 1 ∷ []
