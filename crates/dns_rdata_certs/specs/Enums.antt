-- The enums of CERT (RFC 4398, 2 and 2.1; RFC 4034, A.1), SSHFP (RFC 4255, 3.1.1 and 3.1.2) and TLSA (RFC 6698, 2.1.1
-- to 2.1.3). Of each the numbers of its variants; one with a number of its own inside has that number.
use Rattle.std.specs.Prelude.{ℕ, List, [], ◌∷◌, nat_le, if◌then◌else◌, ◌++◌, codes, decimal}
use Rattle.dns_rdata_base.specs.Numbered.{numbered_of}
use Rattle.dns_rdata_certs.specs.declared.cert.enums.{CertType.CertType, Algorithm.Algorithm as CertAlgorithm}
use Rattle.dns_rdata_certs.specs.declared.cert.enums.CertType.TheVariants as kind
use Rattle.dns_rdata_certs.specs.declared.cert.enums.Algorithm.TheVariants as key
use Rattle.dns_rdata_certs.specs.declared.sshfp.{algorithm.Algorithm.Algorithm as SshfpAlgorithm, fingerprint_type.FingerprintType.FingerprintType}
use Rattle.dns_rdata_certs.specs.declared.sshfp.algorithm.Algorithm.TheVariants as host
use Rattle.dns_rdata_certs.specs.declared.sshfp.fingerprint_type.FingerprintType.TheVariants as print
use Rattle.dns_rdata_certs.specs.declared.tlsa.enums.{CertUsage.CertUsage, Selector.Selector, Matching.Matching}
use Rattle.dns_rdata_certs.specs.declared.tlsa.enums.CertUsage.TheVariants as usage
use Rattle.dns_rdata_certs.specs.declared.tlsa.enums.Selector.TheVariants as part
use Rattle.dns_rdata_certs.specs.declared.tlsa.enums.Matching.TheVariants as way

-- ---- CERT

-- number, rank in the declaration, and name, with the number in parentheses where it is inside
abbrev pub cert_type_entry : CertType → ℕ × ℕ × List ℕ
cert_type_entry kind.Reserved0 = (0, 0, codes "Reserved0")
cert_type_entry kind.PKIX = (1, 1, codes "PKIX")
cert_type_entry kind.SPKI = (2, 2, codes "SPKI")
cert_type_entry kind.PGP = (3, 3, codes "PGP")
cert_type_entry kind.IPKIX = (4, 4, codes "IPKIX")
cert_type_entry kind.ISPKI = (5, 5, codes "ISPKI")
cert_type_entry kind.IPGP = (6, 6, codes "IPGP")
cert_type_entry kind.ACPKIX = (7, 7, codes "ACPKIX")
cert_type_entry kind.IACPKIX = (8, 8, codes "IACPKIX")
cert_type_entry kind.URI = (253, 9, codes "URI")
cert_type_entry kind.OID = (254, 10, codes "OID")
cert_type_entry kind.Reserved255 = (255, 11, codes "Reserved255")
cert_type_entry (kind.Unassigned n) = (n, 12, codes "Unassigned(" ++ decimal n ++ codes ")")
cert_type_entry (kind.Experimental n) = (n, 13, codes "Experimental(" ++ decimal n ++ codes ")")
cert_type_entry kind.Reserved65535 = (65535, 14, codes "Reserved65535")

abbrev pub cert_type_number : CertType → ℕ
cert_type_number e = (cert_type_entry e).0

abbrev pub cert_type_variant : CertType → ℕ
cert_type_variant e = (cert_type_entry e).1

abbrev pub named_cert_types : List CertType
named_cert_types = kind.Reserved0 ∷ kind.PKIX ∷ kind.SPKI ∷ kind.PGP ∷ kind.IPKIX ∷ kind.ISPKI ∷ kind.IPGP ∷ kind.ACPKIX
    ∷ kind.IACPKIX ∷ kind.URI ∷ kind.OID ∷ kind.Reserved255 ∷ kind.Reserved65535 ∷ []

-- the variant that a number gives
unfoldable pub cert_type_of : ℕ → CertType
cert_type_of =
    numbered_of cert_type_number named_cert_types
    (λ n. if nat_le 65280 n then kind.Experimental n else kind.Unassigned n)

unfoldable pub cert_type_text : CertType → List ℕ
cert_type_text e = (cert_type_entry e).2

-- an algorithm's number, its rank in the declaration and its text
abbrev pub cert_algorithm_entry : CertAlgorithm → ℕ × ℕ × List ℕ
cert_algorithm_entry (key.Reserved n) = (n, 0, codes "Reserved(" ++ decimal n ++ codes ")")
cert_algorithm_entry key.RSAMD5 = (1, 1, codes "RSAMD5")
cert_algorithm_entry key.DH = (2, 2, codes "DH")
cert_algorithm_entry key.DSA = (3, 3, codes "DSA")
cert_algorithm_entry key.ECC = (4, 4, codes "ECC")
cert_algorithm_entry key.RSASHA1 = (5, 5, codes "RSASHA1")
cert_algorithm_entry key.INDIRECT = (252, 6, codes "INDIRECT")
cert_algorithm_entry key.PRIVATEDNS = (253, 7, codes "PRIVATEDNS")
cert_algorithm_entry key.PRIVATEOID = (254, 8, codes "PRIVATEOID")
cert_algorithm_entry key.DSANSEC3SHA1 = (6, 9, codes "DSANSEC3SHA1")
cert_algorithm_entry key.RSASHA1NSEC3SHA1 = (7, 10, codes "RSASHA1NSEC3SHA1")
cert_algorithm_entry key.RSASHA256 = (8, 11, codes "RSASHA256")
cert_algorithm_entry key.RSASHA512 = (10, 12, codes "RSASHA512")
cert_algorithm_entry key.ECCGOST = (12, 13, codes "ECCGOST")
cert_algorithm_entry key.ECDSAP256SHA256 = (13, 14, codes "ECDSAP256SHA256")
cert_algorithm_entry key.ECDSAP384SHA384 = (14, 15, codes "ECDSAP384SHA384")
cert_algorithm_entry key.ED25519 = (15, 16, codes "ED25519")
cert_algorithm_entry key.ED448 = (16, 17, codes "ED448")
cert_algorithm_entry key.SM2SM3 = (17, 18, codes "SM2SM3")
cert_algorithm_entry key.ECCGOST12 = (23, 19, codes "ECCGOST12")
cert_algorithm_entry (key.Unassigned n) = (n, 20, codes "Unassigned(" ++ decimal n ++ codes ")")

abbrev pub cert_algorithm_number : CertAlgorithm → ℕ
cert_algorithm_number e = (cert_algorithm_entry e).0

abbrev pub cert_algorithm_variant : CertAlgorithm → ℕ
cert_algorithm_variant e = (cert_algorithm_entry e).1

abbrev pub named_cert_algorithms : List CertAlgorithm
named_cert_algorithms = key.Reserved 0 ∷ key.RSAMD5 ∷ key.DH ∷ key.DSA ∷ key.ECC ∷ key.RSASHA1 ∷ key.DSANSEC3SHA1
    ∷ key.RSASHA1NSEC3SHA1 ∷ key.RSASHA256 ∷ key.Reserved 9 ∷ key.RSASHA512 ∷ key.Reserved 11 ∷ key.ECCGOST
    ∷ key.ECDSAP256SHA256 ∷ key.ECDSAP384SHA384 ∷ key.ED25519 ∷ key.ED448 ∷ key.SM2SM3 ∷ key.ECCGOST12 ∷ key.INDIRECT
    ∷ key.PRIVATEDNS ∷ key.PRIVATEOID ∷ []

-- the variant that a number gives
unfoldable pub cert_algorithm_of : ℕ → CertAlgorithm
cert_algorithm_of = numbered_of cert_algorithm_number named_cert_algorithms key.Unassigned

unfoldable pub cert_algorithm_text : CertAlgorithm → List ℕ
cert_algorithm_text e = (cert_algorithm_entry e).2

-- ---- SSHFP

abbrev pub sshfp_algorithm_number : SshfpAlgorithm → ℕ
sshfp_algorithm_number host.Reserved = 0
sshfp_algorithm_number host.RSA = 1
sshfp_algorithm_number host.DSA = 2
sshfp_algorithm_number host.ECDSA = 3
sshfp_algorithm_number host.Ed25519 = 4
sshfp_algorithm_number host.Ed448 = 6
sshfp_algorithm_number (host.Unassigned n) = n

-- the rank in the declaration
abbrev pub sshfp_algorithm_variant : SshfpAlgorithm → ℕ
sshfp_algorithm_variant host.Reserved = 0
sshfp_algorithm_variant host.RSA = 1
sshfp_algorithm_variant host.DSA = 2
sshfp_algorithm_variant host.ECDSA = 3
sshfp_algorithm_variant host.Ed25519 = 4
sshfp_algorithm_variant host.Ed448 = 5
sshfp_algorithm_variant (host.Unassigned n) = 6

-- the variant that a number gives
unfoldable pub sshfp_algorithm_of : ℕ → SshfpAlgorithm
sshfp_algorithm_of =
    numbered_of sshfp_algorithm_number
    (host.Reserved ∷ host.RSA ∷ host.DSA ∷ host.ECDSA ∷ host.Ed25519 ∷ host.Ed448 ∷ []) host.Unassigned

abbrev pub fingerprint_type_number : FingerprintType → ℕ
fingerprint_type_number print.Reserved = 0
fingerprint_type_number print.SHA1 = 1
fingerprint_type_number print.SHA256 = 2
fingerprint_type_number (print.Unassigned n) = n

-- the rank in the declaration
abbrev pub fingerprint_type_variant : FingerprintType → ℕ
fingerprint_type_variant print.Reserved = 0
fingerprint_type_variant print.SHA1 = 1
fingerprint_type_variant print.SHA256 = 2
fingerprint_type_variant (print.Unassigned n) = 3

-- the variant that a number gives
unfoldable pub fingerprint_type_of : ℕ → FingerprintType
fingerprint_type_of =
    numbered_of fingerprint_type_number (print.Reserved ∷ print.SHA1 ∷ print.SHA256 ∷ []) print.Unassigned

-- ---- TLSA

abbrev pub cert_usage_number : CertUsage → ℕ
cert_usage_number usage.PkixTa = 0
cert_usage_number usage.PkixEe = 1
cert_usage_number usage.DaneTa = 2
cert_usage_number usage.DaneEe = 3
cert_usage_number (usage.Unassigned n) = n
cert_usage_number usage.Private = 255

-- the rank in the declaration
abbrev pub cert_usage_variant : CertUsage → ℕ
cert_usage_variant usage.PkixTa = 0
cert_usage_variant usage.PkixEe = 1
cert_usage_variant usage.DaneTa = 2
cert_usage_variant usage.DaneEe = 3
cert_usage_variant (usage.Unassigned n) = 4
cert_usage_variant usage.Private = 5

-- the variant that a number gives
unfoldable pub cert_usage_of : ℕ → CertUsage
cert_usage_of =
    numbered_of cert_usage_number
    (usage.PkixTa ∷ usage.PkixEe ∷ usage.DaneTa ∷ usage.DaneEe ∷ usage.Private ∷ []) usage.Unassigned

abbrev pub selector_number : Selector → ℕ
selector_number part.Full = 0
selector_number part.Spki = 1
selector_number (part.Unassigned n) = n
selector_number part.Private = 255

-- the rank in the declaration
abbrev pub selector_variant : Selector → ℕ
selector_variant part.Full = 0
selector_variant part.Spki = 1
selector_variant (part.Unassigned n) = 2
selector_variant part.Private = 3

-- the variant that a number gives
unfoldable pub selector_of : ℕ → Selector
selector_of = numbered_of selector_number (part.Full ∷ part.Spki ∷ part.Private ∷ []) part.Unassigned

abbrev pub matching_number : Matching → ℕ
matching_number way.Raw = 0
matching_number way.Sha256 = 1
matching_number way.Sha512 = 2
matching_number (way.Unassigned n) = n
matching_number way.Private = 255

-- the rank in the declaration
abbrev pub matching_variant : Matching → ℕ
matching_variant way.Raw = 0
matching_variant way.Sha256 = 1
matching_variant way.Sha512 = 2
matching_variant (way.Unassigned n) = 3
matching_variant way.Private = 4

-- the variant that a number gives
unfoldable pub matching_of : ℕ → Matching
matching_of = numbered_of matching_number (way.Raw ∷ way.Sha256 ∷ way.Sha512 ∷ way.Private ∷ []) way.Unassigned
