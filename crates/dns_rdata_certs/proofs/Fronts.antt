-- Records with the same fields in front are ordered by the octets behind them, others by what comes first.
use Rattle.std.proofs.Common.{◌≡◌, Bool, List, [], ◌∷◌, ◌∙◌, true, refl}
use Rattle.std.specs.declared.cmp.Ordering.{TheVariants.Equal, Ordering}
use Rattle.dns_fields.specs.{Fields.Values, Fields.all_emittable, declared.Kind.Kind, declared.Kind.TheVariants.Number, declared.Kind.TheVariants.Rest}
use Rattle.dns_canonical.specs.Fronts.{AllEndAlike, fields_cmp}
use Rattle.dns_canonical.proofs.Fronts.{ordered}
use Rattle.dns_rdata_base.specs.Ordered.{IsOrder}
use Rattle.dns_rdata_base.proofs.QuickOrders.{by_rest, orders, rest_cmp, same_first}
use Rattle.dns_rdata_certs.specs.{SSHFP.sshfp_shape, SSHFP.sshfp_fields, CERT.cert_shape, CERT.cert_fields, TLSA.tlsa_shape, TLSA.tlsa_fields}
use Rattle.dns_rdata_certs.specs.{Enums.sshfp_algorithm_number, declared.sshfp.SSHFP.SSHFP, declared.cert.CERT.CERT, declared.tlsa.TLSA.TLSA}
use Rattle.dns_rdata_certs.specs.Enums.{cert_algorithm_number, cert_type_number, cert_usage_number, fingerprint_type_number, matching_number, selector_number}
use Rattle.dns_rdata_certs.specs.contracts.cert.CERTPartialEq.TheImpl as cert_eq
use Rattle.dns_rdata_certs.specs.contracts.sshfp.SSHFPPartialEq.TheImpl as sshfp_eq
use Rattle.dns_rdata_certs.specs.contracts.tlsa.TLSAPartialEq.TheImpl as tlsa_eq

pub cert_tied : (x y : CERT) (o : Ordering)
    → (cert_type_number x.cert_type ≡ cert_type_number y.cert_type) × (x.key_tag ≡ y.key_tag)
    × (cert_algorithm_number x.algorithm ≡ cert_algorithm_number y.algorithm)
    → (x.cert_data ≡ y.cert_data → cert_eq.ghosts.eq x y ≡ true) → o ≡ rest_cmp x.cert_data y.cert_data
    → IsOrder cert_shape (cert_fields x) (cert_fields y) (cert_eq.ghosts.eq x y) o
cert_tied x y o same equal e =
    by_rest cert_shape (cert_fields x) (cert_fields y) _ x.cert_data y.cert_data o refl refl
    (same_first (Number 2) (cert_type_number x.cert_type) (cert_type_number y.cert_type) (Number 2 ∷ Number 1 ∷ Rest ∷ []) (cert_fields x).1 (cert_fields y).1 same.0
    ∙ same_first (Number 2) x.key_tag y.key_tag (Number 1 ∷ Rest ∷ []) (cert_fields x).1.1 (cert_fields y).1.1 same.1
    ∙ same_first (Number 1) (cert_algorithm_number x.algorithm) (cert_algorithm_number y.algorithm) (Rest ∷ []) (x.cert_data, tt) (y.cert_data, tt) same.2) equal e

pub sshfp_tied : (x y : SSHFP) (o : Ordering)
    → (sshfp_algorithm_number x.algorithm ≡ sshfp_algorithm_number y.algorithm)
    × (fingerprint_type_number x.fingerprint_type ≡ fingerprint_type_number y.fingerprint_type)
    → (x.fingerprint ≡ y.fingerprint → sshfp_eq.ghosts.eq x y ≡ true) → o ≡ rest_cmp x.fingerprint y.fingerprint
    → IsOrder sshfp_shape (sshfp_fields x) (sshfp_fields y) (sshfp_eq.ghosts.eq x y) o
sshfp_tied x y o same equal e =
    by_rest sshfp_shape (sshfp_fields x) (sshfp_fields y) _ x.fingerprint y.fingerprint o refl refl
    (same_first (Number 1) (sshfp_algorithm_number x.algorithm) (sshfp_algorithm_number y.algorithm) (Number 1 ∷ Rest ∷ []) (sshfp_fields x).1 (sshfp_fields y).1 same.0
    ∙ same_first (Number 1) (fingerprint_type_number x.fingerprint_type) (fingerprint_type_number y.fingerprint_type) (Rest ∷ []) (x.fingerprint, tt) (y.fingerprint, tt) same.1) equal e

pub tlsa_tied : (x y : TLSA) (o : Ordering)
    → (cert_usage_number x.cert_usage ≡ cert_usage_number y.cert_usage) × (selector_number x.selector ≡ selector_number y.selector)
    × (matching_number x.matching ≡ matching_number y.matching)
    → (x.cert_data ≡ y.cert_data → tlsa_eq.ghosts.eq x y ≡ true) → o ≡ rest_cmp x.cert_data y.cert_data
    → IsOrder tlsa_shape (tlsa_fields x) (tlsa_fields y) (tlsa_eq.ghosts.eq x y) o
tlsa_tied x y o same equal e =
    by_rest tlsa_shape (tlsa_fields x) (tlsa_fields y) _ x.cert_data y.cert_data o refl refl
    (same_first (Number 1) (cert_usage_number x.cert_usage) (cert_usage_number y.cert_usage) (Number 1 ∷ Number 1 ∷ Rest ∷ []) (tlsa_fields x).1 (tlsa_fields y).1 same.0
    ∙ same_first (Number 1) (selector_number x.selector) (selector_number y.selector) (Number 1 ∷ Rest ∷ []) (tlsa_fields x).1.1 (tlsa_fields y).1.1 same.1
    ∙ same_first (Number 1) (matching_number x.matching) (matching_number y.matching) (Rest ∷ []) (x.cert_data, tt) (y.cert_data, tt) same.2) equal e

-- where no field is cut short by another's octets, the first that differs decides
pub differ : (s : List Kind) (a b : Values s) (same : Bool) (o : Ordering) → o ≡ fields_cmp Equal s a b → AllEndAlike s a b → all_emittable s a ≡ true
    → all_emittable s b ≡ true → (o ≡ Equal → same ≡ true) → IsOrder s a b same o
differ s a b same o e ends f g equal = orders s a b same o (λ n. f) (λ n. g) ends (ordered s a b e ends) (λ z tied. equal z)
