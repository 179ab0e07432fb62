-- The number of what a number gives is that number; values of one number that a number gives are one value.
use Rattle.std.proofs.{Common.◌≡◌, Common.◌↔◌, Common.ℕ, Common.sym, Common.ap, Common.◌∙◌, Common.arith, lemmas.Bool.Decides.nat_tests}
use Rattle.dns_fields.specs.{Fields.SameField, declared.Kind.TheVariants.Number}
use Rattle.dns_rdata_certs.specs.Enums.{cert_type_number, cert_type_of, cert_usage_number, cert_usage_of, selector_number, selector_of}
use Rattle.dns_rdata_certs.specs.Enums.{matching_number, matching_of, cert_algorithm_number, cert_algorithm_of, sshfp_algorithm_number}
use Rattle.dns_rdata_certs.specs.Enums.{sshfp_algorithm_of, fingerprint_type_number, fingerprint_type_of}

pub cert_type_number-of : (n : ℕ) → cert_type_number (cert_type_of n) ≡ n
unfolding cert_type_of
cert_type_number-of n = grind (arith, nat_tests)

pub cert_algorithm_number-of : (n : ℕ) → cert_algorithm_number (cert_algorithm_of n) ≡ n
unfolding cert_algorithm_of
cert_algorithm_number-of n = grind (arith, nat_tests)

pub sshfp_algorithm_number-of : (n : ℕ) → sshfp_algorithm_number (sshfp_algorithm_of n) ≡ n
unfolding sshfp_algorithm_of
sshfp_algorithm_number-of n = grind (arith, nat_tests)

pub fingerprint_type_number-of : (n : ℕ) → fingerprint_type_number (fingerprint_type_of n) ≡ n
unfolding fingerprint_type_of
fingerprint_type_number-of n = grind (arith, nat_tests)

pub cert_usage_number-of : (n : ℕ) → cert_usage_number (cert_usage_of n) ≡ n
unfolding cert_usage_of
cert_usage_number-of n = grind (arith, nat_tests)

pub selector_number-of : (n : ℕ) → selector_number (selector_of n) ≡ n
unfolding selector_of
selector_number-of n = grind (arith, nat_tests)

pub matching_number-of : (n : ℕ) → matching_number (matching_of n) ≡ n
unfolding matching_of
matching_number-of n = grind (arith, nat_tests)

-- so the variant is told by the number, too: keys are the same where the fields are
pub keyed_same : {T R S : Type 0} (number variant : T → ℕ) (of : ℕ → T) {a b : T} {w : ℕ} → a ≡ of (number a) → b ≡ of (number b) → R ↔ S
    → SameField (Number w) (number a) (number b) × (SameField (Number 1) (variant a) (variant b) × R) ↔ SameField (Number w) (number a) (number b) × S
keyed_same number variant of x y rest = (
  λ s. (s.0, rest.0 s.1.1),
  λ s. (s.0, (record { is = ap variant (x ∙ ap of s.0.is ∙ sym y) }, rest.1 s.1)),
)
