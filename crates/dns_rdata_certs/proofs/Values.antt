-- Records by their fields: each record that was read is told by them, and any fields make one. What is compared of two
-- records that were read is the same exactly where their fields are.
use Rattle.std.proofs.Common.{◌≡◌, ◌↔◌, ◌<◌, ◌+◌, ℕ, List, length, Result, Ok, Err, refl, sym, ap, arith}
use Rattle.dns_types.specs.declared.error.DecodeError.{DecodeError}
use Rattle.dns_fields.specs.Octets.{AreOctets}
use Rattle.dns_names_wire.specs.{Terms.Lacks, Terms.ReadsTo, State.Reading}
use Rattle.dns_names_wire.proofs.FieldReads.{unless_map}
use Rattle.dns_fields.specs.Fields.{Values, Same}
use Rattle.dns_rdata_certs.specs.CERT.{cert_shape, cert_fields, cert_key_shape, cert_keys, IsReadCert, MeetsCertCondition, ReadsWholeCert}
use Rattle.dns_rdata_certs.specs.TLSA.{tlsa_shape}
use Rattle.dns_rdata_certs.specs.{SSHFP.sshfp_shape, SSHFP.sshfp_fields, SSHFP.sshfp_key_shape, SSHFP.sshfp_keys, SSHFP.IsReadSshfp, declared.sshfp.SSHFP.SSHFP}
use Rattle.dns_rdata_certs.specs.{Enums.fingerprint_type_number, Enums.fingerprint_type_variant, Enums.fingerprint_type_of, declared.smimea.SMIMEA.SMIMEA}
use Rattle.dns_rdata_certs.specs.{declared.cert.CERT.CERT, TLSA.tlsa_fields, TLSA.tlsa_key_shape, TLSA.tlsa_keys, TLSA.IsReadTlsa, declared.tlsa.TLSA.TLSA}
use Rattle.dns_rdata_certs.specs.Enums.{cert_type_number, cert_type_variant, cert_type_of, cert_usage_number, cert_usage_variant, cert_usage_of}
use Rattle.dns_rdata_certs.specs.Enums.{selector_number, selector_variant, selector_of, matching_number, matching_variant, matching_of, cert_algorithm_number}
use Rattle.dns_rdata_certs.specs.Enums.{cert_algorithm_variant, cert_algorithm_of, sshfp_algorithm_number, sshfp_algorithm_variant, sshfp_algorithm_of}
use Rattle.dns_rdata_certs.proofs.Numbers.{cert_usage_number-of, selector_number-of, matching_number-of, keyed_same}
use Rattle.dns_rdata_certs.proofs.Numbers.{cert_type_number-of, cert_algorithm_number-of, sshfp_algorithm_number-of, fingerprint_type_number-of}

-- ---- TLSA

abbrev pub tlsa_from : Values tlsa_shape → TLSA
tlsa_from vs = record { cert_usage = cert_usage_of vs.0; selector = selector_of vs.1.0; matching = matching_of vs.1.1.0; cert_data = vs.1.1.1.0 }

pub tlsa_from-fields : (x : TLSA) → IsReadTlsa x → x ≡ tlsa_from (tlsa_fields x)
tlsa_from-fields x r = rw (← r.usage, ← r.selector, ← r.matching) refl

pub tlsa_fields-from : (vs : Values tlsa_shape) → tlsa_fields (tlsa_from vs) ≡ vs
tlsa_fields-from vs = rw (cert_usage_number-of vs.0, selector_number-of vs.1.0, matching_number-of vs.1.1.0) refl

pub tlsa_from-read : (vs : Values tlsa_shape) → IsReadTlsa (tlsa_from vs)
tlsa_from-read vs = record {
  usage = sym (ap cert_usage_of (cert_usage_number-of vs.0));
  selector = sym (ap selector_of (selector_number-of vs.1.0));
  matching = sym (ap matching_of (matching_number-of vs.1.1.0));
}

pub tlsa_keys-same : (a b : TLSA) → IsReadTlsa a → IsReadTlsa b
    → Same tlsa_key_shape (tlsa_keys a) (tlsa_keys b) ↔ Same tlsa_shape (tlsa_fields a) (tlsa_fields b)
tlsa_keys-same a b x y = keyed_same cert_usage_number cert_usage_variant cert_usage_of x.usage y.usage
    (keyed_same selector_number selector_variant selector_of x.selector y.selector
    (keyed_same matching_number matching_variant matching_of x.matching y.matching (λ s. s, λ s. s)))

-- ---- SSHFP

abbrev pub sshfp_from : Values sshfp_shape → SSHFP
sshfp_from vs = record { algorithm = sshfp_algorithm_of vs.0; fingerprint_type = fingerprint_type_of vs.1.0; fingerprint = vs.1.1.0 }

pub sshfp_from-fields : (x : SSHFP) → IsReadSshfp x → x ≡ sshfp_from (sshfp_fields x)
sshfp_from-fields x r = rw (← r.algorithm, ← r.type) refl

pub sshfp_fields-from : (vs : Values sshfp_shape) → sshfp_fields (sshfp_from vs) ≡ vs
sshfp_fields-from vs = rw (sshfp_algorithm_number-of vs.0, fingerprint_type_number-of vs.1.0) refl

pub sshfp_from-read : (vs : Values sshfp_shape) → IsReadSshfp (sshfp_from vs)
sshfp_from-read vs = record {
  algorithm = sym (ap sshfp_algorithm_of (sshfp_algorithm_number-of vs.0));
  type = sym (ap fingerprint_type_of (fingerprint_type_number-of vs.1.0));
}

pub sshfp_keys-same : (a b : SSHFP) → IsReadSshfp a → IsReadSshfp b
    → Same sshfp_key_shape (sshfp_keys a) (sshfp_keys b) ↔ Same sshfp_shape (sshfp_fields a) (sshfp_fields b)
sshfp_keys-same a b x y = keyed_same sshfp_algorithm_number sshfp_algorithm_variant sshfp_algorithm_of x.algorithm y.algorithm
    (keyed_same fingerprint_type_number fingerprint_type_variant fingerprint_type_of x.type y.type (λ s. s, λ s. s))

-- ---- CERT

abbrev pub cert_from : Values cert_shape → CERT
cert_from vs = record { cert_type = cert_type_of vs.0; key_tag = vs.1.0; algorithm = cert_algorithm_of vs.1.1.0; cert_data = vs.1.1.1.0 }

pub cert_from-fields : (x : CERT) → IsReadCert x → x ≡ cert_from (cert_fields x)
cert_from-fields x r = rw (← r.type, ← r.algorithm) refl

pub cert_fields-from : (vs : Values cert_shape) → cert_fields (cert_from vs) ≡ vs
cert_fields-from vs = rw (cert_type_number-of vs.0, cert_algorithm_number-of vs.1.1.0) refl

pub cert_from-read : (vs : Values cert_shape) → IsReadCert (cert_from vs)
cert_from-read vs = record {
  type = sym (ap cert_type_of (cert_type_number-of vs.0));
  algorithm = sym (ap cert_algorithm_of (cert_algorithm_number-of vs.1.1.0));
}

pub cert_keys-same : (a b : CERT) → IsReadCert a → IsReadCert b
    → Same cert_key_shape (cert_keys a) (cert_keys b) ↔ Same cert_shape (cert_fields a) (cert_fields b)
cert_keys-same a b x y =
    let rest = keyed_same cert_algorithm_number cert_algorithm_variant cert_algorithm_of x.algorithm y.algorithm (λ s. s, λ s. s) in
    keyed_same cert_type_number cert_type_variant cert_type_of x.type y.type (λ s. (s.0, rest.0 s.1), λ s. (s.0, rest.1 s.1))

-- a certificate that is read from octets of its own
pub whole_cert : (octets : List ℕ) (new : Reading) (r : Result CERT DecodeError) → AreOctets octets → length octets < 65536
    → ReadsTo cert_shape MeetsCertCondition (length octets) cert_fields r (record { message = octets; index = 0 }) new → ReadsWholeCert octets r
whole_cert octets new (Ok x) o short h = record { octets = o; short = short; within = omega arith; stands = rw (← h.1.0) h.0.stands; holds = h.1.1 }
whole_cert octets new (Err e) o short h = unless_map e _ _ (λ (l : Lacks (record { message = octets; index = 0 }) cert_shape (λ vs q. (q ≡ 0 + length octets) × MeetsCertCondition vs)).
    record { none = λ vs w. l.none vs (0 + length octets) w.stands (refl, w.holds) }) h.none
