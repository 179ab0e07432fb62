-- CAA: how it is read, and what its fields tell.
use Rattle.std.proofs.Common.{◌≡◌, ◌↔◌, ◌<◌, ℕ, ◌+◌, ◌%◌, Bool, true, false, cond, nat_le, length, Result, Ok, Err, refl, sym, ap, ◌∙◌, arith, ◌⊎◌}
use Rattle.std.proofs.Common.{inl, inr, ⊎_elim, ◌≤◌, List, [], ◌∷◌, ◌++◌, get_or, drop, subst, ◌-◌}
use Rattle.std.specs.{Prelude.IfErr, List.list_all, Char.is_ascii_alphanumeric}
use Rattle.std.proofs.{lemmas.Grind.common_steps, lemmas.Bool.Decides.nat_tests, lemmas.Bool.both_ways, Math.Nat.mod-eq_of_lt}
use Rattle.dns_types.specs.declared.error.{ProtoError.ProtoError, DecodeError.DecodeError}
use Rattle.dns_names_wire.specs.State.{Writing, Reading}
use Rattle.dns_names_wire.specs.Terms.{Emits, IsMessage, TookField, Took, Refused, StaysBehind, LacksOctets}
use Rattle.dns_fields.specs.{Fields.Values, Fields.AllFit, Fields.Same, Fields.Field, Octets.At}
use Rattle.dns_fields.specs.declared.Kind.{TheVariants.Number, TheVariants.Octets, TheVariants.CharacterString, TheVariants.Rest}
use Rattle.dns_rdata_policy.specs.CAA.{caa_shape, caa_fields, caa_flags, caa_key_shape, caa_keys, critical_number, IsReadCaa}
use Rattle.dns_rows.specs.Rules.{AreLetters, IsTag}
use Rattle.dns_rdata_policy.specs.{declared.caa.CAA.CAA}
use Rattle.std.proofs.lemmas.List.{length-append, get_or-take, get_or-append_right, Folds.list_all_at}
use Rattle.dns_names_wire.proofs.FieldReads.{unless_all, took_stays, took_then, took_last, took_number}
use Rattle.dns_names_wire.proofs.Strings.{text_taken, at_rest}
use Rattle.dns_fields.proofs.{NameOffsets.At-same_head, FieldLaws.field_inside}
use Rattle.dns_types.specs.declared.error.ProtoError.TheVariants as proto
use Rattle.dns_types.specs.declared.error.DecodeError.TheVariants as decode

-- ---- reading: flags, tag, value

-- the flags' two parts make them again
pub flags_back : (f : ℕ) → f < 256 → f ≡ f % 128 % 128 + cond (nat_le 128 f) 128 0
flags_back f lt = grind (arith, common_steps, nat_tests)

-- ---- by the fields: a record that was read is told by them, and fields that fit make one

abbrev pub caa_from : Values caa_shape → CAA
caa_from vs = record { issuer_critical = nat_le 128 vs.0; reserved_flags = vs.0 % 128; tag = vs.1.0; value = vs.1.1.0 }

-- both parts of flags of seven bits and a mark
parts_back : (b : Bool) (r : ℕ) → r < 128 → (b ≡ nat_le 128 (r % 128 + cond b 128 0)) × (r ≡ (r % 128 + cond b 128 0) % 128)
parts_back b r h = (grind (arith, common_steps, nat_tests), grind (arith, nat_tests))

pub caa_from-fields : (x : CAA) → IsReadCaa x → x ≡ caa_from (caa_fields x)
caa_from-fields x r =
    let parts = parts_back x.issuer_critical x.reserved_flags r in
    ap (λ (b : Bool). record x { issuer_critical = b }) parts.0
    ∙ ap (λ (n : ℕ). record x { issuer_critical = nat_le 128 (caa_flags x); reserved_flags = n }) parts.1

pub caa_fields-from : (vs : Values caa_shape) → AllFit caa_shape vs → caa_fields (caa_from vs) ≡ vs
caa_fields-from vs f = ap (λ (n : ℕ). (n, vs.1)) (sym (flags_back vs.0 (omega (arith, f.0))))

pub caa_from-read : (vs : Values caa_shape) → IsReadCaa (caa_from vs)
caa_from-read vs = omega arith

critical_same : (a b : Bool) (r s : ℕ) → r < 128 → s < 128 → r % 128 + cond a 128 0 ≡ s % 128 + cond b 128 0 → (critical_number a ≡ critical_number b) × (r ≡ s)
critical_same true true r s x y e = (refl, omega arith)
critical_same false false r s x y e = (refl, omega arith)
critical_same a b r s x y e = absurd (omega arith)

flags_same : (a b : Bool) (r s : ℕ) → critical_number a ≡ critical_number b → r ≡ s → r % 128 + cond a 128 0 ≡ s % 128 + cond b 128 0
flags_same true true r s m e = omega arith
flags_same false false r s m e = omega arith
flags_same a b r s m e = absurd (omega (arith, m))

pub caa_keys-same : (a b : CAA) → IsReadCaa a → IsReadCaa b → Same caa_key_shape (caa_keys a) (caa_keys b) ↔ Same caa_shape (caa_fields a) (caa_fields b)
caa_keys-same a b x y = (
  λ s. (record { is = flags_same a.issuer_critical b.issuer_critical a.reserved_flags b.reserved_flags s.0.is s.1.0.is }, s.1.1),
  λ s.
      let k = critical_same a.issuer_critical b.issuer_critical a.reserved_flags b.reserved_flags x y s.0.is in
      (record { is = k.0 }, (record { is = k.1 }, s.1)),
)

-- ---- what is emitted

short : (n : ℕ) → nat_le n 255 ≡ false → 255 < n
short n e = grind (arith, nat_tests)

-- a message refuses a tag of more than 255 octets
pub long_tag : (x : CAA) (r : Result (Unit {0}) ProtoError) (old new : Writing) → Emits caa_shape (caa_fields x) r old new
    → IfErr r (λ e. IsMessage e → 255 < length x.tag)
long_tag x (Ok u) old new h = tt
long_tag x (Err (proto.Message t)) old new h = λ m. short (length x.tag) (grind (arith, nat_tests, h.why.unfit))
long_tag x y old new h = λ m. absurd m
