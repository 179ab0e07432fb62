-- CSYNC by its fields: a record that was read is told by them, and any fields make one.
use Rattle.std.proofs.Common.{◌≡◌, ◌≢◌, ◌↔◌, ◌<◌, ℕ, ◌+◌, ◌*◌, ◌/◌, ◌%◌, ◌==◌, Bool, true, false, bit_and, refl, sym, ap, ◌∙◌, arith, subst, List, [], ◌∷◌, Ok, Err, ◌≤◌}
use Rattle.std.proofs.lemmas.{Nat.Bits.and_pow, Nat.Bits.and_high_mask, Bool.Decides.nat_tests}
use Rattle.std.specs.{declared.cmp.Ordering.TheVariants.Equal, declared.cmp.Ordering.Ordering, Ordering.ordering_then}
use Rattle.dns_fields.specs.{Fields.Field, Fields.Stands, Fields.Values, Fields.Same, declared.Kind.TheVariants.Number, declared.Kind.TheVariants.Bitmap}
use Rattle.dns_canonical.specs.Fronts.{canonical_cmp, field_cmp}
use Rattle.dns_canonical.proofs.{Fronts.fields_decide, Comparing.then_kept}
use Rattle.dns_rdata_policy.specs.{RecordTypeSet.set_fields, RecordTypeSet.set_shape, declared.csync.CSYNC.CSYNC}
use Rattle.dns_rows.specs.declared.row.TheConstants as rows
use Rattle.dns_rows.specs.Rules.{AreKnownFlags, MeetsRow}
use Rattle.dns_check.specs.ByRow.{ReadsRow}
use Rattle.dns_check.proofs.ByRow.{exact_row}
use Rattle.dns_rdata_policy.specs.CSYNC.{csync_shape, csync_flags, csync_fields, csync_key_shape, csync_keys, bit, IsReadCsync, csync_facts}
use Rattle.dns_types.specs.declared.error.DecodeError.{DecodeError}
use Rattle.dns_names_wire.specs.{Terms.Lacks, Terms.Refused, Terms.Took, Terms.TookField, State.Reading}
use Rattle.dns_names_wire.proofs.FieldReads.{refused_then, took_number, took_then, unless_map}
use Rattle.dns_names_wire.proofs.RegionReads.{Given}

abbrev pub csync_from : Values csync_shape → CSYNC
csync_from vs = record {
  soa_serial = vs.0;
  immediate = vs.1.0 % 2 == 1;
  soa_minimum = vs.1.0 / 2 % 2 == 1;
  reserved_flags = vs.1.0 / 4 * 4;
  type_bit_maps =
      vs.1.1.0;
}

-- ---- the parts of flags

of_bit : (x : ℕ) → x < 2 → bit (x == 1) ≡ x
of_bit x l = grind (arith, nat_tests)

bit_lt : (b : Bool) → (bit b < 2) × (b ≡ (bit b == 1))
bit_lt true = (omega arith, refl)
bit_lt false = (omega arith, refl)

parts_same : (r s m n i j : ℕ) → r % 4 ≡ 0 → s % 4 ≡ 0 → m < 2 → n < 2 → i < 2 → j < 2 → r / 4 * 4 + 2 * m + i ≡ s / 4 * 4 + 2 * n + j
    → (i ≡ j) × (m ≡ n) × (r ≡ s)
parts_same r s m n i j a b c d e f h = (omega arith, omega arith, omega arith)

-- ---- flags as they are read

-- the flags again, from what they give
pub flags_again : (n : ℕ) → n < 65536 → bit_and n 65532 / 4 * 4 + 2 * bit (bit_and n 2 == 2) + bit (bit_and n 1 == 1) ≡ n
flags_again n l =
    let high : bit_and n 65532 ≡ n / 4 * 4 = and_high_mask 16 2 (omega arith) n l in
    rw (and_pow n 0, and_pow n 1, high) (grind (arith, nat_tests))

-- ---- records

pub csync_from-fields : (x : CSYNC) → IsReadCsync x → x ≡ csync_from (csync_fields x)
csync_from-fields x h =
    let low = bit_lt x.immediate in
    let high = bit_lt x.soa_minimum in
    let first : csync_flags x % 2 ≡ bit x.immediate = omega (arith, low.0) in
    let then : csync_flags x / 2 % 2 ≡ bit x.soa_minimum = omega (arith, low.0, high.0) in
    let others : csync_flags x / 4 * 4 ≡ x.reserved_flags = omega (arith, low.0, high.0, h.reserved) in
    rw (first, then, others, ← low.1, ← high.1) refl

pub csync_fields-from : (vs : Values csync_shape) → csync_fields (csync_from vs) ≡ vs
csync_fields-from vs = ap (λ (n : ℕ). (vs.0, (n, vs.1.1))) (rw (of_bit (vs.1.0 % 2) (omega arith), of_bit (vs.1.0 / 2 % 2) (omega arith))
    (omega arith))

pub csync_from-read : (vs : Values csync_shape) → IsReadCsync (csync_from vs)
csync_from-read vs = record { reserved = omega arith }

pub csync_keys-same : (a b : CSYNC) → IsReadCsync a → IsReadCsync b
    → Same csync_key_shape (csync_keys a) (csync_keys b) ↔ Same csync_shape (csync_fields a) (csync_fields b)
csync_keys-same a b x y = (
  λ s. (s.0, (record { is = rw (s.1.0.is, s.1.1.0.is, s.1.1.1.0.is) refl }, (s.1.1.1.1.0, tt))),
  λ s.
      let k = parts_same a.reserved_flags b.reserved_flags (bit a.soa_minimum) (bit b.soa_minimum) (bit a.immediate) (bit b.immediate) x.reserved y.reserved
      (bit_lt a.soa_minimum).0 (bit_lt b.soa_minimum).0 (bit_lt a.immediate).0 (bit_lt b.immediate).0 s.1.0.is in
      (s.0, (record { is = k.0 }, (record { is = k.1 }, (record { is = k.2 }, (s.1.1.0, tt))))),
)

-- ---- the order: serial and flags decide if they do not tie

pub numbers_decide : (a b : CSYNC) (o : Ordering)
    → o ≡ ordering_then (ordering_then Equal (field_cmp (Number 4) a.soa_serial b.soa_serial)) (field_cmp (Number 2) (csync_flags a) (csync_flags b))
    → o ≢ Equal → o ≡ canonical_cmp csync_shape (csync_fields a) (csync_fields b)
numbers_decide a b o e apart =
    let types = field_cmp Bitmap a.type_bit_maps b.type_bit_maps in
    then_kept o types apart
    ∙ ap (λ (t : Ordering). ordering_then t types) e
    ∙ fields_decide csync_shape (csync_fields a) (csync_fields b) (tt, (tt, (tt, tt)))

-- ---- reading: serial and flags were taken, and then the types

-- the types are not read
pub types_stop : (m : ℕ) {n serial flags : ℕ} {e : DecodeError} {old a b c : Reading} → Given old n → TookField old (Number 4) serial a
    → TookField a (Number 2) flags b → m + 6 ≡ n → Refused e b set_shape (λ vs q. (q ≡ b.index + m) × Unit {0}) c → ReadsRow csync_facts n (Err e) old c
types_stop m {n} {e = e} {old} {c = c} g f h all r = exact_row csync_facts (Err e) old c n tt refl g (refused_then f tt (refused_then h tt (record {
  behind = r.behind;
  none = unless_map e _ _ (λ l. record { none = λ vs q s k. l.none vs q s (omega (arith, k.0, all, took_number f, took_number h), tt) }) r.none;
})))

-- they end with the RDATA
pub csync_read : (m : ℕ) {n serial flags : ℕ} (x : CSYNC) {types : List ℕ} {old a b c : Reading} → Given old n → TookField old (Number 4) serial a
    → TookField a (Number 2) flags b → m + 6 ≡ n → AreKnownFlags flags → Took b set_shape (set_fields types) c × ((c.index ≡ b.index + m) × Unit {0})
    → csync_fields x ≡ (serial, (flags, (types, tt))) → ReadsRow csync_facts n (Ok x) old c
csync_read m {n} x {old = old} {c = c} g f h all known t fields = exact_row csync_facts (Ok x) old c n tt refl g
    (subst (λ (vs : Values csync_shape). Took old csync_shape vs c × ((c.index ≡ old.index + n) × MeetsRow rows.CSYNC vs)) (sym fields)
    (took_then f (took_then h t.0), (omega (arith, t.1.0, all, took_number f, took_number h), (known, tt))))
