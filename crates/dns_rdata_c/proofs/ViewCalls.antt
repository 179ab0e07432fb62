-- What the calls give of RDATA that is looked at in the message.
use Rattle.std.proofs.Common.{◌≡◌, ℕ, ◌<◌, ◌≤◌, inl, inr, ℤ, pos, to_z, of_z, w32, List, ◌++◌, length, take, drop, Some, None, refl, sym, ap, ◌∙◌, arith, subst, ◌≢◌, ◌+◌, ◌-◌, Ok, Err, IfErr}
use Rattle.std.specs.declared.cmp.Ordering.TheVariants as orderings
use Rattle.std.proofs.lemmas.{Cmp.nat_list_cmp_total, Cmp.tied_itself, Map.Lookups.exact_bytes}
use Rattle.std.proofs.lemmas.{List.take_all, List.take-append-le, List.append-nil, List.drop_all, Bool.cases_lt}
use Rattle.std.{specs.declared.cmp.Ordering.Ordering, specs.Prelude.OnOk, specs.Prelude.MatchResult, proofs.lemmas.Bool.Decides.eqb_tells}
use Rattle.dns_types.specs.declared.record_type.RecordType.{RecordType}
use Rattle.dns_types.specs.declared.error.DecodeError.TheVariants as decode
use Rattle.dns_fields.{specs.Labels.DomainName, specs.Names.IsNameIn, specs.declared.Kind.TheVariants.Name, proofs.Laws.one_end}
use Rattle.dns_view.specs.{Putting.Put, NameFields.ShowsNameAt, declared.name.name_ref.NameRef.NameRef}
use Rattle.dns_view.proofs.Puts.{put_fits}
use Rattle.dns_rdata.specs.{declared.record_data.RData.RData, declared.view.RDataRef.RDataRef, Data.Fills, Data.fields_of, Data.data_octets, Views.IsViewOf, Views.ComparesAs}
use Rattle.dns_rdata.proofs.{OrderReads.orders_read}
use Rattle.dns_rdata_c.specs.{Reading.HasData, Buffers.IsPut, Buffers.HoldsFirst, Buffers.IsTooMany, Names.HasName, Calls.HasOrder, Calls.HasEquality, Calls.order_number, Calls.octets_order, Reading.Own, Calls.IsNoOrigin}
use Rattle.dns_names_wire.specs.{State.Reading, Terms.StaysBehind}
use Rattle.dns_rdata_base.specs.Counted.{by_length}

-- a view is of a value
pub has_data : {m : List ℕ} {p n : ℕ} {t : RecordType} {r : RDataRef} (P : RData → Type 0) → IsViewOf m p n t r → ((v : RData) → Fills m p n t v → P v)
    → HasData m p n t P
has_data P a h = record { value = a.filled.value; fills = a.filled.fills; holds = h a.filled.value a.filled.fills }

-- ---- octets in a buffer

pub is_put : {old new octets : List ℕ} {len count : ℕ} → Put old new 0 len octets → len ≤ length old → count ≡ len → IsPut octets old new count
is_put {old} {new} {octets} {len} p room told =
    let e : len ≡ length octets = omega (arith, p.ends) in
    record { fits = omega (arith, e, room); told = told ∙ e; placed = put_fits p room ∙ ap (λ (k : ℕ). octets ++ drop k old) e }

-- as many as fit
pub holds_first : {old new octets : List ℕ} {len : ℕ} → Put old new 0 len octets → HoldsFirst octets old new
holds_first {old} {new} {octets} {len} p =
    let e : len ≡ length octets = omega (arith, p.ends) in
    let front = take (length old) octets in
    record {
      placed = elim (cases_lt (length old) len) [
        | inl short ↦ p.written ∙ take-append-le (length old) octets (drop len old) (omega (arith, e, short)) ∙ sym (append-nil front)
            ∙ ap (λ (s : List ℕ). front ++ s) (sym (drop_all (length octets) old (omega (arith, e, short))))
        | inr room ↦ put_fits p room ∙ ap (λ (k : ℕ). octets ++ drop k old) e
            ∙ ap (λ (s : List ℕ). s ++ drop (length octets) old) (sym (take_all (length old) octets (omega (arith, e, room))))
      ];
    }

pub too_many : {old octets : List ℕ} {len count : ℕ} → len ≡ length octets → length old < len → count ≡ len → IsTooMany octets old old count
too_many e full told = record { full = omega (arith, e, full); told = told ∙ e; same = refl }

-- ---- the order of two

-- a number of an order is the same once it is passed
passed : (o : Ordering) → to_z w32 (of_z w32 (order_number o)) ≡ order_number o
passed orderings.Less = refl
passed orderings.Equal = refl
passed orderings.Greater = refl

pub has_order : {m l : List ℕ} {p n q k : ℕ} {t u : RecordType} {r s : RDataRef} {o : Ordering} → IsViewOf m p n t r → IsViewOf l q k u s
    → ((v w : RData) → Fills m p n t v → Fills l q k u w → ComparesAs t u v w (Some o)) → HasOrder t m p n l q k (to_z w32 (of_z w32 (order_number o)))
has_order {m} {l} {p} {n} {q} {k} {t} a b h =
    let both = h _ _ a.filled.fills b.filled.fills in
    let other = subst (λ (x : RecordType). Fills l q k x b.filled.value) (sym both.0) b.filled.fills in
    record {
      value = a.filled.value;
      other = b.filled.value;
      fills = a.filled.fills;
      other_fills = other;
      is_order = passed _ ∙ ap order_number (both.1 ∙ orders_read _ _ t m p n l q k a.filled.fills other);
    }

-- ---- whether two are equal

zero_is : (o : Ordering) → of_z w32 (order_number o) ≡ 0 → o ≡ orderings.Equal
zero_is orderings.Less e = absurd (omega (arith, e))
zero_is orderings.Equal e = refl
zero_is orderings.Greater e = absurd (omega (arith, e))

pub has_equality : {m l : List ℕ} {p n q k : ℕ} {t : RecordType} {o : ℤ} → HasOrder t m p n l q k o
    → (of_z w32 o ≡ 0 → HasEquality t m p n l q k (pos 1)) × (¬ (of_z w32 o ≡ 0) → HasEquality t m p n l q k (pos 0))
has_equality h =
    let a = data_octets h.value in
    let equal = λ (b : List ℕ) (e : a ≡ b). subst (λ (s : List ℕ). octets_order a s ≡ pos 0) e (ap order_number (tied_itself nat_list_cmp_total a)) in (
      λ e. record { value = h.value; other = h.other; fills = h.fills; other_fills = h.other_fills; tells = inl (refl, exact_bytes _ _ (zero_is _ (ap (of_z w32) (sym h.is_order) ∙ e))) },
      λ d. record { value = h.value; other = h.other; fills = h.fills; other_fills = h.other_fills; tells = inr (refl, λ e. d (ap (of_z w32) (h.is_order ∙ equal (data_octets h.other) e))) },
    )

-- ---- names

pub has_name : {m : List ℕ} {p n : ℕ} {t : RecordType} {r : RDataRef} {i : ℕ} {x : NameRef} (P : ℕ → DomainName → Type 0) → IsViewOf m p n t r
    → ((v : RData) → Fills m p n t v → ShowsNameAt m p (fields_of v).kinds (fields_of v).values i x)
    → ((name : DomainName) (end : ℕ) → IsNameIn x.message.now x.offset name end → P x.offset name) → HasName m p n t i P
has_name {m} {p} {n} {t} {r} {i} {x} P a shows h =
    let s = shows a.filled.value a.filled.fills in
    record {
      value = a.filled.value;
      fills = a.filled.fills;
      offset = x.offset;
      name = s.name;
      is_name = s.at;
      holds = h s.name s.end (subst (λ (o : List ℕ). IsNameIn o x.offset s.name s.end) (sym s.message) s.is);
    }

-- ---- an origin

-- a name that ends before the octets do
pub no_origin : (octets : List ℕ) (name : DomainName) (old new : Reading) → old ≡ record { message = octets; index = 0 } → StaysBehind old new
    → IsNameIn old.message old.index name new.index → ¬ (new.index ≡ length new.message) → IsNoOrigin octets
no_origin octets name old new start behind stands not_end = λ x is.
    let there : IsNameIn octets 0 name new.index = subst (λ (d : Reading). IsNameIn d.message d.index name new.index) start stands in
    let same : new.index ≡ length octets = one_end octets 0 Name name x new.index (length octets) tt (record { is = there }) (record { is = is }) in
    let message : new.message ≡ octets = behind.message ∙ ap (λ (d : Reading). d.message) start in
    not_end (same ∙ ap length (sym message))

-- ---- a record's own result, and the count of its octets

pub counted : (own : Own) (old new n : ℕ) (P Q : Type 0) {r : Own} → r ≡ by_length own (new - old) n → old ≤ new → OnOk own (new ≡ old + n → P)
    → OnOk own (new ≢ old + n → Q) → IfErr own (λ e. Q) → IfErr own (λ e. e ≢ decode.Memory) → MatchResult r (λ x. P) (λ e. Q × (e ≢ decode.Memory))
counted own old new n P Q e before whole other bad some = rw e (of own whole other bad some) where
  of : (own : Own) → OnOk own (new ≡ old + n → P) → OnOk own (new ≢ old + n → Q) → IfErr own (λ e. Q) → IfErr own (λ e. e ≢ decode.Memory)
      → MatchResult (by_length own (new - old) n) (λ x. P) (λ e. Q × (e ≢ decode.Memory))
  of (Ok x) whole other bad some = elim (eqb_tells (new - old) n) [
    | inl h ↦ rw h.0 (whole (omega (arith, before, h.1)))
    | inr h ↦ rw h.0 (other (λ k. h.1 (omega (arith, before, k))), λ m. absurd cc)
  ]
  of (Err decode.Memory) whole other bad some = absurd (some refl)
  of (Err (decode.UnknownRecordTypeValue number)) whole other bad some = (bad, some)
  of (Err x) whole other bad some = elim (eqb_tells (new - old) n) [ inl h ↦ rw h.0 (bad, some) | inr h ↦ rw h.0 (bad, λ m. absurd cc) ]
