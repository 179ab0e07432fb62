-- Views are ordered by their types and canonical octets.
use Rattle.std.proofs.Common.{◌≡◌, ◌↔◌, ◌+◌, ◌==◌, ◌&&◌, ℕ, zero, suc, Bool, true, false, true≢false, List, [], ◌∷◌, ◌++◌, length, take, drop, IsTrue, refl, sym, ap, ◌∙◌, arith, subst}
use Rattle.std.proofs.{Math.Logic.∥∥₁_elim, lemmas.Slice.Eq.bytes_eq-Decides, lemmas.Bool.cases_Bool, Common.⊎_elim}
use Rattle.std.specs.{Ordering.nat_cmp, Ordering.ordering_then, Ordering.is_eq, Ordering.is_ne, Ordering.Ordering-set, Cmp.Lexicographic.slice_cmp, Cmp.Lexicographic.pointwise, Cmp.first_so, Cmp.second_so, Cmp.tied_itself, declared.cmp.Ordering.Ordering}
use Rattle.std.specs.declared.cmp.Ordering.TheVariants.{Less, Equal, Greater}
use Rattle.std.specs.Coded.{Coded-set, coded_list, coded_ℕ, ×_prop}
use Rattle.dns_types.specs.declared.record_type.RecordType.{RecordType}
use Rattle.dns_types.specs.contracts.record_type.RecordTypeOrd.TheImpl.Laws as type_laws
use Rattle.dns_types.proofs.RecordTypeLaws.{code_of-Decides}
use Rattle.dns_fields.specs.Fields.{canonical}
use Rattle.dns_rows.specs.{declared.row.Part.Part, Table.kinds_of, Table.table}
use Rattle.dns_check.specs.{Checks.FillsRow, Rows.HasRow}
use Rattle.dns_view.specs.Putting.{Put}
use Rattle.dns_rdata.specs.{Data.parts_of, Data.Fills, Data.data_octets, Equal.equal, Equal.record_type_eq, Order.record_type_cmp, Order.rdata_cmp, Ties.rdata_ties}
use Rattle.dns_rdata.specs.{declared.record_data.RData.RData, declared.view.RDataRef.RDataRef, Views.IsViewOf}
use Rattle.dns_rdata.proofs.{OrderReads.orders_read, Views.view_canonical, Views.view_apart}
use Rattle.dns_rdata.specs.ViewOrder.{octets_shown, octets_are, type_shown, view_cmp, view_eq, view_ties}

-- the same by a row that is that of the view
octets_by : (r : RDataRef) {row : List Part} → r.view.row.now ≡ row → (h : HasRow r.view.message.now r.view.offset row (r.view.offset + r.view.len))
    → octets_shown r ≡ canonical (kinds_of row) h.values
octets_by r e = subst (λ (row : List Part). (h : HasRow r.view.message.now r.view.offset row (r.view.offset + r.view.len)) → octets_shown r ≡ canonical (kinds_of row) h.values)
    e (octets_are r)

-- views of one type have one row
rows_same : (r s : RDataRef) → type_shown r ≡ type_shown s → ∥ r.view.row.now ≡ s.view.row.now ∥₁
rows_same r s e = ∥∥₁_elim r.row squash₁ (λ a. ∥∥₁_elim s.row squash₁ (λ b. ∣ a ∙ ap (λ (t : RecordType). parts_of (table t)) e ∙ sym b ∣₁))

-- what is the order by the fields that fill the rows is that by the octets shown
compared : (r s : RDataRef) (o : Ordering) → type_shown r ≡ type_shown s
    → (r.view.row.now ≡ s.view.row.now → (h : HasRow r.view.message.now r.view.offset r.view.row.now (r.view.offset + r.view.len))
    (k : HasRow s.view.message.now s.view.offset r.view.row.now (s.view.offset + s.view.len))
    → o ≡ slice_cmp nat_cmp (canonical (kinds_of r.view.row.now) h.values) (canonical (kinds_of r.view.row.now) k.values))
    → o ≡ slice_cmp nat_cmp (octets_shown r) (octets_shown s)
compared r s o e told = ∥∥₁_elim (rows_same r s e) (Ordering-set _ _) (λ rows.
    ∥∥₁_elim r.view.fills (Ordering-set _ _) (λ f.
    ∥∥₁_elim (subst (λ (row : List Part). ∥ FillsRow s.view.message.now s.view.offset s.view.len row ∥₁) (sym rows) s.view.fills) (Ordering-set _ _) (λ g.
    told rows f.has g.has
    ∙ ap (λ (x : List ℕ). slice_cmp nat_cmp x (canonical (kinds_of r.view.row.now) g.has.values)) (sym (octets_are r f.has))
    ∙ ap (slice_cmp nat_cmp (octets_shown r)) (sym (octets_by s (sym rows) g.has)))))

not_other : (o : Ordering) → is_ne o ≡ false → o ≡ Equal
not_other Less h = absurd (true≢false h)
not_other Equal h = refl
not_other Greater h = absurd (true≢false h)

types_tied : (a b : RecordType) → record_type_cmp a b ≡ Equal → a ≡ b
types_tied a b tied = (code_of-Decides a b).0 (type_laws.matches_eq-law a b ∙ ap is_eq tied)

-- views whose types tie are ordered by octets
pub then_octets : (r s : RDataRef) (types o : Ordering) → types ≡ record_type_cmp (type_shown r) (type_shown s) → is_ne types ≡ false
    → (r.view.row.now ≡ s.view.row.now → (h : HasRow r.view.message.now r.view.offset r.view.row.now (r.view.offset + r.view.len))
    (k : HasRow s.view.message.now s.view.offset r.view.row.now (s.view.offset + s.view.len))
    → o ≡ slice_cmp nat_cmp (canonical (kinds_of r.view.row.now) h.values) (canonical (kinds_of r.view.row.now) k.values))
    → o ≡ view_cmp r s
then_octets r s types o is same told =
    let tied : record_type_cmp (type_shown r) (type_shown s) ≡ Equal = sym is ∙ not_other types same in
    compared r s o (types_tied (type_shown r) (type_shown s) tied) told
    ∙ ap (λ (t : Ordering). ordering_then t (slice_cmp nat_cmp (octets_shown r) (octets_shown s))) (sym tied)

-- ---- what was put into a buffer that may be too short

front_at : (n : ℕ) (xs rest : List ℕ) → take (length xs) (take n (xs ++ rest)) ≡ take n xs
front_at zero [] rest = refl
front_at zero (x ∷ xs) rest = refl
front_at (suc n) [] rest = refl
front_at (suc n) (x ∷ xs) rest = ap (λ (s : List ℕ). x ∷ s) (front_at n xs rest)

fronts : {old new octets : List ℕ} {count : ℕ} (n : ℕ) → length old ≡ n → Put old new 0 count octets → (count ≡ length octets) × (take count new ≡ take n octets)
fronts {old} {new} {octets} {count} n room p =
    let all : count ≡ length octets = omega (arith, p.ends) in
    let written : new ≡ take n (octets ++ drop count old) = p.written ∙ ap (λ (k : ℕ). take k (octets ++ drop count old)) room in
    (all, ap (take count) written ∙ ap (λ (k : ℕ). take k (take n (octets ++ drop count old))) all ∙ front_at n octets (drop count old))

pub put_shown : (r : RDataRef) {old new : List ℕ} {count : ℕ} (n : ℕ) → length old ≡ n
    → ((h : HasRow r.view.message.now r.view.offset r.view.row.now (r.view.offset + r.view.len)) → Put old new 0 count (canonical (kinds_of r.view.row.now) h.values))
    → (count ≡ length (octets_shown r)) × (take count new ≡ take n (octets_shown r))
put_shown r {old} {new} {count} n room put = ∥∥₁_elim r.view.fills (×_prop (Coded-set coded_ℕ _ _) (Coded-set (coded_list coded_ℕ) _ _)) (λ f.
    fronts n room (subst (λ (s : List ℕ). Put old new 0 count s) (sym (octets_are r f.has)) (put f.has)))

-- ---- equality

-- the order is Equal exactly if types and octets are the same
pub told_equal : (r s : RDataRef) (b : Bool) → b ≡ view_eq r s → IsTrue b ↔ ((type_shown r ≡ type_shown s) × (octets_shown r ≡ octets_shown s))
told_equal r s b is =
    let types = code_of-Decides (type_shown r) (type_shown s) in
    let octets = bytes_eq-Decides (octets_shown r) (octets_shown s) in (
      λ h. let e : view_eq r s ≡ true = sym is ∙ h in
          (types.0 (first_so _ (pointwise ◌==◌ (octets_shown r) (octets_shown s)) e), octets.0 (second_so (record_type_eq (type_shown r) (type_shown s)) _ e)),
      λ h. is ∙ both_so (types.1 h.0) (octets.1 h.1),
    ) where
      both_so : {a b : Bool} → a ≡ true → b ≡ true → (a && b) ≡ true
      both_so {a} {b} p q = (λ i. p i && q i)

-- ---- views of values that were read

shown_is : {m : List ℕ} {p n : ℕ} {t : RecordType} {v : RData} {r : RDataRef} → IsViewOf m p n t r → Fills m p n t v → octets_shown r ≡ data_octets v
shown_is {m} {p} {n} {t} {v} {r} is f = view_canonical (λ (o : List ℕ). octets_shown r ≡ o) m p n t v r is f (octets_are r)

-- views of one type are ordered as their values
pub ordered_as : {m l : List ℕ} {p n q k : ℕ} {t u : RecordType} {v w : RData} {r s : RDataRef} {o : Ordering} → o ≡ view_cmp r s → IsViewOf m p n t r → Fills m p n t v
    → IsViewOf l q k u s → Fills l q k u w → t ≡ u → o ≡ rdata_cmp v w
ordered_as {m} {l} {p} {n} {q} {k} {t} {u} {v} {w} {r} {s} is a f b g e =
    let tied : record_type_cmp (type_shown r) (type_shown s) ≡ Equal =
    ap (record_type_cmp (type_shown r)) (b.type ∙ sym e ∙ sym a.type) ∙ tied_itself type_laws.total-law (type_shown r) in
    is ∙ ap (λ (x : Ordering). ordering_then x (slice_cmp nat_cmp (octets_shown r) (octets_shown s))) tied
    ∙ ap (λ (x : List ℕ). slice_cmp nat_cmp x (octets_shown s)) (shown_is a f) ∙ ap (slice_cmp nat_cmp (data_octets v)) (shown_is b g)
    ∙ sym (orders_read v w u m p n l q k (subst (λ (x : RecordType). Fills m p n x v) e f) g)

-- views are equal exactly if their values are
pub equal_as : {m l : List ℕ} {p n q k : ℕ} {t u : RecordType} {v w : RData} {r s : RDataRef} {b : Bool} → b ≡ view_eq r s → IsViewOf m p n t r → Fills m p n t v
    → IsViewOf l q k u s → Fills l q k u w → b ≡ equal v w
equal_as {t = t} {u} {v} {w} {r} {s} {b} is a f c g = ⊎_elim
    (λ (h : record_type_eq t u ≡ true). is ∙ view_ties r s ∙ ap is_eq (ordered_as {o = view_cmp r s} refl a f c g ((code_of-Decides t u).0 h)) ∙ sym (rdata_ties v w))
    (λ (h : record_type_eq t u ≡ false).
    let types : record_type_eq (type_shown r) (type_shown s) ≡ false =
    ap (λ (x : RecordType). record_type_eq x (type_shown s)) a.type ∙ ap (record_type_eq t) c.type ∙ h in
    is ∙ ap (λ (x : Bool). x && pointwise ◌==◌ (octets_shown r) (octets_shown s)) types
    ∙ view_apart v w f g (λ e. true≢false (sym ((code_of-Decides t u).1 e) ∙ h))) (cases_Bool (record_type_eq t u))
