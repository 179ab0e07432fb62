-- Equality, order and hash of views: by type, and of one type by canonical octets.
use Rattle.std.specs.Prelude.{◌≡◌, ◌==◌, ℕ, ◌+◌, Bool, true, List, [], ◌∷◌, ◌++◌, length, take}
use Rattle.std.specs.{Ordering.on, Ordering.then_cmp, Ordering.eq_of_both, Ordering.nat_cmp, Ordering.is_eq, declared.cmp.Ordering.Ordering}
use Rattle.std.specs.Cmp.{IsEquivalence, IsTotalOrder, then_total, on_total, and_equiv, on_equiv, both_tied, first_so, second_so}
use Rattle.std.specs.Cmp.Lexicographic.{slice_cmp, pointwise, nat_list_cmp_total, on_texts_equal, texts_ties}
use Rattle.std.specs.Hash as fed
use Rattle.std.specs.Hash.{HashWrites}
use Rattle.std.specs.Coded.{Coded-set, coded_list, coded_ℕ, Π_prop}
use Rattle.std.proofs.Common.{sym, ap, ◌∙◌}
use Rattle.std.proofs.{Math.Logic.∥∥₁_elim, lemmas.Slice.Eq.bytes_eq-Decides}
use mathlib.Core.HLevel.{Σ_prop_path}
use Rattle.dns_types.specs.declared.record_type.RecordType.{RecordType}
use Rattle.dns_types.specs.contracts.record_type.RecordTypeEq.TheImpl.Laws as type_eq_laws
use Rattle.dns_types.specs.contracts.record_type.RecordTypeOrd.TheImpl.Laws as type_laws
use Rattle.dns_types.specs.contracts.record_type.RecordTypeHash.TheImpl as type_hash
use Rattle.dns_types.specs.contracts.record_type.RecordTypeHash.TheImpl.Laws as type_hash_laws
use Rattle.dns_fields.specs.{Fields.canonical, Laws.IsShape}
use Rattle.dns_fields.proofs.Laws.{stands_same}
use Rattle.dns_rows.specs.{declared.row.Part.Part, Table.kinds_of}
use Rattle.dns_check.specs.{Checks.FillsRow, Rows.HasRow, Rows.IsRow, Rows.is_row}
use Rattle.dns_check.proofs.RowTests.{row_tested}
use Rattle.dns_rdata.specs.{Equal.record_type_eq, Order.record_type_cmp, declared.view.RDataRef.RDataRef}

-- ---- the canonical octets of what a view shows

-- octets, and that they are those of all fields of the row that are encoded from p to the end
abbrev pub RowOctets : List ℕ → ℕ → List Part → ℕ → Type 0
RowOctets m p row end = (octets : List ℕ) × ((h : HasRow m p row end) → octets ≡ canonical (kinds_of row) h.values)

shape_of : (row : List Part) → IsRow row → IsShape (kinds_of row)
shape_of [] h = tt
shape_of (p ∷ []) h = tt
shape_of (p ∷ (l ∷ row)) h = (h.0, shape_of (l ∷ row) h.1)

one_list : (m : List ℕ) (p n : ℕ) (row : List Part) → ∥ FillsRow m p n row ∥₁ → IsProp (RowOctets m p row (p + n))
one_list m p n row fills a b = Σ_prop_path (λ s. Π_prop (λ h. Coded-set (coded_list coded_ℕ) _ _))
    (∥∥₁_elim fills (Coded-set (coded_list coded_ℕ) _ _) (λ f. a.1 f.has ∙ sym (b.1 f.has)))

-- those of the fields that fill n octets: fields that are encoded there are one list
pub row_octets : (m : List ℕ) (p n : ℕ) (row : List Part) → ∥ FillsRow m p n row ∥₁ → is_row row ≡ true → RowOctets m p row (p + n)
row_octets m p n row fills checked = ∥∥₁_elim fills (one_list m p n row fills) (λ f. (
  canonical (kinds_of row) f.has.values,
  λ h. ap (canonical (kinds_of row)) (stands_same m p (kinds_of row) f.has.values h.values (p + n) (shape_of row (row_tested row checked).ordered)
      f.has.stands h.stands),
))

-- the canonical octets of the fields that fill the RDATA of a view
unfoldable pub octets_shown : RDataRef → List ℕ
octets_shown r = (row_octets r.view.message.now r.view.offset r.view.len r.view.row.now r.view.fills r.view.checked).0

pub octets_are : (r : RDataRef) (h : HasRow r.view.message.now r.view.offset r.view.row.now (r.view.offset + r.view.len))
    → octets_shown r ≡ canonical (kinds_of r.view.row.now) h.values
unfolding octets_shown
octets_are r = (row_octets r.view.message.now r.view.offset r.view.len r.view.row.now r.view.fills r.view.checked).1

abbrev pub type_shown : RDataRef → RecordType
type_shown r = r.view.record_type

-- ---- equality and order

-- of one type, with the same canonical octets
abbrev pub view_eq : RDataRef → RDataRef → Bool
view_eq = eq_of_both (on type_shown record_type_eq) (on octets_shown (pointwise ◌==◌))

-- by type, and of one type by canonical octets
abbrev pub view_cmp : RDataRef → RDataRef → Ordering
view_cmp = then_cmp (on type_shown record_type_cmp) (on octets_shown (slice_cmp nat_cmp))

pub view_equiv : IsEquivalence view_eq
view_equiv = and_equiv (on_equiv type_shown type_eq_laws.laws-law) (on_texts_equal octets_shown)

pub view_total : IsTotalOrder view_cmp
view_total = then_total (on_total type_shown type_laws.total-law) (on_total octets_shown nat_list_cmp_total)

pub view_ties : (a b : RDataRef) → view_eq a b ≡ is_eq (view_cmp a b)
view_ties a b = both_tied (record_type_eq (type_shown a) (type_shown b)) (pointwise ◌==◌ (octets_shown a) (octets_shown b))
    (record_type_cmp (type_shown a) (type_shown b)) (slice_cmp nat_cmp (octets_shown a) (octets_shown b))
    (type_laws.matches_eq-law (type_shown a) (type_shown b)) (texts_ties (octets_shown a) (octets_shown b))

-- ---- what views feed a hasher

-- how many octets there are, and the first 1,024 of them
abbrev pub octets_fed : List ℕ → HashWrites
octets_fed octets = fed.usize (length octets) ++ take 1024 octets ∷ []

-- the type, and the canonical octets
abbrev pub view_fed : RDataRef → HashWrites
view_fed r = type_hash.ghosts.hash_input (type_shown r) ++ octets_fed (octets_shown r)

pub view_fed_same : (a b : RDataRef) → view_eq a b ≡ true → view_fed a ≡ view_fed b
view_fed_same a b h =
    let types = type_hash_laws.respects_eq-law (type_shown a) (type_shown b) (first_so _ (pointwise ◌==◌ (octets_shown a) (octets_shown b)) h) in
    let octets : octets_shown a ≡ octets_shown b =
    (bytes_eq-Decides (octets_shown a) (octets_shown b)).0 (second_so (record_type_eq (type_shown a) (type_shown b)) _ h) in
    ap (λ (f : HashWrites). f ++ octets_fed (octets_shown a)) types ∙ ap (λ (s : List ℕ). type_hash.ghosts.hash_input (type_shown b) ++ octets_fed s) octets
