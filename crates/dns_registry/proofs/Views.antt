-- What a view shows of RDATA, by the format of the type.
use Rattle.std.proofs.Common.{◌≡◌, ℕ, ◌+◌, List, Some, slice_get, sym, ◌∙◌, ap, subst}
use Rattle.dns_types.specs.{declared.record_type.RecordType.RecordType, RecordTypes.number_of}
use Rattle.dns_rows.specs.declared.row.Part.{Part}
use Rattle.dns_names_wire.specs.{State.Reading}
use Rattle.dns_check.specs.{Rows.HasRow, Checks.FillsRow}
use Rattle.dns_view.specs.{ViewOf.IsViewOf, declared.row.view.RowView.RowView}
use Rattle.dns_registry.specs.declared.rule.FieldRule.{FieldRule}
use Rattle.dns_registry.specs.declared.typed.TypedRef.{TypedRef}
use Rattle.dns_registry.specs.{Formats.FormatRow, Formats.AllPass}
use Rattle.dns_registry.specs.Typed.{IsQuestionType, PassesAt, FirstPass, RejectsField, NotTyped, IsTypedViewOf, format_at}
use Rattle.dns_registry.proofs.Passing.{all_at}

-- what holds of a view holds of its message, its offset, its length and its row
pub view_tells : (P : (m : List ℕ) (p n : ℕ) (parts : List Part) → HasRow m p parts (p + n) → Type 0) (m : List ℕ) (p n : ℕ) (parts : List Part)
    (r : RowView) → IsViewOf (record { message = m; index = p }) n parts r
    → ((h : HasRow r.message.now r.offset r.row.now (r.offset + r.len)) → P r.message.now r.offset r.len r.row.now h)
    → (h : HasRow m p parts (p + n)) → P m p n parts h
view_tells P m p n parts r is f =
    let a = subst (λ (x : List ℕ). (h : HasRow x r.offset r.row.now (r.offset + r.len)) → P x r.offset r.len r.row.now h) is.message f in
    let b = subst (λ (x : ℕ). (h : HasRow m x r.row.now (x + r.len)) → P m x r.len r.row.now h) is.offset a in
    let c = subst (λ (x : ℕ). (h : HasRow m p r.row.now (p + x)) → P m p x r.row.now h) is.len b in
    subst (λ (x : List Part). (h : HasRow m p x (p + n)) → P m p n x h) is.row c

-- the octets that it shows are filled
pub view_fills : (m : List ℕ) (p n : ℕ) (parts : List Part) (r : RowView) → IsViewOf (record { message = m; index = p }) n parts r → FillsRow m p n parts
view_fills m p n parts r is =
    let a = subst (λ (x : List ℕ). FillsRow x r.offset r.len r.row.now) is.message is.fills in
    let b = subst (λ (x : ℕ). FillsRow m x r.len r.row.now) is.offset a in
    let c = subst (λ (x : ℕ). FillsRow m p x r.row.now) is.len b in
    subst (λ (x : List Part). FillsRow m p n x) is.row c

-- the rules that each field passes
abbrev pub AllShown : RowView → List FieldRule → Type 0
AllShown r rules = (h : HasRow r.message.now r.offset r.row.now (r.offset + r.len)) → AllPass r.message.now r.offset r.row.now rules h.values (r.offset + r.len) h.stands

abbrev pub FirstShown : RowView → List FieldRule → ℕ → Type 0
FirstShown r rules i = (h : HasRow r.message.now r.offset r.row.now (r.offset + r.len)) → FirstPass i rules r.message.now r.offset r.row.now h.values (r.offset + r.len) h.stands

abbrev pub FailsShown : RowView → List FieldRule → ℕ → Type 0
FailsShown r rules i = (rule : FieldRule) → slice_get rules i ≡ Some rule → (h : HasRow r.message.now r.offset r.row.now (r.offset + r.len))
    → PassesAt i rule r.message.now r.offset r.row.now h.values (r.offset + r.len) h.stands → ⊥

-- A view by the format of the type.
module _ (m : List ℕ) (p n : ℕ) (t : RecordType) (row : FormatRow) (same : row ≡ format_at m p n t) (r : RowView)
    (is : IsViewOf (record { message = m; index = p }) n row.parts r) where
  pub row_filled : FillsRow m p n row.parts
  row_filled = view_fills m p n row.parts r is

  abbrev Filled : FormatRow → Type 0
  Filled x = (f : FillsRow m p n x.parts) × AllPass m p x.parts x.rules f.has.values (p + n) f.has.stands

  pub typed_view : (IsQuestionType (number_of t) → ⊥) → r.record_type ≡ t → AllShown r row.rules → (v : TypedRef) → v.view ≡ r → v.rules.now ≡ row.rules
      → IsTypedViewOf m p n t v
  typed_view read type all v view rules =
      let fills = row_filled in
      let pass : AllPass m p row.parts row.rules fills.has.values (p + n) fills.has.stands =
      view_tells (λ (l : List ℕ) (q k : ℕ) (parts : List Part) (h : HasRow l q parts (q + k)). AllPass l q parts row.rules h.values (q + k) h.stands)
      m p n row.parts r is all fills.has in
      let both : Filled (format_at m p n t) = subst Filled same (fills, pass) in
      record {
        type = ap (λ (x : RowView). x.record_type) view ∙ type;
        rules = rules ∙ ap (λ (x : FormatRow). x.rules) same;
        view = subst (λ (x : RowView). IsViewOf (record { message = m; index = p }) n (format_at m p n t).parts x) (sym view)
            (subst (λ (x : FormatRow). IsViewOf (record { message = m; index = p }) n x.parts r) same is);
        typed = record { read = read; fills = record { fills = both.0; pass = both.1 } };
      }

  shown_fails : (i : ℕ) (rule : FieldRule) → slice_get row.rules i ≡ Some rule → FailsShown r row.rules i → (h : HasRow m p row.parts (p + n))
      → PassesAt i rule m p row.parts h.values (p + n) h.stands → ⊥
  shown_fails i rule at fails =
      view_tells (λ (l : List ℕ) (q k : ℕ) (parts : List Part) (h : HasRow l q parts (q + k)). PassesAt i rule l q parts h.values (q + k) h.stands → ⊥)
      m p n row.parts r is (fails rule at)

  pub rejects : (i : ℕ) (rule : FieldRule) → slice_get row.rules i ≡ Some rule → FirstShown r row.rules i → FailsShown r row.rules i
      → RejectsField m p n (format_at m p n t) i
  rejects i rule at before fails =
      let fills = row_filled in
      subst (λ (x : FormatRow). RejectsField m p n x i) same (record {
        fills = fills;
        rule = rule;
        is_rule = at;
        before = view_tells (λ (l : List ℕ) (q k : ℕ) (parts : List Part) (h : HasRow l q parts (q + k)).
            FirstPass i row.rules l q parts h.values (q + k) h.stands) m p n row.parts r is before fills.has;
        fails = shown_fails i rule at fails fills.has;
      })

  pub not_typed : (i : ℕ) (rule : FieldRule) → slice_get row.rules i ≡ Some rule → FailsShown r row.rules i → NotTyped m p n t
  not_typed i rule at fails = record {
    none = λ x.
        let both : Filled row = subst Filled (sym same) (x.fills.fills, x.fills.pass) in
        shown_fails i rule at fails both.0.has (all_at i rule row.rules m p row.parts both.0.has.values (p + n) both.0.has.stands at both.1);
  }

-- no fields of the format fill the octets
pub none_typed : (m : List ℕ) (p n : ℕ) (t : RecordType) (row : FormatRow) → row ≡ format_at m p n t → (FillsRow m p n row.parts → ⊥) → NotTyped m p n t
none_typed m p n t row same none = record {
  none = λ x. none (subst (λ (y : FormatRow). FillsRow m p n y.parts) (sym same) x.fills.fills);
}

pub moved_to : (old new : Reading) (n : ℕ) → new.message ≡ old.message → new.index ≡ old.index + n
    → new ≡ record { message = old.message; index = old.index + n }
moved_to old new n m i = ap (λ (x : List ℕ). record { message = x; index = new.index }) m ∙ ap (λ (x : ℕ). record { message = old.message; index = x }) i
