-- How the octets of a row are put.
use Rattle.std.proofs.Common.{◌≡◌, ℕ, suc, ◌+◌, ◌-◌, ◌*◌, ◌≤◌, ◌<◌, Bool, List, [], ◌∷◌, ◌++◌, length, take, drop, get_or, drop-cons, refl, sym}
use Rattle.std.proofs.Common.{ap, ◌∙◌, arith, subst, append_assoc}
use Rattle.std.proofs.lemmas.List.{append-nil}
use Rattle.dns_fields.specs.declared.Kind.{Kind}
use Rattle.dns_fields.specs.declared.Kind.TheVariants.{Number, Octets, Name, CharacterString, CharacterStrings, Rest}
use Rattle.dns_fields.specs.{Octets.At, Labels.DomainName, Names.IsNameIn, Fields.Value, Fields.Values, Fields.Field, Fields.Stands, Fields.field_octets}
use Rattle.dns_fields.proofs.FieldLaws.{field_inside, field_same, field_end}
use Rattle.dns_names_wire.proofs.{FieldReads.stands_inside, Strings.at_then}
use Rattle.dns_rows.specs.declared.row.{Part.Part}
use Rattle.dns_check.specs.Parts.{Reaches}
use Rattle.dns_rows.specs.{Table.kinds_of}
use Rattle.dns_check.specs.Rows.{IsRow, HasRow}
use Rattle.dns_view.specs.RowOrder.{IsPlain, ArePlain}
use Rattle.dns_view.specs.Putting.{Put, PutName, IsRecoded, form_octets, all_form}
use Rattle.dns_check.proofs.{RowLoop.behind_row, RowLoop.field_reaches, Alone.between_is}
use Rattle.dns_view.proofs.{Puts.put_then, Puts.put_none, Recoded.recoded_alone}
use Rattle.dns_check.proofs.Alone.{slice, slice_at, whole_slice}
use Rattle.dns_view.proofs.RowOrder.{behind_first, none_at, no_more}

-- ---- fields that are copied

copied : {m : List ℕ} {p q : ℕ} (low : Bool) (k : Kind) (v : Value k) → IsPlain k → Field m p k v q → At m p (form_octets low k v) q
unfolding field_octets
copied low (Number w) v h f = f.is.1
copied low (Octets n) v h f = f.is.1
copied low CharacterString v h f = f.is.1
copied low CharacterStrings v h f = f.is.1
copied low Rest v h f = f.is
copied low k v h f = absurd h

all_copied : {m : List ℕ} {p e : ℕ} (low : Bool) (row : List Part) (vs : Values (kinds_of row)) → ArePlain row → e ≤ length m
    → Stands m p (kinds_of row) vs e → At m p (all_form low (kinds_of row) vs) e
all_copied low [] vs h inside s = none_at s inside
all_copied low (part ∷ row) vs h inside s = at_then (copied low part.kind vs.0 h.0 s.1) (all_copied low row vs.1 h.1 inside s.2)

-- ---- the fields so far

-- what is left of a row that is there, after these octets of it
pub record Left (low : Bool) (m : List ℕ) (here : ℕ) (row left : List Part) (e : ℕ) (octets : List ℕ) (values : Values (kinds_of row)) : Type 0 where
  pub rest : HasRow m here left e
  pub same : all_form low (kinds_of row) values ≡ octets ++ all_form low (kinds_of left) rest.values

-- The fields before the index were gone over: their octets were written, up to those from `from` on, which wait.
pub record PutSo (low : Bool) (m : List ℕ) (p : ℕ) (row : List Part) (e : ℕ) (old new : List ℕ) (at from here index : ℕ) : Type 0 where
  pub ordered : IsRow (drop index row)
  pub inside : e ≤ length m
  pub before : p ≤ from
  pub further : from ≤ here
  pub within : here ≤ e
  pub small : at + (here - from) ≤ (here - p) + 255 * index
  pub done : List ℕ
  pub put : Put old new 0 at done
  pub only : (h : HasRow m p row e) → Left low m here row (drop index row) e (done ++ slice m from here) h.values

pub put_first : {low : Bool} {m : List ℕ} {p : ℕ} {row : List Part} {e : ℕ} {old : List ℕ} → IsRow row → p ≤ e → e ≤ length m
    → PutSo low m p row e old old 0 p p 0
put_first {low} {m} {p} {row} {e} {old} ordered le inside = record {
  ordered = ordered;
  inside = inside;
  before = omega arith;
  further = omega arith;
  within = le;
  small = omega arith;
  done = [];
  put = put_none old 0;
  only = λ h. record { rest = h; same = ap (λ (n : ℕ). take n (drop p m) ++ all_form low (kinds_of row) h.values) none };
}
  where
    none : 0 ≡ p - p
    none = omega arith

-- all that are left are copied
pub put_last : {low : Bool} {m : List ℕ} {p : ℕ} {row : List Part} {e : ℕ} {old one new : List ℕ} {at from here index end : ℕ}
    → PutSo low m p row e old one at from here index → ArePlain (drop index row) → Put one new at end (slice m from e)
    → (h : HasRow m p row e) → Put old new 0 end (all_form low (kinds_of row) h.values)
put_last {low} {m} {p} {row} {e} {old} {one} {new} {at} {from} {here} {index} {end} so plain put h =
    let l = so.only h in
    let w = slice_at m from here so.further (omega (arith, so.within, so.inside)) in
    let rest : slice m here e ≡ all_form low (kinds_of (drop index row)) l.rest.values =
    between_is (all_copied low (drop index row) l.rest.values plain so.inside l.rest.stands) in
    let octets = slice m from here in
    let all : so.done ++ slice m from e ≡ all_form low (kinds_of row) h.values =
    ap (λ (s : List ℕ). so.done ++ s) (whole_slice e w so.within ∙ ap (λ (s : List ℕ). octets ++ s) rest)
    ∙ sym (append_assoc so.done octets (all_form low (kinds_of (drop index row)) l.rest.values)) ∙ sym l.same in
    subst (λ (s : List ℕ). Put old new 0 end s) all (put_then so.put put)

-- what is written of a field that is made anew
abbrev pub PutsCoded : Bool → (k : Kind) → List ℕ → List ℕ → List ℕ → ℕ → ℕ → Type 0
PutsCoded low k s old new at end = (v : Value k) → IsRecoded k → Field s 0 k v (length s) → Put old new at end (form_octets low k v)

pub coded_as : (low : Bool) {k l : Kind} {s old new : List ℕ} {at end : ℕ} → k ≡ l
    → ((v : Value l) → Field s 0 l v (length s) → Put old new at end (form_octets low l v)) → PutsCoded low k s old new at end
coded_as low {k} {l} {s} {old} {new} {at} {end} e h = subst (λ (x : Kind). PutsCoded low x s old new at end) (sym e) (λ v r f. h v f)

module _ {low : Bool} {m : List ℕ} {p : ℕ} {row : List Part} {e : ℕ} {old one : List ℕ} {at from here index : ℕ} (part d : Part)
    (so : PutSo low m p row e old one at from here index) (below : index < length row) (is : part ≡ get_or row index d) where
  waiting : List ℕ
  waiting = slice m from here

  left_here : drop index row ≡ part ∷ drop (index + 1) row
  left_here =
      let more : suc index ≡ index + 1 = omega arith in
      drop-cons row index d below ∙ ap (λ (p : Part). p ∷ drop (suc index) row) (sym is) ∙ ap (λ (i : ℕ). part ∷ drop i row) more

  order_here : IsRow (part ∷ drop (index + 1) row)
  order_here = subst IsRow left_here so.ordered

  rest_here : (h : HasRow m p row e) → Left low m here row (part ∷ drop (index + 1) row) e (so.done ++ slice m from here) h.values
  rest_here h = subst (λ (left : List Part). Left low m here row left e (so.done ++ slice m from here) h.values) left_here (so.only h)

  reach : (h : HasRow m p row e) → Reaches part.kind e (rest_here h).rest.stands.0
  reach h = let r = (rest_here h).rest in field_reaches m part (drop (index + 1) row) r.stands.0 e r.values.1 order_here r.stands.2

  -- the next field has these octets, up to this offset
  left_after : {next : ℕ} (octets form : List ℕ) → (h : HasRow m p row e) → (rest_here h).rest.stands.0 ≡ next
      → form_octets low part.kind (rest_here h).rest.values.0 ≡ form → octets ≡ (so.done ++ slice m from here) ++ form
      → Left low m next row (drop (index + 1) row) e octets h.values
  left_after {next} octets form h there is same =
      let l = rest_here h in
      let left = drop (index + 1) row in
      let before = so.done ++ slice m from here in
      subst (λ (n : ℕ). Left low m n row left e octets h.values) there (record {
        rest = behind_first m here e part left l.rest;
        same = l.same ∙ ap (λ (s : List ℕ). before ++ (s ++ all_form low (kinds_of left) l.rest.values.1)) is
            ∙ sym (append_assoc before form (all_form low (kinds_of left) l.rest.values.1))
            ∙ ap (λ (s : List ℕ). s ++ all_form low (kinds_of left) l.rest.values.1) (sym same);
      })

  -- a field that is copied, and waits
  pub plain_put : {next : ℕ} → IsPlain part.kind
      → ((v : Value part.kind) (q : ℕ) → IsPlain part.kind → Field m here part.kind v q → Reaches part.kind e q → q ≡ next)
      → (here ≤ next) × (next ≤ e) → PutSo low m p row e old one at from next (index + 1)
  plain_put {next} plain ends range = record {
    ordered = behind_row part (drop (index + 1) row) order_here;
    inside = so.inside;
    before = so.before;
    further = omega (arith, so.further, range.0);
    within = range.1;
    small = omega (arith, so.small, so.before, so.further, range.0);
    done = so.done;
    put = so.put;
    only = λ h.
        let r = (rest_here h).rest in
        let there : r.stands.0 ≡ next = ends r.values.0 r.stands.0 plain r.stands.1 (reach h) in
        let form : slice m here next ≡ form_octets low part.kind r.values.0 =
        ap (slice m here) (sym there) ∙ between_is (copied low part.kind r.values.0 plain r.stands.1) in
        let w = slice_at m from here so.further (omega (arith, so.within, so.inside)) in
        left_after (so.done ++ slice m from next) (form_octets low part.kind r.values.0) h there refl
        (ap (λ (s : List ℕ). so.done ++ s) (whole_slice next w range.0 ∙ ap (λ (s : List ℕ). slice m from here ++ s) form)
        ∙ sym (append_assoc so.done (slice m from here) (form_octets low part.kind r.values.0)));
  }

  pub no_plain : IsPlain part.kind → ((v : Value part.kind) (q : ℕ) → IsPlain part.kind → Field m here part.kind v q → Reaches part.kind e q → ⊥)
      → HasRow m p row e → ⊥
  no_plain plain none h = let r = (rest_here h).rest in none r.values.0 r.stands.0 plain r.stands.1 (reach h)

  -- what waits is written before a name
  module _ {two : List ℕ} {middle : ℕ} (kind : part.kind ≡ Name) (flush : Put one two at middle (slice m from here)) where
    abbrev Named : ℕ → DomainName → Kind → Type 0
    Named next name k = (v : Value k) (q : ℕ) → Field m here k v q → (q ≡ next) × (form_octets low k v ≡ form_octets low Name name)

    are_named : {next : ℕ} {name : DomainName} → IsNameIn m here name next → Named next name part.kind
    are_named {next} {name} n = subst (Named next name) (sym kind)
        (λ v q f. (
          field_end {k = Name} tt f (record { is = n }),
          ap (form_octets low Name) (field_same {k = Name} f (subst (λ (i : ℕ). Field m here Name name i)
              (sym (field_end {k = Name} tt f (record { is = n }))) (record { is = n }))),
        ))

    pub name_put : {new : List ℕ} {next behind : ℕ} → PutName m here next low two new middle behind → behind ≤ middle + 255 → next ≤ e
        → PutSo low m p row e old new behind next next (index + 1)
    name_put {new} {next} {behind} n few within =
        let on = (field_inside {k = Name} (record { is = n.is })).0 in
        let form = form_octets low Name n.name in
        let none : [] ≡ slice m next next = ap (λ (k : ℕ). take k (drop next m)) (zero next) in
        record {
          ordered = behind_row part (drop (index + 1) row) order_here;
          inside = so.inside;
          before = omega (arith, so.before, so.further, on);
          further = omega arith;
          within = within;
          small = omega (arith, so.small, few, flush.ends, size, on, so.before, so.further);
          done = (so.done ++ slice m from here) ++ form;
          put = put_then (put_then so.put flush) n.put;
          only = λ h.
              let r = (rest_here h).rest in
              let k = are_named n.is r.values.0 r.stands.0 r.stands.1 in
              left_after (((so.done ++ slice m from here) ++ form) ++ slice m next next) form h k.0 k.1
              (ap (λ (s : List ℕ). ((so.done ++ slice m from here) ++ form) ++ s) (sym none) ∙ append-nil ((so.done ++ slice m from here) ++ form));
        }
      where
        zero : (n : ℕ) → 0 ≡ n - n
        zero n = omega arith

        size : length (slice m from here) ≡ here - from
        size = omega (arith, (slice_at m from here so.further (omega (arith, so.within, so.inside))).ends, so.further)

    pub no_name : ((name : DomainName) (end : ℕ) → IsNameIn m here name end → ⊥) → HasRow m p row e → ⊥
    no_name none h =
        let r = (rest_here h).rest in
        (subst (λ (k : Kind). (v : Value k) (q : ℕ) → Field m here k v q → ⊥) (sym kind) (λ v q f. none v q f.is)) r.values.0 r.stands.0 r.stands.1

    pub name_within : {new : List ℕ} {next behind : ℕ} → PutName m here next low two new middle behind → HasRow m p row e → next ≤ e
    name_within n h =
        let r = (rest_here h).rest in
        let k = are_named n.is r.values.0 r.stands.0 r.stands.1 in
        omega (arith, k.0, stands_inside m r.stands.0 (kinds_of (drop (index + 1) row)) r.values.1 e r.stands.2)

  -- a field that is made anew: the last one
  pub coded_put : {two new : List ℕ} {middle end : ℕ} → IsRecoded part.kind → Put one two at middle (slice m from here)
      → PutsCoded low part.kind (slice m here e) two new middle end → (h : HasRow m p row e)
      → Put old new 0 end (all_form low (kinds_of row) h.values)
  coded_put {two} {new} {middle} {end} coded flush puts h = last (drop (index + 1) row) order_here (rest_here h)
    where
      last : (left : List Part) → IsRow (part ∷ left) → Left low m here row (part ∷ left) e (so.done ++ slice m from here) h.values
          → Put old new 0 end (all_form low (kinds_of row) h.values)
      last [] ordered l =
          let r = l.rest in
          let f = subst (λ (i : ℕ). Field m here part.kind r.values.0 i) r.stands.2 r.stands.1 in
          let form = form_octets low part.kind r.values.0 in
          subst (λ (s : List ℕ). Put old new 0 end s)
          (ap (λ (s : List ℕ). (so.done ++ slice m from here) ++ s) (sym (append-nil form)) ∙ sym l.same)
          (put_then (put_then so.put flush) (puts r.values.0 coded (recoded_alone part.kind r.values.0 coded refl f)))
      last (q ∷ left) ordered l = absurd (no_more part.kind coded ordered.0)
