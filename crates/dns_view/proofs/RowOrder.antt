-- How two rows are ordered.
use Rattle.std.proofs.Common.{◌≡◌, ◌≢◌, ℕ, suc, ◌+◌, ◌-◌, ◌≤◌, ◌<◌, List, [], ◌∷◌, ◌++◌, length, take, drop, get_or, drop-cons, refl, sym, ap, ◌∙◌, arith}
use Rattle.std.proofs.Common.{subst, append_assoc}
use Rattle.std.proofs.lemmas.List.{take_at, take-append-drop}
use Rattle.std.specs.{Cmp.Lexicographic.slice_cmp, Cmp.Lexicographic.lists_total, Cmp.nat_cmp_total, Cmp.tied_itself, Ordering.nat_cmp, Ordering.ordering_then}
use Rattle.std.specs.{FinMap.slice_cmp-IsAntisymmetric, FinMap.nat_cmp-IsAntisymmetric, declared.cmp.Ordering.Ordering}
use Rattle.std.specs.declared.cmp.Ordering.TheVariants.{Equal}
use Rattle.dns_fields.specs.declared.Kind.{Kind}
use Rattle.dns_fields.specs.declared.Kind.TheVariants.{Number, Octets, Name, CharacterString, CharacterStrings, Rest, Options, Parameters, Bitmap}
use Rattle.dns_fields.specs.{Octets.At, Fields.Value, Fields.Values, Fields.Field, Fields.Stands}
use Rattle.dns_fields.specs.{Fields.EndsItself, Fields.field_octets, Fields.canonical}
use Rattle.dns_fields.proofs.{FieldLaws.field_inside, FieldLaws.field_same, Numbers.length-bytes, Stays.labels_stand}
use Rattle.dns_names_wire.proofs.{FieldReads.stands_inside, Strings.at_then}
use Rattle.dns_canonical.specs.Fronts.{canonical_cmp, field_cmp, fields_cmp, EndsAlike, AllEndAlike}
use Rattle.dns_canonical.proofs.{Fronts.fields_decide, Fronts.front_then, Fronts.sized_then, Fronts.alone, Comparing.both_equal, Comparing.cmp_shared}
use Rattle.dns_canonical.proofs.{Comparing.then_kept, Comparing.then_assoc, Comparing.then_equal}
use Rattle.dns_rows.specs.declared.row.{Part.Part, Rule.Rule}
use Rattle.dns_rows.specs.declared.row.Rule.TheVariants.{Free}
use Rattle.dns_rows.specs.{Table.kinds_of, Rules.MeetsRow}
use Rattle.dns_names_wire.specs.NameEnds.{OrdersNames}
use Rattle.dns_check.specs.{Parts.Reaches, Rows.IsRow, Rows.HasRow}
use Rattle.dns_view.specs.Putting.{IsRecoded, Put}
use Rattle.dns_view.specs.RowOrder.{IsPlain, ArePlain, Sized}
use Rattle.dns_check.proofs.{Alone.between_is, Alone.whole_slice, Asked.asks_split, RowLoop.behind_row}
use Rattle.dns_view.proofs.{Recoded.recoded_alone, Puts.put_fits}
use Rattle.dns_check.proofs.RowLoop.{field_reaches}

pub cmp_same : (s : List ℕ) → slice_cmp nat_cmp s s ≡ Equal
cmp_same s = tied_itself (lists_total nat_cmp_total) s

-- octets that were written at the front of a buffer
pub put_front : {old new s : List ℕ} {end : ℕ} → Put old new 0 end s → end ≤ length old → take end new ≡ s
put_front {old} {new} {s} {end} w room = ap (take end) (put_fits w room) ∙ take_at s (drop end old) end (omega (arith, w.ends))

alike : (rule : Rule) (k : Kind) (left : List Part) {a b : List ℕ} {i p j q : ℕ} (u v : Value k) → IsRow (record { kind = k; rule = rule } ∷ left)
    → Field a i k u p → Field b j k v q
    → EndsAlike k u v (kinds_of left)
alike rule (Number w) left u v h f g = tt
alike rule (Octets n) left u v h f g = f.is.0 ∙ sym g.is.0
alike rule Name left u v h f g = (labels_stand f.is.stands, labels_stand g.is.stands)
alike rule CharacterString left u v h f g = tt
alike rule CharacterStrings [] u v h f g = tt
alike rule Rest [] u v h f g = tt
alike rule Options [] u v h f g = tt
alike rule Parameters [] u v h f g = tt
alike rule Bitmap [] u v h f g = tt
alike rule k (l ∷ left) u v h f g = absurd h.0

all_alike : (row : List Part) (a b : List ℕ) (i e j f : ℕ) (u v : Values (kinds_of row)) → IsRow row → Stands a i (kinds_of row) u e
    → Stands b j (kinds_of row) v f
    → AllEndAlike (kinds_of row) u v
all_alike [] a b i e j f u v h s t = tt
all_alike (part ∷ row) a b i e j f u v h s t = (
  alike part.rule part.kind row u.0 v.0 h s.1 t.1,
  all_alike row a b s.0 e t.0 f u.1 v.1 (behind_row part row h) s.2 t.2,
)

fields_from : (o : Ordering) (kinds : List Kind) (x y : Values kinds) → fields_cmp o kinds x y ≡ ordering_then o (fields_cmp Equal kinds x y)
fields_from o [] x y = sym (then_equal o)
fields_from o (k ∷ kinds) x y =
    let c = field_cmp k x.0 y.0 in
    let f = fields_cmp Equal kinds x.1 y.1 in
    fields_from (ordering_then o c) kinds x.1 y.1 ∙ then_assoc o c f
    ∙ ap (λ (r : Ordering). ordering_then o r) (sym (fields_from c kinds x.1 y.1))

field_then : (k : Kind) (a b : Value k) (kinds : List Kind) (x y : Values kinds) → EndsAlike k a b kinds → AllEndAlike kinds x y
    → canonical_cmp (k ∷ kinds) (a, x) (b, y) ≡ ordering_then (field_cmp k a b) (canonical_cmp kinds x y)
field_then k a b kinds x y h rest =
    sym (fields_decide (k ∷ kinds) (a, x) (b, y) (h, rest)) ∙ fields_from (field_cmp k a b) kinds x y
    ∙ ap (λ (r : Ordering). ordering_then (field_cmp k a b) r) (fields_decide kinds x y rest)

-- ---- octets that decide before what comes behind them

pub record Parted (s t : List ℕ) : Type 0 where
  pub decide : (x y : List ℕ) → slice_cmp nat_cmp (s ++ x) (t ++ y) ≡ ordering_then (slice_cmp nat_cmp s t) (slice_cmp nat_cmp x y)

parted_more : (s t f g : List ℕ) → Parted s t → Parted f g → Parted (s ++ f) (t ++ g)
parted_more s t f g p q = record {
  decide = λ x y.
      let o = slice_cmp nat_cmp s t in
      ap (λ (z : List ℕ). slice_cmp nat_cmp z ((t ++ g) ++ y)) (append_assoc s f x)
      ∙ ap (λ (z : List ℕ). slice_cmp nat_cmp (s ++ (f ++ x)) z) (append_assoc t g y)
      ∙ p.decide (f ++ x) (g ++ y) ∙ ap (ordering_then o) (q.decide x y) ∙ sym (then_assoc o (slice_cmp nat_cmp f g) (slice_cmp nat_cmp x y))
      ∙ ap (λ (z : Ordering). ordering_then z (slice_cmp nat_cmp x y)) (sym (p.decide f g));
}

parted_field : {a b : List ℕ} {i p j q : ℕ} (k : Kind) (u v : Value k) → IsPlain k → EndsItself k → Field a i k u p → Field b j k v q
    → Parted (field_octets k u) (field_octets k v)
unfolding field_octets
parted_field (Number w) u v h e f g = record { decide = λ x y. front_then _ _ x y (length-bytes w u ∙ sym (length-bytes w v)) }
parted_field (Octets n) u v h e f g = record { decide = λ x y. front_then u v x y (f.is.0 ∙ sym g.is.0) }
parted_field Name u v h e f g = absurd h
parted_field CharacterString u v h e f g = record { decide = λ x y. sized_then (length u) (length v) u v x y (λ e. e) }
parted_field k u v h e f g = absurd e

-- if what goes on from both is the same, they are the same
parted_ties : (s t x y : List ℕ) → Parted s t → s ++ x ≡ t ++ y → s ≡ t
parted_ties s t x y p e =
    let tie : slice_cmp nat_cmp (s ++ x) (t ++ y) ≡ Equal = ap (slice_cmp nat_cmp (s ++ x)) (sym e) ∙ cmp_same (s ++ x) in
    slice_cmp-IsAntisymmetric nat_cmp-IsAntisymmetric s t (both_equal (slice_cmp nat_cmp s t) (slice_cmp nat_cmp x y) (sym (p.decide x y) ∙ tie)).0

-- if they differ, it does not matter what comes behind
parted_differ : (s t x y z w : List ℕ) → Parted s t → (s ≡ t → ⊥) → slice_cmp nat_cmp (s ++ x) (t ++ y) ≡ slice_cmp nat_cmp (s ++ z) (t ++ w)
parted_differ s t x y z w p ne =
    let o = slice_cmp nat_cmp s t in
    let apart : o ≢ Equal = λ e. ne (slice_cmp-IsAntisymmetric nat_cmp-IsAntisymmetric s t e) in
    p.decide x y ∙ sym (then_kept o (slice_cmp nat_cmp x y) apart) ∙ then_kept o (slice_cmp nat_cmp z w) apart ∙ sym (p.decide z w)

-- ---- fields that are canonical as they are encoded

plain_at : {m : List ℕ} {p q : ℕ} (k : Kind) (v : Value k) → IsPlain k → Field m p k v q → At m p (field_octets k v) q
unfolding field_octets
plain_at (Number w) v h f = f.is.1
plain_at (Octets n) v h f = f.is.1
plain_at CharacterString v h f = f.is.1
plain_at CharacterStrings v h f = f.is.1
plain_at Rest v h f = f.is
plain_at k v h f = absurd h

pub none_at : {m : List ℕ} {p q : ℕ} → p ≡ q → q ≤ length m → At m p [] q
none_at e inside = record { ends = omega (arith, e); within = inside; same = refl }

plain_octets : {m : List ℕ} {p e : ℕ} (row : List Part) (vs : Values (kinds_of row)) → ArePlain row → e ≤ length m → Stands m p (kinds_of row) vs e
    → At m p (canonical (kinds_of row) vs) e
plain_octets [] vs h inside s = none_at s inside
plain_octets (part ∷ row) vs h inside s = at_then (plain_at part.kind vs.0 h.0 s.1) (plain_octets row vs.1 h.1 inside s.2)

sized_as : {m : List ℕ} {p : ℕ} {k l : Kind} {end size : ℕ} → k ≡ l → Sized m p l end size → Sized m p k end size
sized_as {m} {p} {k} {l} {end} {size} e s = subst (λ (x : Kind). Sized m p x end size) (sym e) s

pub number_sized : {m : List ℕ} {p : ℕ} {k : Kind} {end w : ℕ} → k ≡ Number w → Sized m p k end w
number_sized {w = w} e = sized_as e (record { is = λ v q h f r. omega (arith, f.is.1.ends, length-bytes w v) })

pub octets_sized : {m : List ℕ} {p : ℕ} {k : Kind} {end n : ℕ} → k ≡ Octets n → Sized m p k end n
octets_sized e = sized_as e (record { is = λ v q h f r. omega (arith, f.is.1.ends, f.is.0) })

pub string_sized : {m : List ℕ} {p : ℕ} {k : Kind} {end : ℕ} → k ≡ CharacterString → Sized m p k end (get_or m p 0 + 1)
string_sized {m} {p} e = sized_as e (record {
  is = λ v q h f r.
      let front : take (suc (length v)) (drop p m) ≡ length v ∷ v = f.is.1.same in
      let first : length v ≡ get_or m p 0 = first_octet (length v) v front (drop-cons m p 0 (omega (arith, f.is.1.ends, f.is.1.within))) in
      omega (arith, f.is.1.ends, first);
})
  where
    first_octet : (n : ℕ) (v : List ℕ) {s t : List ℕ} {x : ℕ} → take (suc (length v)) s ≡ n ∷ v → s ≡ x ∷ t → n ≡ x
    first_octet n v same e = let k = sym same ∙ ap (take (suc (length v))) e in cc

pub rest_sized : {m : List ℕ} {p end : ℕ} (k : Kind) → p ≤ end → ((w : ℕ) → k ≡ Number w → ⊥) → ((n : ℕ) → k ≡ Octets n → ⊥) → (k ≡ CharacterString → ⊥)
    → Sized m p k end (end - p)
rest_sized (Number w) le a b c = absurd (a w refl)
rest_sized (Octets n) le a b c = absurd (b n refl)
rest_sized Name le a b c = record { is = λ v q h f r. absurd h }
rest_sized CharacterString le a b c = absurd (c refl)
rest_sized k le a b c = record { is = λ v q h f r. omega (arith, r, le) }

-- so many octets are not there
pub sized_past : {m : List ℕ} {p : ℕ} (k : Kind) {end size : ℕ} → Sized m p k end size → end - p < size
    → (v : Value k) (q : ℕ) → IsPlain k → Field m p k v q → Reaches k end q → ⊥
sized_past k s past v q h f r = omega (arith, s.is v q h f r, within k r, (field_inside f).0, past)
  where
    within : (k : Kind) {q end : ℕ} → Reaches k end q → q ≤ end
    within (Number w) r = r
    within (Octets n) r = r
    within Name r = r
    within CharacterString r = r
    within k r = omega (arith, r)

-- ---- the fields so far

-- RDATA ends inside the message
pub row_inside : {m : List ℕ} {p e : ℕ} (row : List Part) → p ≤ length m → HasRow m p row e → e ≤ length m
row_inside {m} row inside h = stands_within row inside h.values h.stands
  where
    stands_within : (row : List Part) {p e : ℕ} → p ≤ length m → (vs : Values (kinds_of row)) → Stands m p (kinds_of row) vs e → e ≤ length m
    stands_within [] inside vs s = omega (arith, s)
    stands_within (part ∷ row) inside vs s = stands_within row (field_inside s.1).1 vs.1 s.2

-- of the fields that are left, those behind the first one
abbrev pub behind_first : (m : List ℕ) (p e : ℕ) (part : Part) (left : List Part) → (h : HasRow m p (part ∷ left) e) → HasRow m h.stands.0 left e
behind_first m p e part left h = record {
  values = h.values.1;
  stands = h.stands.2;
  meets = (asks_split part.rule part.kind h.values.0 (MeetsRow left h.values.1) h.meets).1;
}

-- octets that decide, if anything comes behind them
abbrev BeforeMore : List Part → List ℕ → List ℕ → Type 0
BeforeMore [] s t = Unit {0}
BeforeMore (part ∷ left) s t = Parted s t

-- the octets of some fields wait, and o is how they and the fields that are left are ordered
pub record Waiting (a : List ℕ) (from at : ℕ) (b : List ℕ) (to : ℕ) (left : List Part) (e f : ℕ) (o : Ordering) : Type 0 where
  pub s : List ℕ
  pub t : List ℕ
  pub far : ℕ
  pub s_at : At a from s at
  pub t_at : At b to t far
  pub first : HasRow a at left e
  pub second : HasRow b far left f
  pub order : o ≡ slice_cmp nat_cmp (s ++ canonical (kinds_of left) first.values) (t ++ canonical (kinds_of left) second.values)
  pub parted : BeforeMore left s t

-- no octets wait, and o is how the fields that are left are ordered
pub record Met (a : List ℕ) (at : ℕ) (b : List ℕ) (far : ℕ) (left : List Part) (e f : ℕ) (o : Ordering) : Type 0 where
  pub first : HasRow a at left e
  pub second : HasRow b far left f
  pub order : o ≡ canonical_cmp (kinds_of left) first.values second.values

none_waits : (a : List ℕ) (at : ℕ) (b : List ℕ) (far : ℕ) (left : List Part) (e f : ℕ) (o : Ordering) → at ≤ length a → far ≤ length b
    → Met a at b far left e f o → Waiting a at at b far left e f o
none_waits a at b far left e f o inside within m = record {
  s = [];
  t = [];
  far = far;
  s_at = none_at refl inside;
  t_at = none_at refl within;
  first = m.first;
  second = m.second;
  order = m.order;
  parted = none left;
}
  where
    none : (left : List Part) → BeforeMore left [] []
    none [] = tt
    none (part ∷ left) = record { decide = λ x y. refl }

-- how the first field and the others are ordered
met_order : (a : List ℕ) (at : ℕ) (b : List ℕ) (far : ℕ) (part : Part) (left : List Part) (e f : ℕ) (o : Ordering) → IsRow (part ∷ left)
    → (m : Met a at b far (part ∷ left) e f o)
    → o ≡ ordering_then (field_cmp part.kind m.first.values.0 m.second.values.0) (canonical_cmp (kinds_of left) m.first.values.1 m.second.values.1)
met_order a at b far part left e f o ordered m =
    let g = m.first in
    let h = m.second in
    m.order ∙ field_then part.kind g.values.0 h.values.0 (kinds_of left) g.values.1 h.values.1
    (alike part.rule part.kind left g.values.0 h.values.0 ordered g.stands.1 h.stands.1)
    (all_alike left a b g.stands.0 e h.stands.0 f g.values.1 h.values.1 (behind_row part left ordered) g.stands.2 h.stands.2)

-- the next field waits, too
field_waits : (a : List ℕ) (from at next : ℕ) (b : List ℕ) (to : ℕ) (part : Part) (left : List Part) (e f : ℕ) (o : Ordering) → IsRow (part ∷ left)
    → IsPlain part.kind → ((v : Value part.kind) (q : ℕ) → IsPlain part.kind → Field a at part.kind v q → Reaches part.kind e q → q ≡ next)
    → Waiting a from at b to (part ∷ left) e f o → Waiting a from next b to left e f o
field_waits a from at next b to part left e f o ordered plain ends w =
    let g = w.first in
    let h = w.second in
    let x = field_octets part.kind g.values.0 in
    let y = field_octets part.kind h.values.0 in
    let cs = canonical (kinds_of left) g.values.1 in
    let ds = canonical (kinds_of left) h.values.1 in
    let there : g.stands.0 ≡ next =
    ends g.values.0 g.stands.0 plain g.stands.1 (field_reaches a part left g.stands.0 e g.values.1 ordered g.stands.2) in
    subst (λ (n : ℕ). Waiting a from n b to left e f o) there (record {
      s = w.s ++ x;
      t = w.t ++ y;
      far = h.stands.0;
      s_at = at_then w.s_at (plain_at part.kind g.values.0 plain g.stands.1);
      t_at = at_then w.t_at (plain_at part.kind h.values.0 plain h.stands.1);
      first = behind_first a at e part left g;
      second = behind_first b w.far f part left h;
      order = w.order ∙ ap (λ (z : List ℕ). slice_cmp nat_cmp z (w.t ++ (y ++ ds))) (sym (append_assoc w.s x cs))
          ∙ ap (λ (z : List ℕ). slice_cmp nat_cmp ((w.s ++ x) ++ cs) z) (sym (append_assoc w.t y ds));
      parted = more left w.s w.t g.values.0 h.values.0 ordered w.parted g.stands.1 h.stands.1;
    })
  where
    more : {p q : ℕ} (left : List Part) (s t : List ℕ) (u v : Value part.kind) → IsRow (part ∷ left) → Parted s t
        → Field a at part.kind u p → {j : ℕ} → Field b j part.kind v q
        → BeforeMore left (s ++ field_octets part.kind u) (t ++ field_octets part.kind v)
    more [] s t u v ordered p f g = tt
    more (l ∷ left) s t u v ordered p f g =
        parted_more s t (field_octets part.kind u) (field_octets part.kind v) p (parted_field part.kind u v plain ordered.0 f g)

module _ (a : List ℕ) (from at : ℕ) (b : List ℕ) (to : ℕ) (part : Part) (left : List Part) (e f : ℕ) (o : Ordering)
    (w : Waiting a from at b to (part ∷ left) e f o) where
  begins : ℕ → Type 0
  begins n = take (length (take (at - from) (drop from a))) (take (n - to) (drop to b)) ≡ take (at - from) (drop from a)

  waits_on : at ≤ e
  waits_on = stands_inside a at (kinds_of (part ∷ left)) w.first.values e w.first.stands

  far_on : w.far ≤ f
  far_on = stands_inside b w.far (kinds_of (part ∷ left)) w.second.values f w.second.stands

  -- the octets that wait differ
  waits_differ : (begins f → ⊥) → o ≡ slice_cmp nat_cmp (take (e - from) (drop from a)) (take (f - to) (drop to b))
  unfolding begins
  waits_differ ne =
      let x = take (e - at) (drop at a) in
      let y = take (f - w.far) (drop w.far b) in
      let k = whole_slice e w.s_at waits_on in
      let l = whole_slice f w.t_at far_on in
      let s_is = between_is w.s_at in
      let apart : w.s ≡ w.t → ⊥ = λ same. ne (ap (take (length (take (at - from) (drop from a)))) (l ∙ ap (λ (z : List ℕ). z ++ y) (sym same))
      ∙ take_at w.s y (length (take (at - from) (drop from a))) (sym (ap length s_is)) ∙ sym s_is) in
      w.order ∙ parted_differ w.s w.t (canonical (kinds_of (part ∷ left)) w.first.values) (canonical (kinds_of (part ∷ left)) w.second.values)
      x y w.parted apart
      ∙ ap (λ (z : List ℕ). slice_cmp nat_cmp z (w.t ++ y)) (sym k) ∙ ap (λ (z : List ℕ). slice_cmp nat_cmp (take (e - from) (drop from a)) z) (sym l)

  -- they are the same
  waits_same : begins f → Met a at b (to + (at - from)) (part ∷ left) e f o
  unfolding begins
  waits_same same =
      let y = take (f - w.far) (drop w.far b) in
      let s_is = between_is w.s_at in
      let n = length (take (at - from) (drop from a)) in
      let whole = take (f - to) (drop to b) in
      let front : w.s ++ drop n whole ≡ w.t ++ y = ap (λ (z : List ℕ). z ++ drop n whole) (sym s_is ∙ sym same) ∙ take-append-drop n whole
      ∙ whole_slice f w.t_at far_on in
      let alike : w.s ≡ w.t = parted_ties w.s w.t (drop n whole) y w.parted front in
      let there : w.far ≡ to + (at - from) = omega (arith, w.t_at.ends, w.s_at.ends, ap length alike) in
      let cs = canonical (kinds_of (part ∷ left)) w.first.values in
      let ds = canonical (kinds_of (part ∷ left)) w.second.values in
      subst (λ (i : ℕ). Met a at b i (part ∷ left) e f o) there (record {
        first = w.first;
        second = w.second;
        order = w.order
            ∙ cmp_shared {n = length w.s} record { shared = w.s; count = refl; left = refl; right = ap (λ (z : List ℕ). z ++ ds) (sym alike) };
      })

-- all that are left are canonical as they are encoded
all_wait : (a : List ℕ) (from at : ℕ) (b : List ℕ) (to : ℕ) (left : List Part) (e f : ℕ) (o : Ordering) → ArePlain left → e ≤ length a → f ≤ length b
    → Waiting a from at b to left e f o → o ≡ slice_cmp nat_cmp (take (e - from) (drop from a)) (take (f - to) (drop to b))
all_wait a from at b to left e f o plain inside within w =
    let k = between_is (at_then w.s_at (plain_octets left w.first.values plain inside w.first.stands)) in
    let l = between_is (at_then w.t_at (plain_octets left w.second.values plain within w.second.stands)) in
    w.order ∙ ap (λ (z : List ℕ). slice_cmp nat_cmp z (w.t ++ canonical (kinds_of left) w.second.values)) (sym k)
    ∙ ap (slice_cmp nat_cmp (take (e - from) (drop from a))) (sym l)

-- a field that is made anew is the last one
pub no_more : (k : Kind) → IsRecoded k → EndsItself k → ⊥
no_more Options r e = e
no_more Parameters r e = e
no_more Bitmap r e = e
no_more k r e = r

-- ---- by the index in the row

-- the fields before the index were gone over
pub record Compared (a : List ℕ) (x e : ℕ) (b : List ℕ) (y f : ℕ) (row : List Part) (index from at to : ℕ) : Type 0 where
  pub ordered : IsRow (drop index row)
  pub only : (h : HasRow a x row e) (k : HasRow b y row f)
      → Waiting a from at b to (drop index row) e f (canonical_cmp (kinds_of row) h.values k.values)

pub compared_none : {a : List ℕ} {x : ℕ} (e : ℕ) {b : List ℕ} {y : ℕ} (f : ℕ) {row : List Part} → IsRow row → x ≤ length a → y ≤ length b
    → Compared a x e b y f row 0 x x y
compared_none {a} {x} e {b} {y} f {row} ordered inside within = record {
  ordered = ordered;
  only = λ h k. none_waits a x b y row e f (canonical_cmp (kinds_of row) h.values k.values) inside within
      (record { first = h; second = k; order = refl });
}

pub compared_all : {a : List ℕ} {x e : ℕ} {b : List ℕ} {y f : ℕ} {row : List Part} {index from at to : ℕ} {o : Ordering}
    → Compared a x e b y f row index from at to → ArePlain (drop index row) → e ≤ length a → f ≤ length b
    → o ≡ slice_cmp nat_cmp (take (e - from) (drop from a)) (take (f - to) (drop to b))
    → (h : HasRow a x row e) (k : HasRow b y row f) → o ≡ canonical_cmp (kinds_of row) h.values k.values
compared_all {a} {x} {e} {b} {y} {f} {row} {index} {from} {at} {to} so plain inside within is h k =
    is ∙ sym (all_wait a from at b to (drop index row) e f (canonical_cmp (kinds_of row) h.values k.values) plain inside within (so.only h k))

module _ {a : List ℕ} {x e : ℕ} {b : List ℕ} {y f : ℕ} {row : List Part} {index from at to : ℕ} (part d : Part)
    (so : Compared a x e b y f row index from at to) (below : index < length row) (is : part ≡ get_or row index d) where
  here : drop index row ≡ part ∷ drop (index + 1) row
  here =
      let more : suc index ≡ index + 1 = omega arith in
      drop-cons row index d below ∙ ap (λ (p : Part). p ∷ drop (suc index) row) (sym is) ∙ ap (λ (i : ℕ). part ∷ drop i row) more

  order_here : IsRow (part ∷ drop (index + 1) row)
  order_here = subst IsRow here so.ordered

  waiting_here : (h : HasRow a x row e) (k : HasRow b y row f)
      → Waiting a from at b to (part ∷ drop (index + 1) row) e f (canonical_cmp (kinds_of row) h.values k.values)
  waiting_here h k = subst (λ (left : List Part). Waiting a from at b to left e f (canonical_cmp (kinds_of row) h.values k.values)) here (so.only h k)

  -- a field that waits
  pub plain_waits : {next : ℕ} → IsPlain part.kind
      → ((v : Value part.kind) (q : ℕ) → IsPlain part.kind → Field a at part.kind v q → Reaches part.kind e q → q ≡ next)
      → Compared a x e b y f row (index + 1) from next to
  plain_waits {next} plain ends = record {
    ordered = behind_row part (drop (index + 1) row) order_here;
    only = λ h k. field_waits a from at next b to part (drop (index + 1) row) e f (canonical_cmp (kinds_of row) h.values k.values) order_here plain
        ends (waiting_here h k);
  }

  pub no_plain : IsPlain part.kind → ((v : Value part.kind) (q : ℕ) → IsPlain part.kind → Field a at part.kind v q → Reaches part.kind e q → ⊥)
      → HasRow a x row e → HasRow b y row f → ⊥
  no_plain plain none h k =
      let g = (waiting_here h k).first in
      none g.values.0 g.stands.0 plain g.stands.1 (field_reaches a part (drop (index + 1) row) g.stands.0 e g.values.1 order_here g.stands.2)

  abbrev pub BeginsAlike : Type 0
  BeginsAlike = take (length (take (at - from) (drop from a))) (take (f - to) (drop to b)) ≡ take (at - from) (drop from a)

  -- the octets that waited differ
  waited_here : {o : Ordering} → (BeginsAlike → ⊥)
      → o ≡ slice_cmp nat_cmp (take (e - from) (drop from a)) (take (f - to) (drop to b))
      → (h : HasRow a x row e) (k : HasRow b y row f) → o ≡ canonical_cmp (kinds_of row) h.values k.values
  unfolding begins
  waited_here {o} ne same h k = same ∙ sym (waits_differ a from at b to part (drop (index + 1) row) e f
      (canonical_cmp (kinds_of row) h.values k.values) (waiting_here h k) ne)

  module _ (alike : BeginsAlike) where
    met : (h : HasRow a x row e) (k : HasRow b y row f)
        → Met a at b (to + (at - from)) (part ∷ drop (index + 1) row) e f (canonical_cmp (kinds_of row) h.values k.values)
    unfolding begins
    met h k = waits_same a from at b to part (drop (index + 1) row) e f (canonical_cmp (kinds_of row) h.values k.values) (waiting_here h k) alike

    -- two names
    module _ {o : Ordering} {p q : ℕ} (kind : part.kind ≡ Name)
        (names : OrdersNames a at b (to + (at - from)) o p q) where
      abbrev Names : Kind → Type 0
      Names k = (u v : Value k) (i j : ℕ) → Field a at k u i → Field b (to + (at - from)) k v j → (o ≡ field_cmp k u v) × (p ≡ i) × (q ≡ j)

      are_names : Names part.kind
      unfolding field_octets
      are_names = subst Names (sym kind) (λ u v i j f g. names.is u i v j f.is g.is)

      module _ (h : HasRow a x row e) (k : HasRow b y row f) where
        named : (m : Met a at b (to + (at - from)) (part ∷ drop (index + 1) row) e f (canonical_cmp (kinds_of row) h.values k.values))
            → (o ≡ field_cmp part.kind m.first.values.0 m.second.values.0) × (p ≡ m.first.stands.0) × (q ≡ m.second.stands.0)
        named m = are_names m.first.values.0 m.second.values.0 m.first.stands.0 m.second.stands.0 m.first.stands.1 m.second.stands.1

        pub names_differ : o ≢ Equal → o ≡ canonical_cmp (kinds_of row) h.values k.values
        names_differ ne =
            let m = met h k in
            let left = drop (index + 1) row in
            let rest = canonical_cmp (kinds_of left) m.first.values.1 m.second.values.1 in
            then_kept o rest ne ∙ ap (λ (r : Ordering). ordering_then r rest) (named m).0
            ∙ sym (met_order a at b (to + (at - from)) part left e f (canonical_cmp (kinds_of row) h.values k.values) order_here m)

        pub names_inside : (p ≤ e) × (q ≤ f)
        names_inside =
            let m = met h k in
            let left = drop (index + 1) row in
            let i = stands_inside a m.first.stands.0 (kinds_of left) m.first.values.1 e m.first.stands.2 in
            let j = stands_inside b m.second.stands.0 (kinds_of left) m.second.values.1 f m.second.stands.2 in
            (omega (arith, i, (named m).1), omega (arith, j, (named m).2))

      pub names_tied : o ≡ Equal → p ≤ length a → q ≤ length b → Compared a x e b y f row (index + 1) p p q
      names_tied tie inside within = record {
        ordered = behind_row part (drop (index + 1) row) order_here;
        only = λ h k.
            let m = met h k in
            let left = drop (index + 1) row in
            let all = canonical_cmp (kinds_of row) h.values k.values in
            let rest = canonical_cmp (kinds_of left) m.first.values.1 m.second.values.1 in
            let z = named h k m in
            none_waits a p b q left e f all inside within
            (subst (λ (j : ℕ). Met a p b j left e f all) (sym z.2)
            (subst (λ (i : ℕ). Met a i b m.second.stands.0 left e f all) (sym z.1) (record {
              first = behind_first a at e part left m.first;
              second = behind_first b (to + (at - from)) f part left m.second;
              order = met_order a at b (to + (at - from)) part left e f all order_here m
                  ∙ ap (λ (r : Ordering). ordering_then r rest) (sym z.0 ∙ tie);
            })));
      }

    -- two fields whose octets are made anew: the last ones
    pub recoded_last : {o : Ordering} → IsRecoded part.kind
        → ((u v : Value part.kind) → Field (take (e - at) (drop at a)) 0 part.kind u (length (take (e - at) (drop at a)))
        → Field (take (f - (to + (at - from))) (drop (to + (at - from)) b)) 0 part.kind v
        (length (take (f - (to + (at - from))) (drop (to + (at - from)) b))) → o ≡ field_cmp part.kind u v)
        → (h : HasRow a x row e) (k : HasRow b y row f) → o ≡ canonical_cmp (kinds_of row) h.values k.values
    recoded_last {o} coded order h k = last (drop (index + 1) row) order_here (met h k)
      where
        all : Ordering
        all = canonical_cmp (kinds_of row) h.values k.values

        last : (left : List Part) → IsRow (part ∷ left) → Met a at b (to + (at - from)) (part ∷ left) e f all → o ≡ all
        last [] ordered m =
            let g = m.first in
            let k = m.second in
            let gf = subst (λ (i : ℕ). Field a at part.kind g.values.0 i) g.stands.2 g.stands.1 in
            let kf = subst (λ (i : ℕ). Field b (to + (at - from)) part.kind k.values.0 i) k.stands.2 k.stands.1 in
            order g.values.0 k.values.0 (recoded_alone part.kind g.values.0 coded refl gf) (recoded_alone part.kind k.values.0 coded refl kf)
            ∙ alone part.kind g.values.0 k.values.0 ∙ sym m.order
        last (l ∷ left) ordered m = absurd (no_more part.kind coded ordered.0)

pub waited_differ : {a : List ℕ} {x e : ℕ} {b : List ℕ} {y f : ℕ} {row : List Part} {index from at to : ℕ} {o : Ordering}
    → Compared a x e b y f row index from at to → index < length row
    → (take (length (take (at - from) (drop from a))) (take (f - to) (drop to b)) ≡ take (at - from) (drop from a) → ⊥)
    → o ≡ slice_cmp nat_cmp (take (e - from) (drop from a)) (take (f - to) (drop to b))
    → (h : HasRow a x row e) (k : HasRow b y row f) → o ≡ canonical_cmp (kinds_of row) h.values k.values
waited_differ {row = row} {index} so below ne same h k = waited_here (get_or row index any) any so below refl ne same h k
  where
    any : Part
    any = record { kind = Name; rule = Free }

-- ---- fields whose octets are made anew

pub recoded_as : {a b : List ℕ} {o : Ordering} {k l : Kind} → k ≡ l
    → ((u v : Value l) → Field a 0 l u (length a) → Field b 0 l v (length b) → o ≡ slice_cmp nat_cmp (field_octets l u) (field_octets l v))
    → IsRecoded k → (u v : Value k) → Field a 0 k u (length a) → Field b 0 k v (length b) → o ≡ slice_cmp nat_cmp (field_octets k u) (field_octets k v)
recoded_as {a} {b} {o} e h =
    subst (λ (x : Kind). IsRecoded x → (u v : Value x) → Field a 0 x u (length a) → Field b 0 x v (length b) → o ≡ field_cmp x u v) (sym e) (λ r. h)

pub recoded_same : {a b : List ℕ} {k : Kind} → a ≡ b → (u v : Value k) → Field a 0 k u (length a) → Field b 0 k v (length b)
    → Equal ≡ slice_cmp nat_cmp (field_octets k u) (field_octets k v)
recoded_same {a} {b} {k} e u v f g =
    let h : Field a 0 k v (length a) = subst (λ (s : List ℕ). Field s 0 k v (length s)) (sym e) g in
    let same : u ≡ v = field_same f h in
    sym (cmp_same (field_octets k u)) ∙ ap (λ (w : Value k). slice_cmp nat_cmp (field_octets k u) (field_octets k w)) same

pub to_recode : (k : Kind) → (IsPlain k → ⊥) → (k ≡ Name → ⊥) → IsRecoded k
to_recode Name p n = absurd (n refl)
to_recode Options p n = tt
to_recode Parameters p n = tt
to_recode Bitmap p n = tt
to_recode k p n = absurd (p tt)
