-- The numbers at the front of a row, and the field after them.
use Rattle.std.proofs.Common.{◌≡◌, ℕ, zero, suc, ◌+◌, ◌-◌, ◌<◌, ◌≤◌, ◌==◌, ◌&&◌, nat_le, true, List, [], ◌∷◌, length, drop, get_or, inl, Some, refl, sym, ap, ◌∙◌, arith, subst, Ok}
use Rattle.std.proofs.lemmas.Bool.Decides.{nat_tests}
use Rattle.dns_fields.specs.declared.Kind.{Kind, TheVariants.Number, TheVariants.Octets, TheVariants.Name, TheVariants.Rest}
use Rattle.dns_fields.specs.Octets.{AreOctets}
use Rattle.dns_fields.proofs.NameLaws.{name_inside}
use Rattle.dns_names_wire.specs.State.{Reading}
use Rattle.dns_rows.specs.declared.row.{Part.Part, Rule.Rule}
use Rattle.dns_rows.specs.declared.row.Rule.TheVariants as rules
use Rattle.dns_rows.specs.Fronts.{is_plain, width_of, is_front}
use Rattle.dns_names_wire.specs.{NameEnds.NameEnds, Terms.moved, Steps.NameSteps, Steps.Leaves}
use Rattle.dns_check.specs.{Parts.IsCovered, Parts.Skips, RowSteps.FieldSteps, RowSteps.FieldsSteps, RowSteps.NearRow}
use Rattle.dns_check.specs.Rows.{AreCovered, IsRowChecked, TookRow}
use Rattle.dns_check.proofs.{FieldEnds.octets_there, FieldEnds.rest_ends, FieldEnds.name_near, FieldEnds.skips_inside, RowTests.both, Asked.row_fewest}
use Rattle.dns_check.proofs.Skips.{number_skips, octets_skip, skips_as}
use Rattle.dns_check.proofs.RowLoop.{RowSo, AtPart, none_so, field_taken, at_next, at_last}
use Rattle.dns_check.proofs.StepRows.{CountedSo, none_in, counted_next, counted_last}

-- a plain number that the message has
plain_number : (k : Kind) (r : Rule) (start n : ℕ) (d : Reading) → is_plain k r ≡ true → AreOctets d.message → d.index + width_of k ≤ length d.message
    → Skips r k start n (Ok tt) d (moved d (d.index + width_of k)) × FieldSteps k d 0
plain_number (Number w) rules.KnownFlags start n d h octets l = absurd cc
plain_number (Number w) r start n d h octets l = (number_skips (octets_there d w (d.index + w) (refl, l)) octets tt, refl)
plain_number k r start n d h octets l = absurd cc

-- the first number of a front
record First (count octets : ℕ) (p : Part) (row : List Part) : Type 0 where
  plain : is_plain p.kind p.rule ≡ true
  within : width_of p.kind ≤ octets
  rest : is_front count (octets - width_of p.kind) row ≡ true

first : (count octets : ℕ) (p : Part) (row : List Part) → is_front (suc count) octets (p ∷ row) ≡ true → First count octets p row
first count octets p row h =
    let w = width_of p.kind in
    let x = both (is_plain p.kind p.rule) (nat_le w octets && is_front count (octets - w) row) h in
    let y = both (nat_le w octets) (is_front count (octets - w) row) x.1 in
    record { plain = x.0; within = grind (arith, nat_tests, y.0); rest = y.1 }

none : (octets : ℕ) → (octets == 0) ≡ true → octets ≡ 0
none octets h = grind (arith, nat_tests)

-- after the front the fields of it were taken
front_so : (count octets : ℕ) (row left : List Part) (n : ℕ) (old now : Reading) → is_front count octets left ≡ true → AreOctets now.message
    → now.index + octets ≤ length now.message → RowSo row left n old now → RowSo row (drop count left) n old (moved now (now.index + octets))
front_so zero octets row left n old now h a l so =
    subst (λ (i : ℕ). RowSo row left n old (moved now i)) (omega (arith, none octets h)) so
front_so (suc count) octets row [] n old now h a l so = absurd cc
front_so (suc count) octets row (p ∷ left) n old now h a l so =
    let f = first count octets p left h in
    let next = moved now (now.index + width_of p.kind) in
    let s = plain_number p.kind p.rule old.index n now f.plain a (omega (arith, f.within, l)) in
    subst (λ (i : ℕ). RowSo row (drop count left) n old (moved now i)) (omega (arith, f.within))
    (front_so count (octets - width_of p.kind) row left n old next f.rest a (omega (arith, f.within, l)) (field_taken row p left n old now next so s.0.is))

-- no pointer is followed by a front
front_counted : (count octets : ℕ) (row : List Part) (start n k : ℕ) (now : Reading) → is_front count octets row ≡ true → AreOctets now.message
    → now.index + octets ≤ length now.message → FieldsSteps (drop count row) start n (moved now (now.index + octets)) k → FieldsSteps row start n now k
front_counted zero octets row start n k now h a l f =
    subst (λ (i : ℕ). FieldsSteps row start n (moved now i) k) (omega (arith, none octets h)) f
front_counted (suc count) octets [] start n k now h a l f = absurd cc
front_counted (suc count) octets (p ∷ row) start n k now h a l f =
    let x = first count octets p row h in
    let next = moved now (now.index + width_of p.kind) in
    let s = plain_number p.kind p.rule start n now x.plain a (omega (arith, x.within, l)) in
    let there : now.index + octets ≡ next.index + (octets - width_of p.kind) = omega (arith, x.within) in
    let g : FieldsSteps (drop count row) start n (moved now (next.index + (octets - width_of p.kind))) k =
    subst (λ (i : ℕ). FieldsSteps (drop count row) start n (moved now i) k) there f in
    (0, s.1, inl (next, k, s.0.is, front_counted count (octets - width_of p.kind) row start n k next x.rest a (omega (arith, x.within, l)) g, omega arith))

pub covered_at : (row : List Part) (at : ℕ) (d : Part) → AreCovered row → at < length row → IsCovered (get_or row at d).kind (get_or row at d).rule
covered_at [] at d c l = absurd (omega (arith, l))
covered_at (p ∷ row) zero d c l = c.0
covered_at (p ∷ row) (suc at) d c l = covered_at row at d c.1 (omega (arith, l))

module _ {row : List Part} (count octets n : ℕ) {old : Reading} (front : is_front count octets row ≡ true) (a : AreOctets old.message)
    (l : old.index + octets ≤ length old.message) where
  pub at_front : IsRowChecked row → AtPart row count n old (moved old (old.index + octets))
  at_front checked = record { so = front_so count octets row row n old old front a l (none_so row n old checked.ordered checked.covered) }

  pub counted_front : (before : ℕ) → CountedSo row count old.index n old (moved old (old.index + octets)) before before
  counted_front before = record {
    count = 0;
    so = λ k f. subst (λ (i : ℕ). FieldsSteps row old.index n old i) (omega arith) (front_counted count octets row old.index n k old front a l f);
    left = omega arith;
  }

-- all fields were taken, and the last one ends with the RDATA
pub ends_near : {row : List Part} {at start n before after : ℕ} {m : List ℕ} {now : Reading} → AtPart row at n (record { message = m; index = start }) now
    → CountedSo row at start n (record { message = m; index = start }) now before after → IsRowChecked row → length row ≤ at → now.message ≡ m
    → now.index ≡ start + n → start + n ≤ length m → NearRow row n start m before after
ends_near {row} {at} {start} {n} {before} {after} {m} {now} so counted checked last message end inside =
    let old : Reading = record { message = m; index = start } in
    let took = at_last so last in
    let here : now ≡ record { message = m; index = start + n } =
    ap (λ (l : List ℕ). record { message = l; index = now.index }) message ∙ ap (λ (i : ℕ). record { message = m; index = i }) end in
    record {
      took = subst (λ (x : Reading). TookRow row n old x) here took;
      inside = inside;
      steps = counted_last counted last refl (omega (arith, checked.least, row_fewest m start row (start + n) (took.here end)));
    }

abbrev at_octet : List ℕ → ℕ → Reading
at_octet m p = record { message = m; index = p }

-- a field that is no name follows no pointer
unfollowed : {before : ℕ} {j : Kind} (k : Kind) (old : Reading) → j ≡ k → (k ≡ Name → ⊥) → Leaves (FieldSteps j old) before before
unfollowed {before} {j} k old is other = (0, none_in j old (λ name. other (sym is ∙ name)), omega arith)

abbrev kind_at : List Part → ℕ → Part → Kind
kind_at row count d = (get_or row count d).kind

-- the field after the front takes the octets from the end of the front to that of the RDATA
abbrev SkipsLast : (row : List Part) (count octets start n : ℕ) (m : List ℕ) (d : Part) → Type 0
SkipsLast row count octets start n m d =
    Skips (get_or row count d).rule (kind_at row count d) start n (Ok tt) (at_octet m (start + octets)) (at_octet m (start + n))

-- one field is left after the front, and ends with the RDATA
module _ {row : List Part} (count octets : ℕ) {start n : ℕ} {m : List ℕ} (d : Part) (checked : IsRowChecked row) (front : is_front count octets row ≡ true)
    (last : length row ≡ count + 1) (a : AreOctets m) where
  last_near : {before after : ℕ} → start + octets ≤ length m → start + n ≤ length m → SkipsLast row count octets start n m d
      → Leaves (FieldSteps (kind_at row count d) (at_octet m (start + octets))) before after → NearRow row n start m before after
  last_near {before} {after} within inside s left =
      let at = at_front count octets n front a within checked in
      let counted = counted_front count octets n front a within before in
      ends_near (at_next d at (omega (arith, last)) refl s) (counted_next after d counted (omega (arith, last)) left s) checked (omega (arith, last)) refl refl inside

  pub octets_last : {before : ℕ} (size : ℕ) → kind_at row count d ≡ Octets size → octets + size ≡ n → start + n ≤ length m → NearRow row n start m before before
  octets_last size is e inside =
      let there = octets_there (at_octet m (start + octets)) size (start + n) (omega (arith, e), inside) in
      last_near (omega (arith, e, inside)) inside (skips_as (octets_skip there) is) (unfollowed (Octets size) (at_octet m (start + octets)) is (λ e. cc))

  pub rest_last : {before : ℕ} → kind_at row count d ≡ Rest → octets < n → start + n ≤ length m → NearRow row n start m before before
  rest_last is some inside =
      let s = rest_ends (get_or row count d).rule (kind_at row count d) start n (at_octet m (start + octets)) (Some (start + n)) is refl (omega arith) (omega (arith, some))
      (omega (arith, some), inside) in
      last_near (omega (arith, some, inside)) inside s.0 (unfollowed Rest (at_octet m (start + octets)) is (λ e. cc))

  pub name_last : {before after : ℕ} → kind_at row count d ≡ Name → start + octets ≤ length m → NameEnds m (start + octets) (start + n)
      → Leaves (NameSteps m (start + octets)) before after → NearRow row n start m before after
  name_last {before} {after} is within ends left =
      let s = name_near (get_or row count d).rule start n {d = at_octet m (start + octets)} (Some (start + n)) is refl refl ends in
      last_near within (name_inside ends.is).1 s (subst (λ (k : Kind). Leaves (FieldSteps k (at_octet m (start + octets))) before after) (sym is) left)

  pub other_last : {before : ℕ} → (kind_at row count d ≡ Name → ⊥) → start + octets ≤ length m → SkipsLast row count octets start n m d
      → NearRow row n start m before before
  other_last other within s = last_near within (skips_inside s) s (unfollowed (kind_at row count d) (at_octet m (start + octets)) refl other)
