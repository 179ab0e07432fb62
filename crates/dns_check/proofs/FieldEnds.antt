-- The offset after a field, by a few comparisons.
use Rattle.std.proofs.Common.{◌≡◌, ℕ, suc, ◌+◌, ◌-◌, ◌≤◌, ◌<◌, List, ◌∷◌, length, length-drop, take, drop, drop-cons, get_or, refl, sym, ap, ◌∙◌, arith, subst}
use Rattle.std.proofs.Common.{Ok, Option, Some, None, IfSome}
use Rattle.std.proofs.lemmas.List.{length-take-le}
use Rattle.dns_fields.specs.declared.Kind.{Kind}
use Rattle.dns_fields.specs.declared.Kind.TheVariants.{Number, Octets, Name, CharacterString, Rest}
use Rattle.dns_fields.specs.{Octets.AreOctets, Names.IsNameIn}
use Rattle.dns_fields.proofs.{FieldLaws.field_inside, OctetLaws.AreOctets-same, OctetLaws.AreOctets-head, OctetLaws.AreOctets-drop}
use Rattle.dns_names_wire.specs.{State.Reading, Terms.TookField}
use Rattle.dns_rows.specs.declared.row.{Rule.Rule}
use Rattle.dns_rows.specs.declared.row.Rule.TheVariants as rules
use Rattle.dns_names_wire.specs.{NameEnds.NameEnds, Terms.moved}
use Rattle.dns_check.specs.{Parts.IsUnasked, Parts.Skips, RowSteps.FieldSteps}
use Rattle.dns_check.proofs.StepRows.{none_in}
use Rattle.dns_check.proofs.Skips.{skips_as, number_skips, octets_skip, name_skips, string_skips, rest_skips}

-- the offset after so many octets, which the message has
abbrev EndsAfter : Reading → ℕ → ℕ → Type 0
EndsAfter d size end = (end ≡ d.index + size) × (end ≤ length d.message)

if_some : {P Q : ℕ → Type 0} (r : Option ℕ) → ((end : ℕ) → P end → Q end) → IfSome r P → IfSome r Q
if_some None f h = tt
if_some (Some end) f h = f end h

pub octets_there : (d : Reading) (size end : ℕ) → EndsAfter d size end → TookField d (Octets size) (take size (drop d.index d.message)) (moved d end)
octets_there d size end e =
    let s = drop d.index d.message in
    let n : length (take size s) ≡ size = length-take-le size s (omega (arith, e, length-drop d.index d.message)) in
    record {
      message = refl;
      field = record {
        is = (
          n,
          record { ends = omega (arith, e, n); within = e.1; same = ap (λ (k : ℕ). take k s) n },
        );
      };
    }

string_there : (d : Reading) (end : ℕ) → AreOctets d.message → EndsAfter d (get_or d.message d.index 0 + 1) end
    → TookField d CharacterString (take (get_or d.message d.index 0) (drop (suc d.index) d.message)) (moved d end)
string_there d end octets e =
    let m = d.message in
    let p = d.index in
    let n = get_or m p 0 in
    let s = take n (drop (suc p) m) in
    let size : length s ≡ n = length-take-le n (drop (suc p) m) (omega (arith, e, length-drop (suc p) m)) in
    let first : drop p m ≡ n ∷ drop (suc p) m = drop-cons m p 0 (omega (arith, e)) in
    let small : n < 256 = AreOctets-head n (drop (suc p) m) (AreOctets-same (drop p m) (n ∷ drop (suc p) m) first (AreOctets-drop p m octets)) in
    record {
      message = refl;
      field = record {
        is = (
          omega (arith, size, small),
          record {
            ends = omega (arith, e, size);
            within = e.1;
            same = ap (λ (k : ℕ). take (suc k) (drop p m)) size ∙ ap (take (suc n)) first ∙ ap (λ (k : ℕ). k ∷ s) (sym size);
          },
        );
      };
    }

no_flags : (rule : Rule) (w : ℕ) → (rule ≡ rules.KnownFlags → ⊥) → IsUnasked rule (Number w)
no_flags rules.KnownFlags w ne = absurd (ne refl)
no_flags rule w ne = tt

plain_string : (rule : Rule) → (rule ≡ rules.Letters → ⊥) → (rule ≡ rules.Tag → ⊥) → IsUnasked rule CharacterString
plain_string rules.Letters a b = absurd (a refl)
plain_string rules.Tag a b = absurd (b refl)
plain_string rule a b = tt

-- ---- a field of n octets of RDATA from start, by the offset after it

module _ (rule : Rule) (k : Kind) (start n : ℕ) (d : Reading) (r : Option ℕ) where
  abbrev SkipsTo : Type 0
  SkipsTo = IfSome r (λ end. Skips rule k start n (Ok tt) d (moved d end) × FieldSteps k d 0)

  told : {l : Kind} {P : ℕ → Type 0} → k ≡ l → FieldSteps l d 0 → ((end : ℕ) → P end → Skips rule l start n (Ok tt) d (moved d end)) → IfSome r P → SkipsTo
  told {l} {P} is none skips =
      if_some {P = P} r (λ end e. (skips_as (skips end e) is, subst (λ (x : Kind). FieldSteps x d 0) (sym is) none))

  pub number_ends : (w : ℕ) → k ≡ Number w → (rule ≡ rules.KnownFlags → ⊥) → AreOctets d.message → IfSome r (EndsAfter d w) → SkipsTo
  number_ends w is ne octets = told {P = EndsAfter d w} is refl (λ end e. number_skips (octets_there d w end e) octets (no_flags rule w ne))

  pub octets_ends : (w : ℕ) → k ≡ Octets w → IfSome r (EndsAfter d w) → SkipsTo
  octets_ends w is = told {P = EndsAfter d w} is refl (λ end e. octets_skip (octets_there d w end e))

  pub string_ends : k ≡ CharacterString → (rule ≡ rules.Letters → ⊥) → (rule ≡ rules.Tag → ⊥) → AreOctets d.message
      → IfSome r (EndsAfter d (get_or d.message d.index 0 + 1)) → SkipsTo
  string_ends is a b octets =
      told {P = EndsAfter d (get_or d.message d.index 0 + 1)} is refl (λ end e. string_skips (string_there d end octets e) (plain_string rule a b))

  pub other_ends : {l : Kind} {m : List ℕ} {p : ℕ} → k ≡ l → (l ≡ Name → ⊥) → m ≡ d.message → p ≡ d.index
      → IfSome r (λ end. Skips rule k start n (Ok tt) (record { message = m; index = p }) (record { message = m; index = end })) → SkipsTo
  other_ends {l} is other message index h = if_some {P = λ end. Skips rule k start n (Ok tt) d (moved d end)} r
      (λ end e. (e, none_in k d (λ name. other (sym is ∙ name)))) (rw (message, index) at h)

  pub rest_ends : {p : ℕ} → k ≡ Rest → p ≡ d.index → start ≤ d.index → p < start + n → IfSome r (EndsAfter d (start + n - p)) → SkipsTo
  rest_ends {p} is at before some = told {P = EndsAfter d (start + n - p)} is refl (λ end e.
      let size : start + n - p ≡ n - (d.index - start) = omega (arith, before, some, at) in
      rest_skips (octets_there d (n - (d.index - start)) end (subst (λ (i : ℕ). EndsAfter d i end) size e)) before
      (omega (arith, before, some, at)) (λ e. omega (arith, before, some, at)))

-- a name that is encoded there
pub name_near : (rule : Rule) {k : Kind} (start n : ℕ) {d : Reading} {m : List ℕ} {p : ℕ} (r : Option ℕ) → k ≡ Name → m ≡ d.message → p ≡ d.index
    → IfSome r (λ end. NameEnds m p end) → IfSome r (λ end. Skips rule k start n (Ok tt) d (moved d end))
name_near rule {k} start n {d} {m} {p} r is message index there =
    if_some {P = λ (end : ℕ). NameEnds m p end} r (λ end e.
    let found : IsNameIn d.message d.index e.name end = subst (λ (i : ℕ). IsNameIn d.message i e.name end) index
    (subst (λ (t : List ℕ). IsNameIn t p e.name end) message e.is) in
    skips_as (name_skips (record { value = e.name; took = record { message = refl; field = record { is = found } } })) is) there

pub skips_inside : {rule : Rule} {k : Kind} {start n end : ℕ} {d : Reading} → Skips rule k start n (Ok tt) d (moved d end) → end ≤ length d.message
skips_inside s = (field_inside s.is.took.field).1

-- where a field ends that was taken
pub taken_to : {rule : Rule} {k : Kind} {start n : ℕ} {d new : Reading} → Skips rule k start n (Ok tt) d new → Skips rule k start n (Ok tt) d (moved d new.index)
taken_to {rule} {k} {start} {n} {d} {new} s =
    subst (λ (m : List ℕ). Skips rule k start n (Ok tt) d (record { message = m; index = new.index })) s.is.took.message s
