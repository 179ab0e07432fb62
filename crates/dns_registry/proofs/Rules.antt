-- What fields show, by their kinds; and names that are not compressed.
use Rattle.std.proofs.Common.{Bor, ◌≡◌, ◌↔◌, ℕ, ◌+◌, Bool, true, List, [], ◌∷◌, ◌++◌, length, Some, None, sym, ◌∙◌, ap, arith, subst, length-append, ◌/◌, ◌%◌}
use Rattle.std.specs.List.{flat_map}
use Rattle.dns_fields.specs.declared.Kind.TheVariants.{Number, Octets, Name, CharacterString, CharacterStrings, Rest, Options, Parameters, Bitmap}
use Rattle.dns_fields.specs.{Octets.At, Fields.Value, Tlvs.string}
use Rattle.dns_fields.specs.{Labels.DomainName, Labels.AreLabels, Labels.wire, Names.IsNameIn, Names.LabelsStand, Names.LabelsStand.whole, Names.LabelsStand.pointed}
use Rattle.dns_fields.proofs.{Unique.unique, Unique.apart, Unique.zero_stop, Unique.pointer_stop, Runs.same_run, Stays.labels_stand}
use Rattle.dns_labels.specs.Reading.{IsRun}
use Rattle.dns_view.specs.declared.row.field.FieldRef.TheVariants as shown
use Rattle.dns_view.specs.declared.name.name_ref.NameRef.{NameRef}
use Rattle.dns_registry.specs.declared.rule.FieldRule.{FieldRule}
use Rattle.dns_registry.specs.declared.rule.FieldRule.TheVariants as rules
use Rattle.dns_registry.specs.FieldRules.{Passes}
use Rattle.dns_registry.proofs.Passing.{Tells}

-- ---- uncompressed names

-- a run of labels that an octet 0 ends is the name
pub run_whole : {m : List ℕ} {p q end : ℕ} {x : DomainName} {front : List (List ℕ)} → IsRun m p front None end → IsNameIn m p x q
    → q ≡ p + length (wire x.labels) + 1
run_whole {m} {p} {q} {end} {x} {front} r h =
    let u = unique h.stands (whole {message = m} {offset = p} {end = end} {labels = front} r.behind r.are r.stands (omega (arith, r.ends))) in
    omega (arith, u.1, r.ends, ap (λ (l : List (List ℕ)). length (wire l)) u.0)

wire_append : (a b : List (List ℕ)) → length (wire (a ++ b)) ≡ length (wire a) + length (wire b)
wire_append [] b = omega arith
wire_append (l ∷ a) b = omega (arith, wire_append a b, length-append l (wire (a ++ b)), length-append l (wire a))

-- labels have no octets, or two at least
not_one : (labels : List (List ℕ)) → AreLabels labels → length (wire labels) ≡ 1 → ⊥
not_one [] h e = omega (arith, e)
not_one (l ∷ labels) h e = omega (arith, e, h.0.0, length-append l (wire labels))

-- after a pointer the name is not uncompressed
pub run_pointed : {m : List ℕ} {p q end target : ℕ} {x : DomainName} {front : List (List ℕ)} → IsRun m p front (Some target) end → IsNameIn m p x q
    → q ≡ p + length (wire x.labels) + 1 → ⊥
run_pointed {m} {p} {q} {end} {target} {x} {front} r h e = by h.stands e
  where
    by : {labels : List (List ℕ)} → LabelsStand m p labels q → q ≡ p + length (wire labels) + 1 → ⊥
    by {labels} (whole b hx s ends) e =
        apart target (same_run labels front b (target % 256 ∷ r.behind) 0 (192 + target / 256) hx r.are zero_stop (pointer_stop target) (sym s ∙ r.stands)).1
    by {labels} (pointed f rest t re b hf s lt lp st j ends) e =
        not_one rest (labels_stand st) (omega (arith, e, ends, ap (λ (l : List (List ℕ)). length (wire l)) j, wire_append f rest))

-- ---- what a field shows

-- nothing is asked of fields of these kinds
free_octets : (rule : FieldRule) (m : List ℕ) (p n : ℕ) (v : List ℕ) (q : ℕ) → Passes rule m p (Octets n) v q
free_octets rules.Uncompressed m p n v q = tt
free_octets rule m p n v q = tt

free_options : (rule : FieldRule) (m : List ℕ) (p : ℕ) (v : Value Options) (q : ℕ) → Passes rule m p Options v q
free_options rules.Uncompressed m p v q = tt
free_options rule m p v q = tt

free_parameters : (rule : FieldRule) (m : List ℕ) (p : ℕ) (v : Value Parameters) (q : ℕ) → Passes rule m p Parameters v q
free_parameters rules.Uncompressed m p v q = tt
free_parameters rule m p v q = tt

yes : {b : Bool} {P : Type 0} → b ≡ true → P → (b ≡ true) ↔ P
yes e p = ((λ h. p), (λ h. e))

module _ (b : Bool) (rule : FieldRule) (m : List ℕ) where
  pub number_tells : (n : ℕ) → ((m : List ℕ) (p w q : ℕ) → (b ≡ true) ↔ Passes rule m p (Number w) n q) → Tells b rule (shown.Number n) m
  number_tells n h p (Number w) v q f s = subst (λ (x : ℕ). (b ≡ true) ↔ Passes rule m p (Number w) x q) s.is (h m p w q)
  number_tells n h p k v q f s = absurd s.is

  pub string_tells : {s : Bor (List ℕ)} → ((m : List ℕ) (p q : ℕ) → (b ≡ true) ↔ Passes rule m p CharacterString s.now q)
      → Tells b rule (shown.CharacterString s) m
  string_tells h p CharacterString v q f s = subst (λ (x : List ℕ). (b ≡ true) ↔ Passes rule m p CharacterString x q) s.is (h m p q)
  string_tells h p k v q f s = absurd s.is

  pub strings_tell : {s : Bor (List ℕ)}
      → ((m : List ℕ) (p : ℕ) (v : List (List ℕ)) (q : ℕ) → s.now ≡ flat_map string v → (b ≡ true) ↔ Passes rule m p CharacterStrings v q)
      → Tells b rule (shown.CharacterStrings s) m
  strings_tell h p CharacterStrings v q f s = h m p v q s.is
  strings_tell h p k v q f s = absurd s.is

  pub rest_tells : {s : Bor (List ℕ)} → ((m : List ℕ) (p q : ℕ) → (b ≡ true) ↔ Passes rule m p Rest s.now q) → Tells b rule (shown.Rest s) m
  rest_tells h p Rest v q f s = subst (λ (x : List ℕ). (b ≡ true) ↔ Passes rule m p Rest x q) s.is (h m p q)
  rest_tells h p k v q f s = absurd s.is

  pub bitmap_tells : {s : Bor (List ℕ)} → ((m : List ℕ) (p : ℕ) (v : List ℕ) (q : ℕ) → At m p s.now q → (b ≡ true) ↔ Passes rule m p Bitmap v q)
      → Tells b rule (shown.Bitmap s) m
  bitmap_tells h p Bitmap v q f s = h m p v q s.is
  bitmap_tells h p k v q f s = absurd s.is

  pub name_tells : {r : NameRef} → ((x : DomainName) (q : ℕ) → IsNameIn m r.offset x q → (b ≡ true) ↔ Passes rule m r.offset Name x q)
      → Tells b rule (shown.Name r) m
  name_tells {r} h p Name v q f s =
      subst (λ (i : ℕ). (b ≡ true) ↔ Passes rule m i Name v q) s.is.1 (h v q (subst (λ (i : ℕ). IsNameIn m i v q) (sym s.is.1) f.is))
  name_tells {r} h p k v q f s = absurd s.is

  pub octets_tell : {s : Bor (List ℕ)} → b ≡ true → Tells b rule (shown.Octets s) m
  octets_tell e p (Octets n) v q f s = yes e (free_octets rule m p n v q)
  octets_tell e p k v q f s = absurd s.is

  pub options_tell : {s : Bor (List ℕ)} → b ≡ true → Tells b rule (shown.Options s) m
  options_tell e p Options v q f s = yes e (free_options rule m p v q)
  options_tell e p k v q f s = absurd s.is

  pub parameters_tell : {s : Bor (List ℕ)} → b ≡ true → Tells b rule (shown.Parameters s) m
  parameters_tell e p Parameters v q f s = yes e (free_parameters rule m p v q)
  parameters_tell e p k v q f s = absurd s.is
