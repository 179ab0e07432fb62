-- Parameters, tlv by tlv.
use Rattle.std.proofs.Common.{◌≡◌, ◌≢◌, ℕ, zero, suc, ◌+◌, ◌-◌, ◌*◌, ◌<◌, ◌≤◌, ◌&&◌, nat_le, true, Option, Some, None, Result, Ok, Err, List, [], ◌∷◌}
use Rattle.std.proofs.Common.{◌++◌, length, get_or, drop, map, slice_get, refl, sym, ap, ◌∙◌, subst, arith, append_assoc, length-append}
use Rattle.std.proofs.lemmas.List.{append-nil, drop_more, drop_all, get_or-map, length-map}
use Rattle.std.proofs.{lemmas.Option.slice_get-get_or, lemmas.Option.slice_get_past, lemmas.List.Sums.AllPass-from_list_all, lemmas.Simd.map-map}
use Rattle.std.proofs.{lemmas.Bool.Decides.nat_tests, Math.Nat.mul_comm}
use Rattle.dns_fields.proofs.Sorted.{flat_map_all}
use Rattle.std.specs.{List.flat_map, List.list_all, List.AllByRecursion, Result.OkIff, Result.result_ok, Cmp.first_so, Cmp.second_so, Int.bytes_high_first}
use Rattle.dns_check.proofs.ValueForms.{length_groups}
use Rattle.dns_check.proofs.Splits.{length_numbers}
use Rattle.dns_fields.specs.Tlvs.{string, tlv, tlvs, as_tlv, ParameterValue, Mandatory, Alpn, NoDefaultAlpn, Port, Ipv4Hint, Ipv6Hint, Opaque}
use Rattle.dns_fields.specs.{Tlvs.parameter_octets, Tlvs.parameter_emittable, Tlvs.rising, Labels.lowname, Fields.field_octets, Fields.parameter_tlvs}
use Rattle.dns_fields.specs.declared.Kind.{TheVariants.Name}
use Rattle.dns_canonical.specs.{Steps.GivesStep, Steps.StepAt, declared.step.Step.Step}
use Rattle.dns_rdata_service.specs.Steps.{parameter_head, value_front, value_items, parameters_from, items_of, parameters_left, svcb_left}
use Rattle.dns_rdata_service.specs.{Steps.AreEmittable, Steps.IsSizeOf, Steps.NextParameter, Steps.GivesParameter, declared.svcb.key.SvcParamKey.SvcParamKey}
use Rattle.dns_rdata_service.specs.{SvcParamValue.value_of, SvcParamValue.fits_value, Parameters.Parameter, Parameters.parameter_of, ParameterOrder.joined}
use Rattle.dns_rdata_service.specs.{declared.svcb.SVCB.SVCB, SvcParamKey.key_number}

-- ---- items

pub item_got : {X : Type 0} (f : X → List ℕ) (xs : List X) (i : ℕ) (d : X) (s : List ℕ) → i < length xs → s ≡ f (get_or xs i d)
    → drop i (map f xs) ≡ s ∷ drop (i + 1) (map f xs)
item_got f xs i d s h e =
    drop_more (map f xs) i s (omega (arith, length-map xs f, h)) ∙ ap (λ t. t ∷ drop (i + 1) (map f xs)) (get_or-map f xs i d s h ∙ sym e)

pub item_gives : {X : Type 0} (f : X → List ℕ) (xs : List X) (i : ℕ) (x : X) (s : List ℕ) → i < length xs → x ≡ get_or xs i x → s ≡ f x
    → drop i (map f xs) ≡ s ∷ drop (i + 1) (map f xs)
item_gives f xs i x s h is e = item_got f xs i x s h (e ∙ ap f is)

pub key_gives : (keys : List SvcParamKey) (i : ℕ) (d : SvcParamKey) (s : List ℕ) → i < length keys → s ≡ bytes_high_first 2 (key_number (get_or keys i d))
    → drop i (map (bytes_high_first 2) (map key_number keys)) ≡ s ∷ drop (i + 1) (map (bytes_high_first 2) (map key_number keys))
key_gives keys i d s h e = rw (map-map (bytes_high_first 2) key_number keys) (item_got (λ k. bytes_high_first 2 (key_number k)) keys i d s h e)

-- ---- parameters

-- a value is its one run of octets, and its items
pub value_parts : (v : ParameterValue) → parameter_octets v ≡ value_front v ++ flat_map (λ s. s) (value_items v)
value_parts (Mandatory keys) = sym (flat_map_all (bytes_high_first 2) keys)
value_parts (Alpn names) = sym (flat_map_all string names)
value_parts NoDefaultAlpn = refl
value_parts (Port n) = sym (append-nil (bytes_high_first 2 n))
value_parts (Ipv4Hint addresses) = refl
value_parts (Ipv6Hint addresses) = refl
value_parts (Opaque s) = sym (append-nil s)

pub fits_at : (ps : List Parameter) (i : ℕ) (p : Parameter) → AreEmittable ps → i < length ps → p ≡ get_or ps i p → fits_value (value_of p.1) ≡ true
fits_at ps i p a h e =
    let xs = map parameter_of ps in
    subst (λ x. fits_value x.1 ≡ true) (get_or-map parameter_of ps i p (parameter_of p) h ∙ ap parameter_of (sym e))
    (AllPass-from_list_all (λ x. fits_value x.1) xs (first_so (list_all (λ x. fits_value x.1) xs) (rising xs) a) i (parameter_of p) (omega (arith, length-map ps parameter_of, h)))

pub emittable_at : (ps : List Parameter) (i : ℕ) (p : Parameter) → AreEmittable ps → i < length ps → p ≡ get_or ps i p
    → parameter_emittable (value_of p.1) ≡ true
emittable_at ps i p a h e = second_so (nat_le (length (parameter_octets (value_of p.1))) 65535) (parameter_emittable (value_of p.1)) (fits_at ps i p a h e)

-- the parameter with an index, and those after it
from_next : (ps : List Parameter) (i : ℕ) (p : Parameter) → i < length ps → p ≡ get_or ps i p
    → parameters_from ps i ≡ tlv (as_tlv parameter_octets (parameter_of p)) ++ parameters_from ps (i + 1)
from_next ps i p h e =
    ap (λ (l : List Parameter). tlvs (parameter_tlvs (map parameter_of l))) (drop_more ps i p h ∙ ap (λ (q : Parameter). q ∷ drop (i + 1) ps) (sym e))

pub parameters_end : (ps : List Parameter) (i : ℕ) → length ps ≤ i → parameters_from ps i ≡ []
parameters_end ps i h = ap (λ (l : List Parameter). tlvs (parameter_tlvs (map parameter_of l))) (drop_all i ps h)

items_at : (ps : List Parameter) (i : ℕ) (p : Parameter) → i < length ps → p ≡ get_or ps i p → items_of (slice_get ps i) ≡ value_items (value_of p.1)
items_at ps i p h e = ap items_of (slice_get-get_or ps i p h) ∙ ap (λ (q : Parameter). value_items (value_of q.1)) (sym e)

pub head_given : (ps : List Parameter) (i : ℕ) (p : Parameter) (head tail : List ℕ) → i < length ps → p ≡ get_or ps i p
    → head ++ tail ≡ parameter_head p ++ value_front (value_of p.1) → NextParameter ps i 0 head (record { tail = tail; step = 1; part = i; item = 1 })
head_given ps i p head tail h e r = record {
  octets = parts;
  step = refl;
  some = omega (arith, ap length r, length-append (parameter_head p) (value_front (value_of p.1)));
}
  where
    parts : parameters_left ps i 0 ≡ (head ++ tail) ++ parameters_left ps i 1
    parts =
        let front = value_front (value_of p.1) in
        let items = flat_map (λ s. s) (value_items (value_of p.1)) in
        let rest = parameters_from ps (i + 1) in
        from_next ps i p h e
        ∙ ap (λ (l : List ℕ). (parameter_head p ++ l) ++ rest) (value_parts (value_of p.1))
        ∙ ap (λ (l : List ℕ). l ++ rest) (sym (append_assoc (parameter_head p) front items))
        ∙ append_assoc (parameter_head p ++ front) items rest
        ∙ ap (λ (l : List ℕ). l ++ (items ++ rest)) (sym r)
        ∙ ap (λ (l : List (List ℕ)). (head ++ tail) ++ (flat_map (λ s. s) l ++ rest)) (sym (items_at ps i p h e))

pub item_step : (ps : List Parameter) (i n : ℕ) (p : Parameter) (head tail : List ℕ) → 0 < n → i < length ps → p ≡ get_or ps i p
    → (drop (n - 1) (value_items (value_of p.1)) ≡ (head ++ tail) ∷ drop (n - 1 + 1) (value_items (value_of p.1))) × (0 < length (head ++ tail))
    → NextParameter ps i n head (record { tail = tail; step = 1; part = i; item = n + 1 })
item_step ps i n p head tail some h e g =
    let up : n ≡ suc (n - 1) = omega (arith, some) in
    let up2 : n + 1 ≡ suc (n - 1 + 1) = omega (arith, some) in
    let rest = parameters_from ps (i + 1) in
    let own = items_at ps i p h e in
    record {
      octets = ap (parameters_left ps i) up
          ∙ ap (λ (l : List (List ℕ)). flat_map (λ s. s) (drop (n - 1) l) ++ rest) own
          ∙ ap (λ (l : List (List ℕ)). flat_map (λ s. s) l ++ rest) g.0
          ∙ append_assoc (head ++ tail) (flat_map (λ s. s) (drop (n - 1 + 1) (value_items (value_of p.1)))) rest
          ∙ ap (λ (l : List (List ℕ)). (head ++ tail) ++ (flat_map (λ s. s) (drop (n - 1 + 1) l) ++ rest)) (sym own)
          ∙ ap (λ (k : ℕ). (head ++ tail) ++ parameters_left ps i k) (sym up2);
      step = refl;
      some = g.1;
    }

-- after the last item comes the next parameter
pub after_items : (ps : List Parameter) (i n : ℕ) (p : Parameter) (head : List ℕ) (r : Option Step) → 0 < n → i < length ps → p ≡ get_or ps i p
    → drop (n - 1) (value_items (value_of p.1)) ≡ [] → GivesParameter ps (i + 1) 0 head r → GivesParameter ps i n head r
after_items ps i n p head r some h e none g = by r g
  where
    same : parameters_left ps i n ≡ parameters_left ps (i + 1) 0
    same =
        let up : n ≡ suc (n - 1) = omega (arith, some) in
        let rest = parameters_from ps (i + 1) in
        ap (parameters_left ps i) up ∙ ap (λ (l : List (List ℕ)). flat_map (λ s. s) (drop (n - 1) l) ++ rest) (items_at ps i p h e)
        ∙ ap (λ (l : List (List ℕ)). flat_map (λ s. s) l ++ rest) none

    by : (r : Option Step) → GivesParameter ps (i + 1) 0 head r → GivesParameter ps i n head r
    by None g = (same ∙ g.0, g.1)
    by (Some s) g = record { octets = same ∙ g.octets; step = g.step; some = g.some }

pub past_items : (ps : List Parameter) (i n : ℕ) (head : List ℕ) → length ps ≤ i → head ≡ [] → (parameters_left ps i n ≡ []) × (head ≡ [])
past_items ps i zero head h e = (parameters_end ps i h, e)
past_items ps i (suc j) head h e = (
  ap (λ (o : Option Parameter). flat_map (λ s. s) (drop j (items_of o)) ++ parameters_from ps (i + 1)) (slice_get_past ps i h)
      ∙ ap (λ (l : List (List ℕ)). flat_map (λ s. s) l ++ parameters_from ps (i + 1)) (drop_all j [] (omega arith))
      ∙ parameters_end ps (i + 1) (omega (arith, h)),
  e,
)

-- ---- the record

pub target_step : (x : SVCB) (i j : ℕ) (head tail : List ℕ) → head ++ tail ≡ bytes_high_first 2 x.svc_priority ++ field_octets Name x.target_name
    → StepAt (svcb_left x) 0 i j head (record { tail = tail; step = 1; part = 0; item = 0 })
unfolding field_octets
target_step x i j head tail r = record {
  octets = sym (append_assoc (bytes_high_first 2 x.svc_priority) (lowname x.target_name) (parameters_from x.svc_params 0 ++ []))
      ∙ ap (λ (l : List ℕ). l ++ (parameters_from x.svc_params 0 ++ [])) (sym r) ∙ ap (λ (l : List ℕ). (head ++ tail) ++ l) (append-nil (parameters_from x.svc_params 0));
  after = omega arith;
  more = omega arith;
  few = omega arith;
}

pub parameter_gives_step : (x : SVCB) (i j : ℕ) (head : List ℕ) (r : Option Step) → GivesParameter x.svc_params i j head r
    → GivesStep (svcb_left x) 1 i j head r
parameter_gives_step x i j head None g = record { octets = g.0; nothing = g.1 }
parameter_gives_step x i j head (Some s) g =
    let back : parameters_left x.svc_params s.part s.item ≡ svcb_left x s.step s.part s.item = ap (λ (n : ℕ). svcb_left x n s.part s.item) (sym g.step) in
    record {
      octets = g.octets ∙ ap (λ (l : List ℕ). (head ++ s.tail) ++ l) back;
      after = omega (arith, g.step);
      more = omega (arith, g.step, g.some);
      few = omega (arith, g.step);
    }

-- ---- what can be emitted

pub keys_size : (keys : List SvcParamKey) → length (flat_map (bytes_high_first 2) (map key_number keys)) ≡ 2 * length keys
keys_size keys = length_numbers (map key_number keys) ∙ ap (λ n. 2 * n) (length-map keys key_number)

pub keys_then : (keys : List SvcParamKey) → length keys ≢ 0 → nat_le (length keys) 32767 ≡ fits_value (Mandatory (map key_number keys))
keys_then [] some = absurd (some refl)
keys_then (k ∷ ks) some = both (length (k ∷ ks)) (omega arith) ∙ ap (λ n. nat_le n 65535 && true) (sym (keys_size (k ∷ ks)))
  where
    both : (n : ℕ) → 0 < n → nat_le n 32767 ≡ (nat_le (2 * n) 65535 && true)
    both n h = grind (arith, nat_tests, h)

-- addresses of as many octets each
groups_size : {X : Type 0} (k : ℕ) (octets : X → List ℕ) (xs : List X) → AllByRecursion (λ s. length s ≡ k) (map octets xs)
    → length (joined (map octets xs)) ≡ length xs * k
groups_size k octets xs h = length_groups k (map octets xs) h ∙ ap (λ n. k * n) (length-map xs octets) ∙ mul_comm k (length xs)

pub joined_long : {X : Type 0} (k : ℕ) (octets : X → List ℕ) (xs : List X) → AllByRecursion (λ s. length s ≡ k) (map octets xs) → 65535 < length xs * k
    → IsSizeOf (Opaque (joined (map octets xs))) None
joined_long k octets xs h more = rw (groups_size k octets xs h) (grind (arith, nat_tests, more))

pub joined_size : {X E : Type 0} (k n : ℕ) (octets : X → List ℕ) (xs : List X) (r : Result ℕ E) → AllByRecursion (λ s. length s ≡ k) (map octets xs)
    → n ≡ length xs * k → OkIff r (n < 65536) n → IsSizeOf (Opaque (joined (map octets xs))) (result_ok r)
joined_size k n octets xs (Err e) h is m = joined_long k octets xs h (omega (arith, m, is))
joined_size k n octets xs (Ok x) h is m =
    let long : n ≡ length (joined (map octets xs)) = is ∙ sym (groups_size k octets xs h) in (rw (← long) (grind (arith, nat_tests, m.0)), m.1 ∙ long)
