-- How two lists of parameters are ordered by their canonical octets.
use Rattle.std.proofs.Common.{◌≡◌, ◌≢◌, ℕ, ◌-◌, ◌^◌, ◌≤◌, ◌<◌, List, [], ◌++◌, length, take, drop, refl, sym, ap, ◌∙◌, arith, append_assoc}
use Rattle.std.proofs.lemmas.{List.length-append, Map.Lookups.exact_bytes}
use Rattle.std.specs.{Int.bytes_high_first, Cmp.Lexicographic.slice_cmp, Ordering.nat_cmp, Ordering.ordering_then}
use Rattle.std.specs.declared.cmp.Ordering.{Ordering, TheVariants.Less, TheVariants.Equal, TheVariants.Greater}
use Rattle.dns_fields.specs.{Fields.Value, Fields.Field, Fields.field_octets, Fields.parameter_tlvs, declared.Kind.TheVariants.Parameters}
use Rattle.dns_fields.specs.Tlvs.{Numbered, ParameterValue, ParameterHeld, IsTlv, tlv, tlvs, parameter_octets}
use Rattle.dns_fields.proofs.{Numbers.length-bytes, Numbers.same_number, Tlvs.tlv_before, Tlvs.parts, ParameterLaws.parameter_fit}
use Rattle.dns_canonical.proofs.{Fronts.front_then, Comparing.then_kept}
use Rattle.dns_check.proofs.{ParameterLists.StandEach, ParameterLists.OneOf, ParameterLists.parameters_each, Alone.between_is}
use Rattle.dns_check.proofs.HeldLists.{EndsAt, NoTlv, FirstOf, first_of, none_left}

-- ---- two parameters

abbrev head : ℕ → List ℕ → List ℕ
head k p = bytes_high_first 2 k ++ bytes_high_first 2 (length p)

head_long : (k : ℕ) (p : List ℕ) → length (head k p) ≡ 4
head_long k p = omega (arith, length-append (bytes_high_first 2 k) (bytes_high_first 2 (length p)), length-bytes 2 k, length-bytes 2 (length p))

before : (k : ℕ) (p s : List ℕ) → tlv (k, p) ++ s ≡ head k p ++ (p ++ s)
before k p s = tlv_before (k, p) s ∙ sym (append_assoc (bytes_high_first 2 k) (bytes_high_first 2 (length p)) (p ++ s))

heads_then : (k l : ℕ) (p q s t : List ℕ) → slice_cmp nat_cmp (tlv (k, p) ++ s) (tlv (l, q) ++ t)
    ≡ ordering_then (slice_cmp nat_cmp (head k p) (head l q)) (slice_cmp nat_cmp (p ++ s) (q ++ t))
heads_then k l p q s t =
    ap (λ (x : List ℕ). slice_cmp nat_cmp x (tlv (l, q) ++ t)) (before k p s) ∙ ap (λ (x : List ℕ). slice_cmp nat_cmp (head k p ++ (p ++ s)) x) (before l q t)
    ∙ front_then (head k p) (head l q) (p ++ s) (q ++ t) (head_long k p ∙ sym (head_long l q))

bodies_then : (k l : ℕ) (p q s t : List ℕ) → slice_cmp nat_cmp (head k p) (head l q) ≡ Equal → length p < 256 ^ 2 → length q < 256 ^ 2
    → slice_cmp nat_cmp (p ++ s) (q ++ t) ≡ ordering_then (slice_cmp nat_cmp p q) (slice_cmp nat_cmp s t)
bodies_then k l p q s t e f g =
    let same : head k p ≡ head l q = exact_bytes (head k p) (head l q) e in
    let sizes = (parts (bytes_high_first 2 k) (bytes_high_first 2 (length p)) (bytes_high_first 2 l) (bytes_high_first 2 (length q))
    (length-bytes 2 k ∙ sym (length-bytes 2 l)) same).1 in
    front_then p q s t (same_number 2 (length p) (length q) f g sizes)

-- ---- the parameters that are left

pub record TwoLists (a : List ℕ) (i : ℕ) (b : List ℕ) (j : ℕ) (u v : Value Parameters) : Type 0 where
  pub xs : List (Numbered ParameterValue)
  pub ys : List (Numbered ParameterValue)
  pub left : StandEach OneOf a i xs (length a)
  pub right : StandEach OneOf b j ys (length b)
  pub same : slice_cmp nat_cmp (tlvs (parameter_tlvs u)) (tlvs (parameter_tlvs v)) ≡ slice_cmp nat_cmp (tlvs (parameter_tlvs xs)) (tlvs (parameter_tlvs ys))

-- those before the offsets are the same
pub record BothAt (a : List ℕ) (i : ℕ) (b : List ℕ) (j : ℕ) : Type 0 where
  pub inside : i ≤ length a
  pub inside_too : j ≤ length b
  pub only : (u v : Value Parameters) → Field a 0 Parameters u (length a) → Field b 0 Parameters v (length b) → TwoLists a i b j u v

pub both_first : (a b : List ℕ) → BothAt a 0 b 0
both_first a b = record {
  inside = omega arith;
  inside_too = omega arith;
  only = λ u v f g. record { xs = u; ys = v; left = parameters_each f; right = parameters_each g; same = refl };
}

-- ---- the next parameter

abbrev pub NextOf : List ℕ → ℕ → ℕ → List (Numbered ParameterValue) → Type 0
NextOf = FirstOf ParameterHeld

pub next_octets : {octets : List ℕ} {offset end : ℕ} {all : List (Numbered ParameterValue)} (x : NextOf octets offset end all)
    → tlvs (parameter_tlvs all) ≡ tlv (x.first.0, parameter_octets x.first.1) ++ tlvs (parameter_tlvs x.rest)
next_octets x = ap (λ (xs : List (Numbered ParameterValue)). tlvs (parameter_tlvs xs)) x.is

short : {octets : List ℕ} {offset end : ℕ} {all : List (Numbered ParameterValue)} (x : NextOf octets offset end all)
    → length (parameter_octets x.first.1) < 256 ^ 2
short x = (parameter_fit x.first.0 x.one.octets x.first.1 x.one.fits.0 x.one.fits.1 x.one.held).0.1

-- ---- what the code knows of two parts

abbrev pub HeadOf : List ℕ → List ℕ → Type 0
HeadOf part h = (key : ℕ) (body : List ℕ) (v : ParameterValue) → part ≡ tlv (key, body) → IsTlv (key, body) → ParameterHeld key body v
    → h ≡ bytes_high_first 2 key ++ bytes_high_first 2 (length (parameter_octets v))

abbrev pub BodyOf : List ℕ → List ℕ → Type 0
BodyOf part s = (key : ℕ) (body : List ℕ) (v : ParameterValue) → part ≡ tlv (key, body) → IsTlv (key, body) → ParameterHeld key body v
    → s ≡ parameter_octets v

whole_cmp : {a b : List ℕ} {i p j q : ℕ} {xs ys : List (Numbered ParameterValue)} (f : NextOf a i p xs) (g : NextOf b j q ys)
    → slice_cmp nat_cmp (tlvs (parameter_tlvs xs)) (tlvs (parameter_tlvs ys))
    ≡ ordering_then (slice_cmp nat_cmp (head f.first.0 (parameter_octets f.first.1)) (head g.first.0 (parameter_octets g.first.1)))
    (slice_cmp nat_cmp (parameter_octets f.first.1 ++ tlvs (parameter_tlvs f.rest)) (parameter_octets g.first.1 ++ tlvs (parameter_tlvs g.rest)))
whole_cmp {ys = ys} f g =
    ap (λ (s : List ℕ). slice_cmp nat_cmp s (tlvs (parameter_tlvs ys))) (next_octets f)
    ∙ ap (λ (s : List ℕ). slice_cmp nat_cmp (tlv (f.first.0, parameter_octets f.first.1) ++ tlvs (parameter_tlvs f.rest)) s) (next_octets g)
    ∙ heads_then f.first.0 g.first.0 (parameter_octets f.first.1) (parameter_octets g.first.1) (tlvs (parameter_tlvs f.rest)) (tlvs (parameter_tlvs g.rest))

heads_are : {a b h k : List ℕ} {i p j q : ℕ} {xs ys : List (Numbered ParameterValue)} (f : NextOf a i p xs) (g : NextOf b j q ys)
    → HeadOf (take (p - i) (drop i a)) h → HeadOf (take (q - j) (drop j b)) k
    → slice_cmp nat_cmp h k ≡ slice_cmp nat_cmp (head f.first.0 (parameter_octets f.first.1)) (head g.first.0 (parameter_octets g.first.1))
heads_are {k = k} f g x y =
    ap (λ (s : List ℕ). slice_cmp nat_cmp s k) (x f.first.0 f.one.octets f.first.1 (between_is f.one.at) f.one.fits f.one.held)
    ∙ ap (λ (s : List ℕ). slice_cmp nat_cmp (head f.first.0 (parameter_octets f.first.1)) s) (y g.first.0 g.one.octets g.first.1 (between_is g.one.at) g.one.fits g.one.held)

bodies_are : {a b s t : List ℕ} {i p j q : ℕ} {xs ys : List (Numbered ParameterValue)} (f : NextOf a i p xs) (g : NextOf b j q ys)
    → BodyOf (take (p - i) (drop i a)) s → BodyOf (take (q - j) (drop j b)) t
    → slice_cmp nat_cmp s t ≡ slice_cmp nat_cmp (parameter_octets f.first.1) (parameter_octets g.first.1)
bodies_are {t = t} f g x y =
    ap (λ (r : List ℕ). slice_cmp nat_cmp r t) (x f.first.0 f.one.octets f.first.1 (between_is f.one.at) f.one.fits f.one.held)
    ∙ ap (λ (r : List ℕ). slice_cmp nat_cmp (parameter_octets f.first.1) r) (y g.first.0 g.one.octets g.first.1 (between_is g.one.at) g.one.fits g.one.held)

-- what a comparison says
abbrev pub Orders : Ordering → List ℕ → List ℕ → Type 0
Orders o a b = (u v : Value Parameters) → Field a 0 Parameters u (length a) → Field b 0 Parameters v (length b)
    → o ≡ slice_cmp nat_cmp (field_octets Parameters u) (field_octets Parameters v)

pub heads_differ : {a b h k : List ℕ} {i p j q : ℕ} {o : Ordering} → BothAt a i b j → EndsAt a i p → EndsAt b j q
    → HeadOf (take (p - i) (drop i a)) h → HeadOf (take (q - j) (drop j b)) k → o ≡ slice_cmp nat_cmp h k → o ≢ Equal → Orders o a b
unfolding field_octets
heads_differ {o = o} both e f x y is ne = λ u v l r.
    let t = both.only u v l r in
    let m = first_of t.xs t.left e in
    let n = first_of t.ys t.right f in
    let rest = slice_cmp nat_cmp (parameter_octets m.first.1 ++ tlvs (parameter_tlvs m.rest)) (parameter_octets n.first.1 ++ tlvs (parameter_tlvs n.rest)) in
    then_kept o rest ne ∙ ap (λ (z : Ordering). ordering_then z rest) (is ∙ heads_are m n x y) ∙ sym (whole_cmp m n) ∙ sym t.same

-- with heads that are the same
after_heads : {a b h k : List ℕ} {i p j q : ℕ} {xs ys : List (Numbered ParameterValue)} (f : NextOf a i p xs) (g : NextOf b j q ys)
    → HeadOf (take (p - i) (drop i a)) h → HeadOf (take (q - j) (drop j b)) k → slice_cmp nat_cmp h k ≡ Equal
    → slice_cmp nat_cmp (tlvs (parameter_tlvs xs)) (tlvs (parameter_tlvs ys))
    ≡ ordering_then (slice_cmp nat_cmp (parameter_octets f.first.1) (parameter_octets g.first.1))
    (slice_cmp nat_cmp (tlvs (parameter_tlvs f.rest)) (tlvs (parameter_tlvs g.rest)))
after_heads f g x y e =
    let same : slice_cmp nat_cmp (head f.first.0 (parameter_octets f.first.1)) (head g.first.0 (parameter_octets g.first.1)) ≡ Equal = sym (heads_are f g x y)
    ∙ e in
    let rest = slice_cmp nat_cmp (parameter_octets f.first.1 ++ tlvs (parameter_tlvs f.rest)) (parameter_octets g.first.1 ++ tlvs (parameter_tlvs g.rest)) in
    whole_cmp f g ∙ ap (λ (z : Ordering). ordering_then z rest) same
    ∙ bodies_then f.first.0 g.first.0 (parameter_octets f.first.1) (parameter_octets g.first.1) (tlvs (parameter_tlvs f.rest)) (tlvs (parameter_tlvs g.rest))
    same (short f) (short g)

pub bodies_differ : {a b h k s t : List ℕ} {i p j q : ℕ} {o z : Ordering} → BothAt a i b j → EndsAt a i p → EndsAt b j q
    → HeadOf (take (p - i) (drop i a)) h → HeadOf (take (q - j) (drop j b)) k → z ≡ slice_cmp nat_cmp h k → z ≡ Equal
    → BodyOf (take (p - i) (drop i a)) s → BodyOf (take (q - j) (drop j b)) t → o ≡ slice_cmp nat_cmp s t → o ≢ Equal → Orders o a b
unfolding field_octets
bodies_differ {o = o} both e f x y told tie w z is ne = λ u v l r.
    let t = both.only u v l r in
    let m = first_of t.xs t.left e in
    let n = first_of t.ys t.right f in
    let rest = slice_cmp nat_cmp (tlvs (parameter_tlvs m.rest)) (tlvs (parameter_tlvs n.rest)) in
    then_kept o rest ne ∙ ap (λ (c : Ordering). ordering_then c rest) (is ∙ bodies_are m n w z) ∙ sym (after_heads m n x y (sym told ∙ tie)) ∙ sym t.same

pub both_more : {a b h k s t : List ℕ} {i p j q : ℕ} {o z : Ordering} → BothAt a i b j → EndsAt a i p → EndsAt b j q
    → HeadOf (take (p - i) (drop i a)) h → HeadOf (take (q - j) (drop j b)) k → z ≡ slice_cmp nat_cmp h k → z ≡ Equal
    → BodyOf (take (p - i) (drop i a)) s → BodyOf (take (q - j) (drop j b)) t → o ≡ slice_cmp nat_cmp s t → o ≡ Equal → BothAt a p b q
both_more both e f x y told tie w z is same = record {
  inside = e.room.1;
  inside_too = f.room.1;
  only = λ u v l r.
      let t = both.only u v l r in
      let m = first_of t.xs t.left e in
      let n = first_of t.ys t.right f in
      let rest = slice_cmp nat_cmp (tlvs (parameter_tlvs m.rest)) (tlvs (parameter_tlvs n.rest)) in
      record {
        xs = m.rest;
        ys = n.rest;
        left = m.stand;
        right = n.stand;
        same = t.same ∙ after_heads m n x y (sym told ∙ tie)
            ∙ ap (λ (c : Ordering). ordering_then c rest) (sym (bodies_are m n w z) ∙ sym is ∙ same);
      };
}

-- ---- the ends

some_first : (x : Numbered ParameterValue) (s : List ℕ) → slice_cmp nat_cmp (tlv (x.0, parameter_octets x.1) ++ s) [] ≡ Greater
some_first x s = refl

some_second : (x : Numbered ParameterValue) (s : List ℕ) → slice_cmp nat_cmp [] (tlv (x.0, parameter_octets x.1) ++ s) ≡ Less
some_second x s = refl

pub longer : {a b : List ℕ} {i p j : ℕ} → BothAt a i b j → EndsAt a i p → NoTlv b j → Orders Greater a b
unfolding field_octets
longer both e none = λ u v l r.
    let t = both.only u v l r in
    let m = first_of t.xs t.left e in
    let n = none_left ParameterHeld t.ys t.right none in
    sym (t.same ∙ ap (λ (s : List ℕ). slice_cmp nat_cmp s (tlvs (parameter_tlvs t.ys))) (next_octets m)
    ∙ ap (λ (ys : List (Numbered ParameterValue)). slice_cmp nat_cmp (tlv (m.first.0, parameter_octets m.first.1) ++ tlvs (parameter_tlvs m.rest)) (tlvs
    (parameter_tlvs ys))) n
    ∙ some_first m.first (tlvs (parameter_tlvs m.rest)))

pub shorter : {a b : List ℕ} {i j q : ℕ} → BothAt a i b j → NoTlv a i → EndsAt b j q → Orders Less a b
unfolding field_octets
shorter both none e = λ u v l r.
    let t = both.only u v l r in
    let m = none_left ParameterHeld t.xs t.left none in
    let n = first_of t.ys t.right e in
    sym (t.same ∙ ap (λ (xs : List (Numbered ParameterValue)). slice_cmp nat_cmp (tlvs (parameter_tlvs xs)) (tlvs (parameter_tlvs t.ys))) m
    ∙ ap (λ (s : List ℕ). slice_cmp nat_cmp [] s) (next_octets n) ∙ some_second n.first (tlvs (parameter_tlvs n.rest)))

pub both_done : {a b : List ℕ} {i j : ℕ} → BothAt a i b j → NoTlv a i → NoTlv b j → Orders Equal a b
unfolding field_octets
both_done both none other = λ u v l r.
    let t = both.only u v l r in
    let m = none_left ParameterHeld t.xs t.left none in
    let n = none_left ParameterHeld t.ys t.right other in
    sym (t.same ∙ ap (λ (xs : List (Numbered ParameterValue)). slice_cmp nat_cmp (tlvs (parameter_tlvs xs)) (tlvs (parameter_tlvs t.ys))) m
    ∙ ap (λ (ys : List (Numbered ParameterValue)). slice_cmp nat_cmp [] (tlvs (parameter_tlvs ys))) n)
