-- How names in messages are ordered.
use Rattle.std.proofs.Common.{◌≡◌, ℕ, ◌+◌, ◌-◌, ◌≤◌, List, [], ◌∷◌, ◌++◌, length, take, drop, map, None, refl, sym, ap, ◌∙◌, arith}
use Rattle.std.proofs.Common.{append_assoc, length-append}
use Rattle.std.proofs.lemmas.List.{take_at, take-take, drop-drop, drop-take, take-append-drop, drop-map, take-map}
use Rattle.std.specs.{Char.to_ascii_lowercase, Cmp.Lexicographic.slice_cmp, Ordering.nat_cmp, declared.cmp.Ordering.Ordering}
use Rattle.std.specs.declared.cmp.Ordering.TheVariants.{Equal}
use Rattle.dns_fields.specs.{Labels.DomainName, Labels.wire, Labels.lowname, Names.IsNameIn}
use Rattle.dns_fields.proofs.NameLaws.{name_same}
use Rattle.dns_canonical.proofs.{Fronts.cmp_behind, Sharing.whole}
use Rattle.dns_names_wire.specs.NameEnds.{SkipsRun, IsPlainName}
use Rattle.dns_names_wire.proofs.NameSteps.{ends, going_first}
use Rattle.dns_view.proofs.{NamesPut.plain_is, NamesPut.plain_compared, RowOrder.cmp_same}

-- a name that no compression pointer ends has n octets and a 0
abbrev pub Uncompressed : List ℕ → ℕ → ℕ → Type 0
Uncompressed m p n = SkipsRun m p None (p + n + 1) 0 n

plain : {m : List ℕ} {p n : ℕ} → Uncompressed m p n → p ≤ length m → IsPlainName m p (take n (drop p m))
plain {m} {p} {n} r inside = plain_is {n = n} r refl inside refl refl

pub name_ends : {m : List ℕ} {p n q : ℕ} {x : DomainName} → Uncompressed m p n → p ≤ length m → IsNameIn m p x q → p + n + 1 ≡ q
name_ends {m} {p} {n} {q} {x} r inside is = (name_same (ends (going_first inside r)).is is).1

-- the same octets at another offset
pub moved_name : {a b : List ℕ} {x y n : ℕ} → Uncompressed a x n → take (n + 1) (drop x a) ≡ take (n + 1) (drop y b) → Uncompressed b y n
moved_name {a} {b} {x} {y} {n} r same =
    let w = wire r.front in
    let size : length (w ++ 0 ∷ []) ≡ n + 1 = omega (arith, r.counted, length-append w (0 ∷ [])) in
    let there : take (n + 1) (drop x a) ≡ w ++ 0 ∷ [] = ap (take (n + 1)) (r.run.stands ∙ sym (append_assoc w (0 ∷ []) r.run.behind))
    ∙ take_at (w ++ 0 ∷ []) r.run.behind (n + 1) size in
    let behind = drop (n + 1) (drop y b) in
    record {
      front = r.front;
      run = record {
        are = r.run.are;
        behind = behind;
        stands = sym (take-append-drop (n + 1) (drop y b)) ∙ ap (λ (s : List ℕ). s ++ behind) (sym same ∙ there) ∙ append_assoc w (0 ∷ []) behind;
        target = tt;
        ends = omega (arith, r.counted);
      };
      counted = r.counted;
      room = r.room;
    }

pub same_names : {a b : List ℕ} {x y n : ℕ} → Uncompressed a x n → x ≤ length a → y ≤ length b → take (n + 1) (drop x a) ≡ take (n + 1) (drop y b)
    → (u : DomainName) (q : ℕ) (v : DomainName) (r : ℕ) → IsNameIn a x u q → IsNameIn b y v r → Equal ≡ slice_cmp nat_cmp (lowname u) (lowname v)
same_names {a} {b} {x} {y} {n} f inside within same =
    let s = take n (drop x a) in
    let t = take n (drop y b) in
    let e : s ≡ t = sym (take-take n (n + 1) (drop x a) (omega arith)) ∙ ap (take n) same ∙ take-take n (n + 1) (drop y b) (omega arith) in
    plain_compared (plain f inside) (plain (moved_name f same) within)
    (sym (cmp_same (map to_ascii_lowercase s)) ∙ ap (λ (z : List ℕ). slice_cmp nat_cmp (map to_ascii_lowercase s) (map to_ascii_lowercase z)) e)

-- behind octets that are the same
lowered_behind : (from f g : ℕ) (x y : List ℕ) → from ≤ f → from ≤ g → take from x ≡ take from y
    → slice_cmp nat_cmp (map to_ascii_lowercase (take f x)) (map to_ascii_lowercase (take g y))
    ≡ slice_cmp nat_cmp (map to_ascii_lowercase (drop from (take f x))) (map to_ascii_lowercase (drop from (take g y)))
lowered_behind from f g x y lf lg same =
    let l = to_ascii_lowercase in
    let front : take from (map l (take f x)) ≡ take from (map l (take g y)) =
    take-map l from (take f x) ∙ ap (map l) (take-take from f x lf ∙ same ∙ sym (take-take from g y lg)) ∙ sym (take-map l from (take g y)) in
    cmp_behind from (map l (take f x)) (map l (take g y)) front
    ∙ ap (λ (z : List ℕ). slice_cmp nat_cmp z (drop from (map l (take g y)))) (drop-map l from (take f x))
    ∙ ap (λ (z : List ℕ). slice_cmp nat_cmp (map l (drop from (take f x))) z) (drop-map l from (take g y))

behind_slice : (m : List ℕ) (p from n : ℕ) → from ≤ n → drop from (take n (drop p m)) ≡ take (p + n - (p + from)) (drop (p + from) m)
behind_slice m p from n h =
    let k : n ≡ from + (n - from) = omega arith in
    let d : n - from ≡ p + n - (p + from) = omega arith in
    ap (λ (i : ℕ). drop from (take i (drop p m))) k ∙ drop-take from (n - from) (drop p m) ∙ ap (take (n - from)) (drop-drop from p m)
    ∙ ap (λ (i : ℕ). take i (drop (p + from) m)) d

pub plain_names : {a b : List ℕ} {x y n k m from : ℕ} {o : Ordering} → Uncompressed a x n → x ≤ length a → Uncompressed b y k → y ≤ length b
    → take m (take (n + 1) (drop x a)) ≡ take m (drop y b) → from ≤ m → from ≤ n → from ≤ k
    → o ≡ slice_cmp nat_cmp (map to_ascii_lowercase (take (x + n - (x + from)) (drop (x + from) a)))
    (map to_ascii_lowercase (take (y + k - (y + from)) (drop (y + from) b)))
    → (u : DomainName) (q : ℕ) (v : DomainName) (r : ℕ) → IsNameIn a x u q → IsNameIn b y v r → o ≡ slice_cmp nat_cmp (lowname u) (lowname v)
plain_names {a} {b} {x} {y} {n} {k} {m} {from} {o} f inside g within same few short less is =
    let front : take from (drop x a) ≡ take from (drop y b) =
    sym (take-take from (n + 1) (drop x a) (omega arith)) ∙ sym (take-take from m (take (n + 1) (drop x a)) few) ∙ ap (take from) same
    ∙ take-take from m (drop y b) few in
    let l = to_ascii_lowercase in
    plain_compared (plain f inside) (plain g within)
    (is ∙ ap (λ (z : List ℕ). slice_cmp nat_cmp (map l z) (map l (take (y + k - (y + from)) (drop (y + from) b)))) (sym (behind_slice a x from n short))
    ∙ ap (λ (z : List ℕ). slice_cmp nat_cmp (map l (drop from (take n (drop x a)))) (map l z)) (sym (behind_slice b y from k less))
    ∙ sym (lowered_behind from n k (drop x a) (drop y b) short less front))

-- octets that the slice of a whole name has in common with those behind an offset
pub whole_front : (x : ℕ) (a : List ℕ) (y : ℕ) (b : List ℕ) (n m : ℕ)
    → take m (take (x + n + 1 - x) (drop x a)) ≡ take m (take (length b - y) (drop y b)) → take m (take (n + 1) (drop x a)) ≡ take m (drop y b)
whole_front x a y b n m same =
    let e : x + n + 1 - x ≡ n + 1 = omega arith in
    ap (λ (k : ℕ). take m (take k (drop x a))) (sym e) ∙ same ∙ ap (take m) (whole y b)

pub whole_same : (x : ℕ) (a : List ℕ) (y : ℕ) (b : List ℕ) (n m : ℕ) → m ≡ n + 1
    → take m (take (x + n + 1 - x) (drop x a)) ≡ take m (take (length b - y) (drop y b)) → take (n + 1) (drop x a) ≡ take (n + 1) (drop y b)
whole_same x a y b n m all same =
    sym (take-take m (n + 1) (drop x a) (omega arith) ∙ ap (λ (k : ℕ). take k (drop x a)) all) ∙ whole_front x a y b n m same
    ∙ ap (λ (k : ℕ). take k (drop y b)) all
