-- What was put of a name is of that name.
use Rattle.std.proofs.Common.{◌≡◌, ℕ, ◌-◌, ◌≤◌, Bool, true, false, List, [], ◌∷◌, length, take, drop, map, Option, None, append_assoc, refl, sym, ap, ◌∙◌, arith, subst}
use Rattle.std.proofs.lemmas.List.{length-append, take_at}
use Rattle.std.specs.{Char.to_ascii_lowercase, Cmp.Lexicographic.slice_cmp, Ordering.nat_cmp, declared.cmp.Ordering.Ordering}
use Rattle.dns_fields.specs.{Labels.DomainName, Labels.wire, Labels.lowname, Names.IsNameIn}
use Rattle.dns_labels.specs.{Labels.name_of, Reading.IsNameAt}
use Rattle.dns_labels.proofs.{ReadingRuns.first_run, ReadingRuns.no_more, Found.name_found, Found.octets_found, Lowered.compared}
use Rattle.dns_names_wire.specs.NameEnds.{SkipsRun, IsPlainName}
use Rattle.dns_names_wire.proofs.NameSteps.{adds_run}
use Rattle.dns_view.proofs.Puts.{run_octets, put_fits}
use Rattle.dns_fields.proofs.NameLaws.{name_same}
use Rattle.dns_view.specs.Putting.{Put, PutName, name_form}

-- the name that stands there is the one that was put
pub put_same : {m : List ℕ} {p end q : ℕ} {low : Bool} {old new : List ℕ} {start behind : ℕ} (x : DomainName) → PutName m p end low old new start behind
    → IsNameIn m p x q
    → Put old new start behind (name_form low x)
put_same {low = low} {old} {new} {start} {behind} x n is = subst (λ (y : DomainName). Put old new start behind (name_form low y)) (name_same n.is is).0 n.put

pub put_front : {m : List ℕ} {p end q : ℕ} {old new : List ℕ} {behind : ℕ} (x : DomainName) → PutName m p end true old new 0 behind → behind ≤ length old
    → IsNameIn m p x q
    → take behind new ≡ lowname x
put_front {old = old} {new} {behind} x n room is =
    let w = put_same x n is in
    ap (take behind) (put_fits w room) ∙ take_at (lowname x) (drop behind old) behind (omega (arith, w.ends))

-- its octets without the 0 at the end
pub plain_front : {m : List ℕ} {p end : ℕ} {old new : List ℕ} {behind : ℕ} (n : PutName m p end false old new 0 behind) → behind ≤ length old
    → (1 ≤ behind) × (take (behind - 1) new ≡ wire n.name.labels)
plain_front {old = old} {new} {behind} n room =
    let octets = wire n.name.labels in
    let long = length-append octets (0 ∷ []) in
    let split = append_assoc octets (0 ∷ []) (drop behind old) in
    (omega (arith, n.put.ends, long), ap (take (behind - 1)) (put_fits n.put room ∙ split) ∙ take_at octets (0 ∷ drop behind old) (behind - 1) (omega (arith, n.put.ends, long)))

-- ---- names that stand whole

pub plain_is : {m octets : List ℕ} {p end n len : ℕ} {stop : Option ℕ} → SkipsRun m p stop end 0 len → stop ≡ None → p ≤ length m → n ≡ len
    → octets ≡ take n (drop p m) → IsPlainName m p octets
plain_is {m} {octets} {p} {end} {n} {len} {stop} r none inside is same =
    let s : SkipsRun m p None end 0 len = subst (λ (t : Option ℕ). SkipsRun m p t end 0 len) none r in
    let k = run_octets s inside in
    let long : n ≡ len - 0 = omega arith in
    let front : octets ≡ wire s.front = same ∙ ap (λ (i : ℕ). take i (drop p m)) long ∙ k.2 in
    let found : IsNameAt m p (wire s.front) end = no_more (first_run {old = []} refl inside (omega (arith, s.counted, s.room)) (adds_run [] s)) in
    record { end = end; is = subst (λ (o : List ℕ). IsNameAt m p o end) (sym front) found }

pub plain_compared : {a b s t : List ℕ} {x y : ℕ} {o : Ordering} → IsPlainName a x s → IsPlainName b y t
    → o ≡ slice_cmp nat_cmp (map to_ascii_lowercase s) (map to_ascii_lowercase t)
    → (u : DomainName) (q : ℕ) (v : DomainName) (r : ℕ) → IsNameIn a x u q → IsNameIn b y v r → o ≡ slice_cmp nat_cmp (lowname u) (lowname v)
plain_compared {s = s} {t} f g e u q v r is as_is =
    let first : name_of s true ≡ u = (name_same (name_found f.is) is).0 in
    let second : name_of t true ≡ v = (name_same (name_found g.is) as_is).0 in
    e ∙ compared s t (octets_found f.is) (octets_found g.is) ∙ ap (λ (n : DomainName). slice_cmp nat_cmp (lowname n) (lowname (name_of t true))) first
    ∙ ap (λ (n : DomainName). slice_cmp nat_cmp (lowname u) (lowname n)) second
