-- How octets are put behind each other.
use Rattle.std.proofs.Common.{◌≡◌, ℕ, suc, ◌+◌, ◌-◌, ◌≤◌, ◌<◌, Bool, true, false, List, [], ◌∷◌, ◌++◌, length, take, drop, Option, Some, None, ⊎_elim, refl, sym, ap, ◌∙◌}
use Rattle.std.proofs.Common.{arith, subst, append_assoc, length-append}
use Rattle.std.proofs.lemmas.List.{length-map, map-append, drop-drop, take_at, take_all, drop_at, drop_all, take-append-drop, take-append-le, append-nil, length-take, length-drop}
use Rattle.std.proofs.{lemmas.Bool.cases_lt, Common.set, lemmas.List.drop-set-lt, Math.Seq.take-append-add, Math.Seq.take-suc-set}
use Rattle.std.specs.Char.{to_ascii_lowercase}
use borrow.Rule.Slice.PartMut.{put_mid}
use Rattle.dns_fields.specs.{Labels.wire}
use Rattle.dns_labels.specs.{Labels.name_of, Labels.AreNameOctets, Reading.stop_octets}
use Rattle.dns_labels.proofs.{ReadingRuns.no_more, Found.name_found, Found.octets_found, Lowered.lowered-of}
use Rattle.dns_names_wire.specs.NameEnds.{SkipsRun}
use Rattle.dns_view.specs.Putting.{cased, name_form, Put, PutName}
use Rattle.dns_names_wire.proofs.NameSteps.{Going, going_first, going_next}

pub cased_length : (low : Bool) (s : List ℕ) → length (cased low s) ≡ length s
cased_length true s = length-map s to_ascii_lowercase
cased_length false s = refl

pub cased_append : (low : Bool) (x y : List ℕ) → cased low (x ++ y) ≡ cased low x ++ cased low y
cased_append true x y = map-append to_ascii_lowercase x y
cased_append false x y = refl

-- ---- as many octets as there is room for

pub put_size : {old new octets : List ℕ} {start end : ℕ} → Put old new start end octets → length new ≡ length old
put_size {old} {new} {octets} {start} {end} p =
    let all = take start old ++ (octets ++ drop end old) in
    omega (
      arith,
      ap length p.written,
      length-take (length old) all,
      length-append (take start old) (octets ++ drop end old),
      length-append octets (drop end old),
      length-take start old,
      length-drop end old,
      p.ends,
    )

-- octets that all fit
pub put_fits : {old new octets : List ℕ} {start end : ℕ} → Put old new start end octets → end ≤ length old → new ≡ take start old ++ (octets ++ drop end old)
put_fits {old} {new} {octets} {start} {end} p room =
    let all = take start old ++ (octets ++ drop end old) in
    p.written ∙ take_all (length old) all (omega (
      arith,
      room,
      length-append (take start old) (octets ++ drop end old),
      length-append octets (drop end old),
      length-take start old,
      length-drop end old,
      p.ends,
    ))

put_all : {old new octets : List ℕ} {start end : ℕ} → end ≡ start + length octets → end ≤ length old → new ≡ take start old ++ (octets ++ drop end old)
    → Put old new start end octets
put_all {old} {new} {octets} {start} {end} e room same =
    let all = take start old ++ (octets ++ drop end old) in
    let short : length all ≤ length old = omega (
      arith,
      room,
      e,
      length-append (take start old) (octets ++ drop end old),
      length-append octets (drop end old),
      length-take start old,
      length-drop end old,
    ) in
    record { ends = e; written = same ∙ sym (take_all (length old) all short) }

-- the first of the octets fit
put_first : {old new octets : List ℕ} {start end : ℕ} → end ≡ start + length octets → start ≤ length old → length old ≤ end
    → new ≡ take start old ++ take (length old - start) octets → Put old new start end octets
put_first {old} {new} {octets} {start} {end} e inside past same =
    let front = take start old in
    let long : length front ≡ start = omega (arith, length-take start old, inside) in
    let n : length front + (length old - start) ≡ length old = omega (arith, long, inside) in
    let cut : take (length old - start) (octets ++ drop end old) ≡ take (length old - start) octets =
    take-append-le (length old - start) octets (drop end old) (omega (arith, e, past)) in
    record {
      ends = e;
      written = same ∙ ap (λ (s : List ℕ). front ++ s) (sym cut) ∙ sym (take-append-add front (octets ++ drop end old) (length old - start))
          ∙ ap (λ (k : ℕ). take k (front ++ (octets ++ drop end old))) n;
    }

-- the same up to the end of the buffer
pub put_cut : {old : List ℕ} {start end : ℕ} (octets : List ℕ) {part : List ℕ} → end ≡ start + length octets → start ≤ length old → length old ≤ end
    → part ≡ take (length old - start) octets → Put old (put_mid start (length old - start) old part) start end octets
put_cut {old} {start} {end} octets {part} e inside past same =
    let d : drop (length old - start) (drop start old) ≡ [] = drop-drop (length old - start) start old
    ∙ drop_all (start + (length old - start)) old (omega (arith, inside)) in
    put_first e inside past (rw (same, d) (ap (λ (s : List ℕ). take start old ++ s) (append-nil (take (length old - start) octets))))

pub put_none : (old : List ℕ) (start : ℕ) → Put old old start start []
put_none old start = record {
  ends = omega arith;
  written = sym (ap (take (length old)) (take-append-drop start old) ∙ take_all (length old) old (omega arith));
}

-- one octet
pub put_one : (old : List ℕ) (at x : ℕ) → at < length old → Put old (set old at x) at (at + 1) (x ∷ [])
put_one old at x below =
    let more : suc at ≡ at + 1 = omega arith in
    let new = set old at x in
    put_all refl (omega (arith, below)) (sym (take-append-drop (suc at) new) ∙ ap (λ (s : List ℕ). s ++ drop (suc at) new) (take-suc-set old at x below)
    ∙ append_assoc (take at old) (x ∷ []) (drop (suc at) new)
    ∙ ap (λ (s : List ℕ). take at old ++ x ∷ s) (drop-set-lt (suc at) old at x (omega arith) ∙ ap (λ (k : ℕ). drop k old) more))

-- after the end of the buffer
pub put_past : {old : List ℕ} {at : ℕ} (x : ℕ) → length old ≤ at → Put old old at (at + 1) (x ∷ [])
put_past {old} {at} x past =
    let all : take at old ≡ old = take_all at old past in
    record {
      ends = omega arith;
      written = sym (take_all (length old) old (omega arith)) ∙ ap (take (length old)) (sym all)
          ∙ sym (take-append-le (length old) (take at old) (x ∷ drop (at + 1) old) (omega (arith, ap length all)));
    }

-- one after the other
pub put_then : {old mid new : List ℕ} {s a e : ℕ} {x y : List ℕ} → Put old mid s a x → Put mid new a e y → Put old new s e (x ++ y)
put_then {old} {mid} {new} {s} {a} {e} {x} {y} p q = record {
  ends = omega (arith, p.ends, q.ends, length-append x y);
  written = ⊎_elim (λ (past : length old < a). full past) (λ (room : a ≤ length old). both room) (cases_lt (length old) a);
}
  where
    all : List ℕ
    all = take s old ++ ((x ++ y) ++ drop e old)

    grouped : all ≡ (take s old ++ x) ++ (y ++ drop e old)
    grouped = ap (λ (t : List ℕ). take s old ++ t) (append_assoc x y (drop e old)) ∙ sym (append_assoc (take s old) x (y ++ drop e old))

    size : length mid ≡ length old
    size = put_size p

    -- the first octets fill the buffer
    full : length old < a → new ≡ take (length old) all
    full past =
        let kept : new ≡ mid = q.written ∙ ap (λ (t : List ℕ). take (length mid) (t ++ (y ++ drop e mid))) (take_all a mid (omega (arith, size, past)))
        ∙ take-append-le (length mid) mid (y ++ drop e mid) (omega arith) ∙ take_all (length mid) mid (omega arith) in
        let long : length old ≤ length (take s old ++ x) = omega (arith, past, p.ends, length-append (take s old) x, length-take s old) in
        let front : take (length old) (take s old ++ (x ++ drop a old)) ≡ take (length old) (take s old ++ x) =
        ap (take (length old)) (sym (append_assoc (take s old) x (drop a old))) ∙ take-append-le (length old) (take s old ++ x) (drop a old) long in
        kept ∙ p.written ∙ front ∙ sym (ap (take (length old)) grouped ∙ take-append-le (length old) (take s old ++ x) (y ++ drop e old) long)

    both : a ≤ length old → new ≡ take (length old) all
    both room =
        let one : mid ≡ (take s old ++ x) ++ drop a old = put_fits p room ∙ sym (append_assoc (take s old) x (drop a old)) in
        let long : length (take s old ++ x) ≡ a = omega (arith, length-append (take s old) x, length-take s old, p.ends, room) in
        let front : take a mid ≡ take s old ++ x = ap (take a) one ∙ take_at (take s old ++ x) (drop a old) a long in
        let rest : drop a mid ≡ drop a old = ap (drop a) one ∙ drop_at (take s old ++ x) (drop a old) a long in
        let n : a + (e - a) ≡ e = omega (arith, q.ends) in
        let back : drop e mid ≡ drop e old = ap (λ (k : ℕ). drop k mid) (sym n) ∙ sym (drop-drop (e - a) a mid) ∙ ap (drop (e - a)) rest
        ∙ drop-drop (e - a) a old ∙ ap (λ (k : ℕ). drop k old) n in
        q.written ∙ ap (λ (k : ℕ). take k (take a mid ++ (y ++ drop e mid))) size
        ∙ ap (λ (t : List ℕ). take (length old) (t ++ (y ++ drop e mid))) front ∙ ap (λ (t : List ℕ). take (length old) ((take s old ++ x) ++ (y ++ t))) back
        ∙ ap (take (length old)) (sym grouped)

-- ---- names

-- the labels of a run stand at its offset
pub run_octets : {m : List ℕ} {p : ℕ} {stop : Option ℕ} {end before after : ℕ} (r : SkipsRun m p stop end before after) → p ≤ length m
    → (before ≤ after) × (p + (after - before) ≤ length m) × (take (after - before) (drop p m) ≡ wire r.front)
run_octets {m} {p} {stop} {end} {before} {after} r inside =
    let w = wire r.front in
    let n : after - before ≡ length w = omega (arith, r.counted) in (
      omega (arith, r.counted),
      omega (arith, r.counted, ap length r.run.stands, length-append w (stop_octets stop ++ r.run.behind), length-drop p m),
      ap (λ (t : List ℕ). take (after - before) t) r.run.stands ∙ take_at w (stop_octets stop ++ r.run.behind) (after - before) (sym n),
    )

-- the name so far, and its octets in the buffer
pub record Putting (message : List ℕ) (start end : ℕ) (region : List ℕ) (offset : ℕ) (next : Option ℕ) (len : ℕ) (low : Bool) (old new : List ℕ)
    (begin at : ℕ) : Type 0 where
  pub going : Going message start end region offset next len
  pub put : Put old new begin at (cased low going.octets)

pub putting_first : {message : List ℕ} {start end : ℕ} {stop : Option ℕ} {len n : ℕ} {low : Bool} {old new : List ℕ} {begin at : ℕ} → start ≤ length message
    → SkipsRun message start stop end 0 len → n ≡ len → Put old new begin at (cased low (take n (drop start message)))
    → Putting message start end message start stop len low old new begin at
unfolding going_first
putting_first {message} {start} {stop = stop} {len = len} {n = count} {low} {old} {new} {begin} {at} within r is p =
    let k = run_octets r within in
    let n : len - 0 ≡ count = omega (arith, is) in
    let same : take count (drop start message) ≡ wire r.front = ap (λ (i : ℕ). take i (drop start message)) (sym n) ∙ k.2 in
    record {
      going = going_first within r;
      put = subst (λ (s : List ℕ). Put old new begin at (cased low s)) same p;
    }

pub putting_next : {message : List ℕ} {start end : ℕ} {region : List ℕ} {offset target len : ℕ} {stop : Option ℕ} {end' after n : ℕ} {low : Bool}
    {old mid new : List ℕ} {begin at at' : ℕ}
    → Putting message start end region offset (Some target) len low old mid begin at → target < offset
    → SkipsRun (take offset region) target stop end' len after
    → n ≡ after - len → Put mid new at at' (cased low (take n (drop target (take offset region))))
    → Putting message start end (take offset region) target stop after low old new begin at'
unfolding going_next
putting_next {region = region} {offset} {target} {len = len} {after = after} {low = low} {old} {mid} {new} {begin} {at} {at'} g before r is p =
    let k = run_octets r (omega (arith, before, g.going.pending.within, length-take offset region)) in
    record {
      going = going_next g.going before r;
      put = subst (λ (s : List ℕ). Put old new begin at' s) (sym (cased_append low g.going.octets (wire r.front)))
          (put_then g.put (subst (λ (s : List ℕ). Put mid new at at' (cased low s)) (ap (λ (i : ℕ). take i (drop target (take offset region))) is ∙ k.2) p));
    }

name_is : (low : Bool) (octets : List ℕ) → AreNameOctets octets → cased low octets ++ 0 ∷ [] ≡ name_form low (name_of octets true)
name_is true octets h = sym (lowered-of octets h)
name_is false octets h = ap (λ (s : List ℕ). s ++ 0 ∷ []) h.same

pub putting_last : {message : List ℕ} {start end : ℕ} {region : List ℕ} {offset len : ℕ} {low : Bool} {old mid new : List ℕ} {begin at behind : ℕ}
    → Putting message start end region offset None len low old mid begin at → Put mid new at behind (0 ∷ [])
    → PutName message start end low old new begin behind
putting_last {low = low} {old} {mid} {new} {begin} {at} {behind} g p =
    let n = no_more g.going.pending in
    record {
      name = name_of g.going.octets true;
      is = name_found n;
      put = subst (λ (s : List ℕ). Put old new begin behind s) (name_is low g.going.octets (octets_found n)) (put_then g.put p);
    }
