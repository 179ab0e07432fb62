-- The steps of the reader of one run.
use Rattle.std.proofs.Common.{◌≡◌, ℕ, ◌+◌, ◌-◌, ◌*◌, ◌/◌, ◌%◌, ◌<◌, ◌≤◌, List, [], ◌∷◌, ◌++◌, length, take, drop, get_or, Option, Some, None, refl}
use Rattle.std.proofs.Common.{sym, ◌∙◌, ap, append_assoc, arith, length-append, length-drop, length-take, add-one}
use Rattle.std.proofs.lemmas.List.{drop_more, get_or-drop, append-nil}
use Rattle.std.specs.Prelude.{IfSome}
use Rattle.dns_fields.specs.{Labels.AreLabels, Labels.wire, Names.pointer}
use Rattle.dns_labels.specs.Reading.{IsRun, AddsRun, stop_octets}
use Rattle.dns_labels.proofs.Octets.{cut_off, wire_length}
use Rattle.dns_fields.proofs.{Runs.RestOf, Runs.rest_of, Runs.wire-append, Runs.AreLabels-append, Unique.zero_stop, Unique.pointer_stop}

-- the labels that were read so far
pub record SoFar (message : List ℕ) (offset at : ℕ) (old new : List ℕ) : Type 0 where
  pub front : List (List ℕ)
  pub are : AreLabels front
  pub octets : new ≡ old ++ wire front
  pub stands : drop offset message ≡ wire front ++ drop at message
  pub at_is : at ≡ offset + length (wire front)
  pub within : at ≤ length message
  pub room : length new ≤ 254

pub so_far_none : {message : List ℕ} {offset : ℕ} {old : List ℕ} → offset ≤ length message → length old ≤ 254 → SoFar message offset offset old old
so_far_none {old} within room =
    record { front = []; are = tt; octets = sym (append-nil old); stands = refl; at_is = omega arith; within = within; room = room }

-- a run that stands there begins with the labels that were read
left : (front labels : List (List ℕ)) (s behind : List ℕ) (stop : Option ℕ) → AreLabels front → AreLabels labels
    → wire front ++ s ≡ wire labels ++ (stop_octets stop ++ behind) → RestOf front labels s (stop_octets stop ++ behind)
left front labels s behind None hf hl e = rest_of front labels s behind 0 hf hl zero_stop e
left front labels s behind (Some t) hf hl e = rest_of front labels s (t % 256 ∷ behind) (192 + t / 256) hf hl (pointer_stop t) e

-- what is left of a run: an octet 0, a pointer's first, or the length of a label comes next
pub record Onward (next left : ℕ) (rest : List (List ℕ)) : Type 0 where
  pub some : 1 ≤ left
  pub pointer : 64 ≤ next → (192 ≤ next) × (2 ≤ left)
  pub label : 1 ≤ next → next ≤ 63 → (next + 1 ≤ left) × (next + 1 ≤ length (wire rest))

next_of : (rest : List (List ℕ)) (stop : Option ℕ) (behind s : List ℕ) → AreLabels rest → s ≡ wire rest ++ (stop_octets stop ++ behind)
    → Onward (get_or s 0 0) (length s) rest
next_of [] None behind s h e =
    rw e (record { some = omega arith; pointer = λ n. absurd (omega arith); label = λ n k. absurd (omega arith) })
next_of [] (Some t) behind s h e =
    rw e (record { some = omega arith; pointer = λ n. (omega arith, omega arith); label = λ n k. absurd (omega arith) })
next_of (l ∷ rest) stop behind s h e =
    let a = length-append l (wire rest) in
    let b = length-append (l ++ wire rest) (stop_octets stop ++ behind) in
    let hi : length l ≤ 63 = h.0.1 in
    rw e (record { some = omega arith; pointer = λ n. absurd (omega arith); label = λ n k. (omega arith, omega arith) })

-- what stands at the reader's offset, if a run stands where it began
pub onward : {message : List ℕ} {offset at : ℕ} {old new : List ℕ} {front : List (List ℕ)} {stop : Option ℕ} {end : ℕ} → SoFar message offset at old new
    → IsRun message offset front stop end → (rest : List (List ℕ)) × Onward (get_or message at 0) (length message - at) rest
    × (length old + length (wire front) ≡ length new + length (wire rest))
onward {message} {at} {old} {new} {front} {stop} s r =
    let k = left s.front front (drop at message) r.behind stop s.are r.are (sym s.stands ∙ r.stands) in
    let n = next_of k.rest stop r.behind (drop at message) k.are k.stands in
    let g : get_or (drop at message) 0 0 ≡ get_or message at 0 = get_or-drop at message 0 0 ∙ ap (λ (i : ℕ). get_or message i 0) (omega arith) in
    (k.rest, rw (g, length-drop at message) at n, omega (arith, wire_length s.front k.rest k.joined, ap length s.octets, length-append old (wire s.front)))

-- what ends a run stands behind the labels that were read
stopped : {message : List ℕ} {offset at : ℕ} {old new : List ℕ} (stop : Option ℕ) (behind : List ℕ) → SoFar message offset at old new
    → drop at message ≡ stop_octets stop ++ behind → IfSome stop (λ q. q < 16384) → AddsRun message offset stop (at + length (stop_octets stop)) old new
stopped stop behind s e target = record {
  front = s.front;
  run = record {
    are = s.are;
    behind = behind;
    stands = s.stands ∙ ap (λ (t : List ℕ). wire s.front ++ t) e;
    target = target;
    ends = omega (arith, s.at_is);
  };
  octets = s.octets;
}

pub at_zero : {message : List ℕ} {offset at : ℕ} {old new : List ℕ} → SoFar message offset at old new → get_or message at 0 ≡ 0 → at < length message
    → AddsRun message offset None (at + 1) old new
at_zero {message} {at} s zero room =
    stopped None (drop (at + 1) message) s (drop_more message at 0 room ∙ ap (λ (k : ℕ). k ∷ drop (at + 1) message) zero) tt

-- a pointer's two octets
pointer_of : (h l : ℕ) → 192 ≤ h → h < 256 → l < 256 → pointer ((h - 192) * 256 + l) ≡ h ∷ l ∷ []
pointer_of h l lo hi low =
    let a : 192 + ((h - 192) * 256 + l) / 256 ≡ h = omega arith in
    let b : ((h - 192) * 256 + l) % 256 ≡ l = omega arith in
    cc

pub at_pointer : {message : List ℕ} {offset at : ℕ} {old new : List ℕ} → SoFar message offset at old new → ((i : ℕ) → get_or message i 0 < 256)
    → 192 ≤ get_or message at 0 → at + 2 ≤ length message
    → AddsRun message offset (Some ((get_or message at 0 - 192) * 256 + get_or message (at + 1) 0)) (at + 2) old new
at_pointer {message} {at} s octets high room =
    let h = get_or message at 0 in
    let l = get_or message (at + 1) 0 in
    let hi : h < 256 = octets at in
    let lo : l < 256 = octets (at + 1) in
    let e : drop at message ≡ h ∷ l ∷ drop (at + 1 + 1) message = drop_more message at 0 (omega arith)
    ∙ ap (λ (t : List ℕ). h ∷ t) (drop_more message (at + 1) 0 (omega arith)) in
    stopped (Some ((h - 192) * 256 + l)) (drop (at + 1 + 1) message) s
    (e ∙ ap (λ (t : List ℕ). t ++ drop (at + 1 + 1) message) (sym (pointer_of h l high hi lo))) (omega arith)

-- one label more
pub one_more : {message : List ℕ} {offset at : ℕ} {old new part : List ℕ} → SoFar message offset at old new → 1 ≤ get_or message at 0
    → get_or message at 0 ≤ 63 → at + get_or message at 0 + 1 ≤ length message → length new + get_or message at 0 < 254
    → part ≡ take (get_or message at 0 + 1) (drop at message) → SoFar message offset (at + (get_or message at 0 + 1)) old (new ++ part)
one_more {message} {at} {old} {new} {part} s low high room short part_is =
    let n = get_or message at 0 in
    let label = take n (drop (at + 1) message) in
    let e : drop at message ≡ n ∷ drop (at + 1) message = drop_more message at 0 (omega arith) in
    let size : length label ≡ n = length-take n (drop (at + 1) message) ∙ omega (arith, length-drop (at + 1) message) in
    let p : part ≡ length label ∷ label = part_is ∙ rw (e, add-one) (ap (λ (k : ℕ). k ∷ label) (sym size)) in
    let one : wire (label ∷ []) ≡ part = ap (λ (t : List ℕ). length label ∷ t) (append-nil label) ∙ sym p in
    let w : wire (s.front ++ label ∷ []) ≡ wire s.front ++ part = wire-append s.front (label ∷ []) ∙ ap (λ (t : List ℕ). wire s.front ++ t) one in
    let len : length part ≡ n + 1 = ap length p ∙ omega arith in
    record {
      front = s.front ++ label ∷ [];
      are = AreLabels-append s.front (label ∷ []) s.are ((omega arith, omega arith), tt);
      octets = ap (λ (t : List ℕ). t ++ part) s.octets ∙ append_assoc old (wire s.front) part ∙ ap (λ (t : List ℕ). old ++ t) (sym w);
      stands = s.stands ∙ ap (λ (t : List ℕ). wire s.front ++ t) (cut_off message at (n + 1) (sym part_is)) ∙ sym (append_assoc (wire s.front) part (drop (at + (n + 1)) message))
          ∙ ap (λ (t : List ℕ). t ++ drop (at + (n + 1)) message) (sym w);
      at_is = omega (arith, s.at_is, ap length w, length-append (wire s.front) part);
      within = omega arith;
      room = omega (arith, length-append new part);
    }
