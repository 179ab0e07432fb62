-- The steps by which a name is gone over.
use Rattle.std.proofs.Common.{◌≡◌, ℕ, ◌+◌, ◌-◌, ◌*◌, ◌≤◌, ◌<◌, List, [], ◌++◌, length, take, drop, get_or, Option, Some, None, true, refl, arith, length-append, length-take, length-drop, ap}
use Rattle.dns_fields.specs.{Labels.wire, Labels.DomainName, Names.IsNameIn}
use Rattle.dns_labels.specs.{Labels.name_of, Reading.IsRun, Reading.AddsRun}
use Rattle.dns_labels.proofs.{ReadingSteps.SoFar, ReadingSteps.so_far_none, ReadingSteps.at_zero, ReadingSteps.at_pointer, ReadingSteps.onward, ReadingSteps.one_more, ReadingRuns.Pending}
use Rattle.dns_labels.proofs.{ReadingRuns.first_run, ReadingRuns.next_run}
use Rattle.dns_labels.proofs.{ReadingRuns.first_refused, ReadingRuns.next_refused, ReadingRuns.no_more, Found.name_found}
use Rattle.dns_names_wire.specs.NameEnds.{NameEnds, SkipsRun}

-- the labels so far, and how many octets the name has with them
pub record Skipped (message : List ℕ) (offset at before len : ℕ) : Type 0 where
  pub octets : List ℕ
  pub so : SoFar message offset at [] octets
  pub len_is : len ≡ before + length octets
  pub room : len ≤ 254

pub skipped_none : {message : List ℕ} {offset before : ℕ} → offset ≤ length message → before ≤ 254 → Skipped message offset offset before before
skipped_none within few = record { octets = []; so = so_far_none within (omega arith); len_is = omega arith; room = few }

-- with one label more, if what follows it is within the message and the name is not too long
pub one_longer : {message : List ℕ} {offset at before n : ℕ} → Skipped message offset at before (before + (at - offset)) → n ≡ get_or message at 0
    → 1 ≤ n → n ≤ 63 → at + (n + 1) ≤ length message → before + (at + (n + 1) - offset) ≤ 254
    → Skipped message offset (at + (n + 1)) before (before + (at + (n + 1) - offset))
one_longer {message} {offset} {at} {before} {n} s n_is low high inside room =
    let k = get_or message at 0 in
    let part = take (k + 1) (drop at message) in
    let size = length-take (k + 1) (drop at message) in
    let rest = length-drop at message in
    let start = s.so.at_is in
    rw n_is (record {
      octets = s.octets ++ part;
      so = one_more s.so (omega (arith, n_is)) (omega (arith, n_is)) (omega (arith, n_is)) (omega (arith, s.len_is, n_is, start)) refl;
      len_is = omega (arith, s.len_is, length-append s.octets part, size, rest, n_is, start);
      room = omega (arith, n_is);
    })

-- so much of the message is there if a run is: a label, and an octet behind it
pub label_left : {message : List ℕ} {offset at before n : ℕ} {front : List (List ℕ)} {stop : Option ℕ} {end : ℕ}
    → Skipped message offset at before (before + (at - offset)) → n ≡ get_or message at 0 → 1 ≤ n → n ≤ 63
    → IsRun message offset front stop end → before + length (wire front) ≤ 254
    → (at + (n + 1) < length message) × (before + (at + (n + 1) - offset) ≤ 254)
label_left {message} {offset} {at} {before} {n} s n_is low high run room =
    let o = onward s.so run in
    let l = o.1.label (omega (arith, n_is)) (omega (arith, n_is)) in
    let start = s.so.at_is in
    let few : before + (at + (n + 1) - offset) ≤ 254 = omega (arith, l.1, o.2, s.len_is, n_is, start, room) in
    let more = one_longer s n_is low high (omega (arith, l.0, n_is)) few in
    (omega (arith, (onward {new = more.octets} more.so run).1.some), few)

pub skips_run : {message : List ℕ} {offset at before len : ℕ} {stop : Option ℕ} {end : ℕ} (s : Skipped message offset at before len)
    → AddsRun message offset stop end [] s.octets → SkipsRun message offset stop end before len
skips_run {before = before} s a = record {
  front = a.front;
  run = a.run;
  counted = omega (arith, s.len_is, ap length a.octets);
  room = s.room;
}

-- the labels of a run, behind these octets
pub adds_run : {message : List ℕ} {offset : ℕ} {stop : Option ℕ} {end before after : ℕ} (octets : List ℕ) (r : SkipsRun message offset stop end before after)
    → AddsRun message offset stop end octets (octets ++ wire r.front)
adds_run octets r = record { front = r.front; run = r.run; octets = refl }

-- the runs so far, and how many octets the name has with them
pub record Going (message : List ℕ) (start end : ℕ) (region : List ℕ) (offset : ℕ) (next : Option ℕ) (len : ℕ) : Type 0 where
  pub octets : List ℕ
  pub pending : Pending message start end region offset next octets
  pub len_is : len ≡ length octets

unfoldable pub going_first : {message : List ℕ} {start end : ℕ} {stop : Option ℕ} {len : ℕ} → start ≤ length message → SkipsRun message start stop end 0 len
    → Going message start end message start stop len
going_first {len = len} within r = record {
  octets = [] ++ wire r.front;
  pending = first_run refl within (omega (arith, r.counted, r.room)) (adds_run [] r);
  len_is = omega (arith, r.counted);
}

unfoldable pub going_next : {message : List ℕ} {start end : ℕ} {region : List ℕ} {offset target len : ℕ} {stop : Option ℕ} {end' after : ℕ}
    → Going message start end region offset (Some target) len → target < offset → SkipsRun (take offset region) target stop end' len after
    → Going message start end (take offset region) target stop after
going_next {len = len} g before r =
    let n = length-append g.octets (wire r.front) in
    record {
      octets = g.octets ++ wire r.front;
      pending = next_run g.pending before (omega (arith, n, r.counted, r.room, g.len_is)) (adds_run g.octets r);
      len_is = omega (arith, n, r.counted, g.len_is);
    }

-- where a name stands, it is none of these
pub no_first : {message : List ℕ} {start : ℕ} → ((front : List (List ℕ)) (stop : Option ℕ) (end : ℕ) → IsRun message start front stop end
    → 0 + length (wire front) ≤ 254 → ⊥) → (name : DomainName) (end : ℕ) → IsNameIn message start name end → ⊥
no_first none name end is = first_refused {old = []} refl none name.labels end is.stands is.fits

pub no_next : {message : List ℕ} {start end : ℕ} {region : List ℕ} {offset target len : ℕ} → Going message start end region offset (Some target) len
    → ((front : List (List ℕ)) (stop : Option ℕ) (e : ℕ) → IsRun (take offset region) target front stop e → len + length (wire front) ≤ 254 → ⊥)
    → (name : DomainName) (e : ℕ) → IsNameIn message start name e → ⊥
no_next g none name e is = next_refused g.pending (λ front stop e run room. none front stop e run (omega
    (arith, g.len_is, room))) name.labels e is.stands is.fits

pub ends : {message : List ℕ} {start end : ℕ} {region : List ℕ} {offset len : ℕ} → Going message start end region offset None len → NameEnds message start end
ends g = record { name = name_of g.octets true; is = name_found (no_more g.pending) }

-- ---- what a pointer ends

pub pointer_skips : {message : List ℕ} {offset at before len : ℕ} → Skipped message offset at before len → ((i : ℕ) → get_or message i 0 < 256)
    → 192 ≤ get_or message at 0 → at + 2 ≤ length message
    → SkipsRun message offset (Some ((get_or message at 0 - 192) * 256 + get_or message (at + 1) 0)) (at + 2) before len
pointer_skips s octets high room = skips_run s (at_pointer s.so octets high room)

pub zero_skips : {message : List ℕ} {offset at before len : ℕ} → Skipped message offset at before len → get_or message at 0 ≡ 0 → at < length message
    → SkipsRun message offset None (at + 1) before len
zero_skips s zero room = skips_run s (at_zero s.so zero room)
