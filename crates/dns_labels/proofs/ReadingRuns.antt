-- One run after another makes a name.
use Rattle.std.proofs.{Common.subst, Common.append_assoc, Common.arith, Common.length-take, Math.Seq.take-append_seam, lemmas.List.append-nil}
use Rattle.std.proofs.Common.{◌≡◌, ℕ, ◌+◌, ◌-◌, ◌/◌, ◌%◌, ◌<◌, ◌≤◌, List, [], ◌∷◌, ◌++◌, length, take, drop, get_or, Option, Some, None, refl, sym, ◌∙◌, ap}
use Rattle.dns_fields.specs.{Names.LabelsStand.whole, Names.LabelsStand.pointed, Labels.wire, Labels.FitsName, Names.LabelsStand}
use Rattle.dns_labels.specs.Reading.{IsRun, AddsRun, IsNameAt}
use Rattle.dns_fields.proofs.{Unique.zero_stop, Unique.pointer_stop, Unique.apart, Unique.same_target, Runs.same_run, Runs.wire-append}
use Rattle.dns_labels.proofs.{ReadingSteps.SoFar, ReadingSteps.at_zero, Octets.wire_length}

-- these labels stand from where the run that began at this offset leads
abbrev pub RestStands : List ℕ → ℕ → Option ℕ → List (List ℕ) → Type 0
RestStands region offset None rest = rest ≡ []
RestStands region offset (Some target) rest = (end : ℕ) × (target < offset) × LabelsStand (take offset region) target rest end

-- labels in two parts, of which the second stands where a run leads
pub record Parts (labels front : List (List ℕ)) (region : List ℕ) (offset : ℕ) (stop : Option ℕ) : Type 0 where
  pub rest : List (List ℕ)
  pub joined : labels ≡ front ++ rest
  pub stands : RestStands region offset stop rest

pub run_stands : {w : List ℕ} {p end : ℕ} {front : List (List ℕ)} (stop : Option ℕ) (rest : List (List ℕ)) → IsRun w p front stop end
    → RestStands w p stop rest → LabelsStand w p (front ++ rest) end
run_stands {w} {p} {end} {front} None rest r s =
    let e : front ++ rest ≡ front = rw s (append-nil front) in
    rw e (whole r.behind r.are r.stands r.ends)
run_stands {w} {p} {end} {front} (Some t) rest r s = pointed front rest t s.0 r.behind r.are r.stands r.target s.1 s.2 refl r.ends

pub stands_run : {w : List ℕ} {p end e : ℕ} {front labels : List (List ℕ)} (stop : Option ℕ) → IsRun w p front stop end → LabelsStand w p labels e
    → Parts labels front w p stop
stands_run {w} {p} {end} {e} {front} {labels} None r (whole b h s ends) =
    let k = same_run front labels r.behind b 0 0 r.are h zero_stop zero_stop (sym r.stands ∙ s) in
    record { rest = []; joined = sym k.0 ∙ sym (append-nil front); stands = refl }
stands_run {w} {p} {end} {e} {front} {labels} (Some t) r (whole b h s ends) =
    absurd (apart t (same_run labels front b (t % 256 ∷ r.behind) 0 (192 + t / 256) h r.are zero_stop (pointer_stop t) (sym s ∙ r.stands)).1)
stands_run {w} {p} {end} {e} {front} {labels} None r (pointed f rest t re b h s lt lp st j ends) =
    absurd (apart t (same_run front f r.behind (t % 256 ∷ b) 0 (192 + t / 256) r.are h zero_stop (pointer_stop t) (sym r.stands ∙ s)).1)
stands_run {w} {p} {end} {e} {front} {labels} (Some u) r (pointed f rest t re b h s lt lp st j ends) =
    let k = same_run front f (u % 256 ∷ r.behind) (t % 256 ∷ b) (192 + u / 256) (192 + t / 256) r.are h (pointer_stop u) (pointer_stop t) (sym r.stands ∙ s) in
    let target : t ≡ u = same_target t u b r.behind (sym k.1) in
    let moved : LabelsStand (take p w) u rest re = subst (λ (q : ℕ). LabelsStand (take p w) q rest re) target st in
    record { rest = rest; joined = j ∙ ap (λ (x : List (List ℕ)). x ++ rest) (sym k.0); stands = (re, omega arith, moved) }

-- where a name stands, a run stands
pub record HasRun (w : List ℕ) (p : ℕ) (labels : List (List ℕ)) : Type 0 where
  pub front : List (List ℕ)
  pub stop : Option ℕ
  pub end : ℕ
  pub rest : List (List ℕ)
  pub run : IsRun w p front stop end
  pub joined : labels ≡ front ++ rest

pub has_run : {w : List ℕ} {p e : ℕ} {labels : List (List ℕ)} → LabelsStand w p labels e → HasRun w p labels
has_run {w} {p} {e} {labels} (whole b h s ends) =
    record {
      front = labels;
      stop = None;
      end = e;
      rest = [];
      run = record { are = h; behind = b; stands = s; target = tt; ends = ends };
      joined =
          sym (append-nil labels);
    }
has_run {w} {p} {e} {labels} (pointed f rest t re b h s lt lp st j ends) =
    record { front = f; stop = Some t; end = e; rest = rest; run = record { are = h; behind = b; stands = s; target = lt; ends = ends }; joined = j }

-- the runs that were read so far begin the name, and the last one leads on
pub record Pending (message : List ℕ) (start end : ℕ) (region : List ℕ) (offset : ℕ) (next : Option ℕ) (octets : List ℕ) : Type 0 where
  pub front : List (List ℕ)
  pub same : octets ≡ wire front
  pub room : length octets ≤ 254
  pub within : offset ≤ length region
  pub sound : (rest : List (List ℕ)) → RestStands region offset next rest → LabelsStand message start (front ++ rest) end
  pub complete : (labels : List (List ℕ)) (e : ℕ) → LabelsStand message start labels e → Parts labels front region offset next

pub first_run : {message : List ℕ} {start end : ℕ} {stop : Option ℕ} {old octets : List ℕ} → old ≡ [] → start ≤ length message → length octets ≤ 254
    → AddsRun message start stop end old octets → Pending message start end message start stop octets
first_run {stop} none within room a = record {
  front = a.front;
  same = a.octets ∙ ap (λ (t : List ℕ). t ++ wire a.front) none;
  room = room;
  within = within;
  sound = λ rest s. run_stands stop rest a.run s;
  complete = λ labels e s. stands_run stop a.run s;
}

module _ {message : List ℕ} {start end : ℕ} {region : List ℕ} {offset target : ℕ} {octets : List ℕ} (p : Pending message start end region offset (Some target) octets) where
  pub next_run : {new : List ℕ} {stop : Option ℕ} {end' : ℕ} → target < offset → length new ≤ 254
      → AddsRun (take offset region) target stop end' octets new → Pending message start end (take offset region) target stop new
  next_run {new} {stop} {end'} before room a = record {
    front = p.front ++ a.front;
    same = a.octets ∙ ap (λ (t : List ℕ). t ++ wire a.front) p.same ∙ sym (wire-append p.front a.front);
    room = room;
    within = omega (arith, length-take offset region, p.within);
    sound = λ rest s. subst (λ (x : List (List ℕ)). LabelsStand message start x end) (sym (append_assoc p.front a.front rest))
        (p.sound (a.front ++ rest) (end', before, run_stands stop rest a.run s));
    complete = λ labels e s.
        let outer = p.complete labels e s in
        let inner = stands_run stop a.run outer.stands.2 in
        record {
          rest = inner.rest;
          joined = outer.joined ∙ ap (λ (x : List (List ℕ)). p.front ++ x) inner.joined ∙ sym (append_assoc p.front a.front inner.rest);
          stands = inner.stands;
        };
  }

  -- no pointer leads forward
  pub not_before : offset ≤ target → (labels : List (List ℕ)) (e : ℕ) → LabelsStand message start labels e → FitsName labels → ⊥
  not_before h labels e s fits = let k = (p.complete labels e s).stands in omega (arith, k.1)

  -- where no run can be read, no name stands
  pub next_refused : ((front : List (List ℕ)) (stop : Option ℕ) (e : ℕ) → IsRun (take offset region) target front stop e
      → length octets + length (wire front) ≤ 254 → ⊥) → (labels : List (List ℕ)) (e : ℕ) → LabelsStand message start labels e → FitsName labels → ⊥
  next_refused none labels e s fits =
      let k = p.complete labels e s in
      let r = has_run k.stands.2 in
      none r.front r.stop r.end r.run (omega (arith, fits, ap length p.same, wire_length p.front k.rest k.joined, wire_length r.front r.rest r.joined))

pub first_refused : {message : List ℕ} {start : ℕ} {old : List ℕ} → old ≡ []
    → ((front : List (List ℕ)) (stop : Option ℕ) (end : ℕ) → IsRun message start front stop end → length old + length (wire front) ≤ 254 → ⊥)
    → (labels : List (List ℕ)) (e : ℕ) → LabelsStand message start labels e → FitsName labels → ⊥
first_refused empty none labels e s fits =
    let r = has_run s in
    none r.front r.stop r.end r.run (omega (arith, fits, ap length empty, wire_length r.front r.rest r.joined))

pub no_more : {message : List ℕ} {start end : ℕ} {region : List ℕ} {offset : ℕ} {octets : List ℕ} → Pending message start end region offset None octets
    → IsNameAt message start octets end
no_more {message} {start} {end} p = record {
  labels = p.front;
  stands = subst (λ (x : List (List ℕ)). LabelsStand message start x end) (append-nil p.front) (p.sound [] refl);
  fits = omega (arith, p.room, ap length p.same);
  same = p.same;
}

-- the octets of labels that were read up to an octet 0 stand there whole, and are a name
pub uncompressed_length : {message : List ℕ} {start at : ℕ} {octets : List ℕ} → SoFar message start at [] octets → at ≡ start + length octets
uncompressed_length s = omega (arith, s.at_is, ap length s.octets)

uncompressed_part : {message : List ℕ} {start at : ℕ} {octets : List ℕ} → SoFar message start at [] octets → take (at - start) (drop start message) ≡ octets
uncompressed_part {message} {start} {at} {octets} s =
    ap (λ (n : ℕ). take n (drop start message)) (omega (arith, s.at_is)) ∙ ap (λ (x : List ℕ). take (length (wire s.front)) x) s.stands
    ∙ take-append_seam (wire s.front) (drop at message) ∙ sym s.octets

pub uncompressed_name : {message : List ℕ} {start at : ℕ} {octets : List ℕ} → SoFar message start at [] octets → start ≤ length message
    → get_or message at 0 ≡ 0
    → at < length message
    → IsNameAt message start (take (at - start) (drop start message)) (start + length (take (at - start) (drop start message)) + 1)
uncompressed_name {message} {start} {at} {octets} s within zero room =
    let found = no_more (first_run refl within s.room (at_zero s zero room)) in
    rw (uncompressed_part s) (subst (λ (e : ℕ). IsNameAt message start octets e) (omega (arith, uncompressed_length s)) found)
