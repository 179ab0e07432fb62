-- The steps by which a tail is found.
use Rattle.std.proofs.{Common.length-drop, Common.length-take, Common.get_or, lemmas.Bool.OnTrue_from, lemmas.Bool.eqb-true, Math.Seq.take-add}
use Rattle.std.proofs.lemmas.List.{append-nil, take_all}
use Rattle.std.proofs.Common.{◌≡◌, ℕ, ◌+◌, ◌<◌, ◌≤◌, List, [], ◌++◌, length, take, drop, Option, Some, None, refl, sym, ◌∙◌, ap, subst, append_assoc, arith}
use Rattle.std.specs.{Prelude.nat_eq, Bool.OnTrue}
use Rattle.dns_fields.specs.{Names.LabelsStand, Labels.wire}
use Rattle.dns_labels.specs.{Emission.StandsFor, Reading.AddsRun}
use Rattle.dns_fields.proofs.Runs.{wire-append}
use Rattle.dns_labels.proofs.{ReadingSteps.SoFar, ReadingSteps.one_more, ReadingRuns.run_stands}

-- labels that stand here make the octets' labels stand there
pub record Matched (message : List ℕ) (offset : ℕ) (region : List ℕ) (begin : ℕ) (octets : List ℕ) (matched : ℕ) : Type 0 where
  pub front : List (List ℕ)
  pub same : take matched octets ≡ wire front
  pub within : matched ≤ length octets
  pub begins : begin ≤ length region
  pub leads : (rest : List (List ℕ)) (end : ℕ) → LabelsStand region begin rest end → (e : ℕ) × LabelsStand message offset (front ++ rest) e

-- octets that stand in the message and in the name are one label more
pub one_matched : {message : List ℕ} {offset at : ℕ} {a b : List ℕ} (taken : ℕ) (octets : List ℕ)
    → SoFar message offset at [] (take taken octets) × (taken ≤ length octets)
    → 1 ≤ get_or message at 0 → get_or message at 0 ≤ 63 → at + get_or message at 0 + 1 ≤ length message → taken + get_or message at 0 + 1 ≤ length octets
    → length octets ≤ 254 → a ≡ take (get_or message at 0 + 1) (drop at message) → b ≡ take (get_or message at 0 + 1) (drop taken octets)
    → a ≡ b → SoFar message offset (at + (get_or message at 0 + 1)) [] (take (taken + (get_or message at 0 + 1)) octets)
    × (taken + (get_or message at 0 + 1) ≤ length octets)
one_matched {message} {at} taken octets s low high room fits short a_is b_is same =
    let n = get_or message at 0 in
    let t : take (taken + (n + 1)) octets ≡ take taken octets ++ _ = take-add taken (n + 1) octets
    ∙ ap (λ (x : List ℕ). take taken octets ++ x) (sym b_is ∙ sym same) in
    let len : length (take taken octets) ≡ taken = length-take taken octets ∙ omega arith in
    (rw t (one_more s.0 low high room (omega arith) a_is), omega arith)

-- a run of the name's next labels
abbrev pub IsNextRun : List ℕ → ℕ → List ℕ → ℕ → Option ℕ → ℕ → Type 0
IsNextRun region begin octets matched stop taken = (end : ℕ) × AddsRun region begin stop end [] (take taken (drop matched octets))
    × (taken ≤ length (drop matched octets))

both_parts : {message : List ℕ} {offset : ℕ} {region : List ℕ} {begin : ℕ} {octets : List ℕ} {matched taken : ℕ} {stop : Option ℕ}
    (m : Matched message offset region begin octets matched) (r : IsNextRun region begin octets matched stop taken)
    → take (matched + taken) octets ≡ wire (m.front ++ r.1.front)
both_parts {octets} {matched} {taken} m r = take-add matched taken octets ∙ ap (λ (x : List ℕ). take matched octets ++ x) r.1.octets
    ∙ ap (λ (x : List ℕ). x ++ wire r.1.front) m.same ∙ sym (wire-append m.front r.1.front)

pub next_matched : {message : List ℕ} {offset : ℕ} {region : List ℕ} {begin : ℕ} {octets : List ℕ} {matched taken target : ℕ}
    → Matched message offset region begin octets matched → IsNextRun region begin octets matched (Some target) taken → target < begin
    → Matched message offset (take begin region) target octets (matched + taken)
next_matched {message} {offset} {region} {begin} {octets} {matched} {taken} {target} m r before =
    let f = r.1.front in
    record {
      front = m.front ++ f;
      same = both_parts m r;
      within = omega (arith, r.2, m.within, length-drop matched octets);
      begins = omega (arith, length-take begin region, m.begins);
      leads = λ rest end s.
          let k = m.leads (f ++ rest) r.0 (run_stands (Some target) rest r.1.run (end, before, s)) in
          (k.0, subst (λ (x : List (List ℕ)). LabelsStand message offset x k.0) (sym (append_assoc m.front f rest)) k.1);
    }

pub is_matched : {message : List ℕ} {offset : ℕ} {region : List ℕ} {begin : ℕ} {octets : List ℕ} {matched taken : ℕ}
    → Matched message offset region begin octets matched → IsNextRun region begin octets matched None taken
    → OnTrue (nat_eq (matched + taken) (length octets)) (StandsFor message offset octets)
is_matched {message} {offset} {region} {begin} {octets} {matched} {taken} m r =
    OnTrue_from (nat_eq (matched + taken) (length octets)) (StandsFor message offset octets) (λ h.
    let f = r.1.front in
    let whole : matched + taken ≡ length octets = eqb-true (matched + taken) (length octets) h in
    let all : take (matched + taken) octets ≡ octets = take_all (matched + taken) octets (omega arith) in
    let last : LabelsStand region begin f r.0 = subst (λ (x : List (List ℕ)). LabelsStand region begin x r.0) (append-nil f)
    (run_stands None [] r.1.run refl) in
    let k = m.leads f r.0 last in
    record { labels = m.front ++ f; end = k.0; stands = k.1; same = sym all ∙ both_parts m r })
