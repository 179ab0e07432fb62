-- Octets that stand at an offset, with an octet 0 behind them, or with a pointer behind some to where the others stand.
use Rattle.std.proofs.{lemmas.List.take-append-drop, Common.length-take, Math.Seq.drop-cons}
use Rattle.std.proofs.Common.{◌≡◌, ℕ, suc, ◌+◌, ◌-◌, ◌*◌, ◌<◌, ◌≤◌, List, [], ◌∷◌, ◌++◌, length, take, drop, get_or, Some, refl, sym, ◌∙◌, ap, arith}
use Rattle.dns_fields.specs.{Labels.AreLabels, Labels.wire, Names.LabelsStand.whole}
use Rattle.dns_fields.proofs.Runs.{wire-append}
use Rattle.dns_labels.specs.Emission.{StandsFor, CutAt}
use Rattle.dns_labels.proofs.{ReadingSteps.SoFar, ReadingSteps.at_pointer, ReadingRuns.run_stands, Octets.cut_off}

pub tail_whole : {message : List ℕ} {offset : ℕ} {octets a : List ℕ} (labels : List (List ℕ)) → AreLabels labels → octets ≡ wire labels
    → offset + length octets < length message → a ≡ take (length octets) (drop offset message) → a ≡ octets
    → get_or message (offset + length octets) 0 ≡ 0 → StandsFor message offset octets
tail_whole {message} {offset} {octets} labels are is room a_is same zero =
    let end = offset + length octets in
    let rest : drop end message ≡ 0 ∷ drop (suc end) message = drop-cons message end 0 room ∙ ap (λ (x : ℕ). x ∷ drop (suc end) message) zero in
    record {
      labels = labels;
      end = offset + length (wire labels) + 1;
      stands = whole (drop (suc end) message) are (cut_off message offset (length octets) (sym a_is ∙ same) ∙ ap (λ (x : List ℕ). octets ++ x) rest
          ∙ ap (λ (x : List ℕ). x ++ 0 ∷ drop (suc end) message) is) refl;
      same = is;
    }

-- where the octets at this offset point to
abbrev pub target_at : List ℕ → ℕ → ℕ
target_at message at = (get_or message at 0 - 192) * 256 + get_or message (at + 1) 0

front_stands : (message octets : List ℕ) (offset front : ℕ) (a : List ℕ) → CutAt octets front → length octets ≤ 254 → offset + front + 2 ≤ length message
    → a ≡ take front (drop offset message) → a ≡ take front octets → SoFar message offset (offset + front) [] (take front octets)
front_stands message octets offset front a k short room a_is same =
    let size : length (wire k.front) ≡ front = sym (ap length k.front_is) ∙ length-take front octets ∙ omega (arith, k.within) in
    record {
      front = k.front;
      are = k.are_front;
      octets = k.front_is;
      stands = cut_off message offset front (sym a_is ∙ same ∙ k.front_is);
      at_is = omega arith;
      within = omega arith;
      room = omega (arith, length-take front octets);
    }

pub stands_two : (message octets : List ℕ) (offset front : ℕ) (a b : List ℕ) → CutAt octets front → length octets ≤ 254
    → ((i : ℕ) → get_or message i 0 < 256) → offset + front + 2 ≤ length message → a ≡ take front (drop offset message) → b ≡ take front octets
    → a ≡ b → 192 ≤ get_or message (offset + front) 0 → target_at message (offset + front) < offset
    → StandsFor (take offset message) (target_at message (offset + front)) (drop front octets) → StandsFor message offset octets
stands_two message octets offset front a b k short are room a_is b_is same high before s =
    let r = at_pointer (front_stands message octets offset front a k short room a_is (same ∙ b_is)) are high (omega arith) in
    let t : octets ≡ wire r.front ++ wire s.labels = sym (take-append-drop front octets) ∙ ap (λ (x : List ℕ). x ++ drop front octets) r.octets
    ∙ ap (λ (x : List ℕ). wire r.front ++ x) s.same in
    record {
      labels = r.front ++ s.labels;
      end = offset + front + 2;
      stands = run_stands (Some (target_at message (offset + front))) s.labels r.run (s.end, before, s.stands);
      same = t ∙ sym (wire-append r.front s.labels);
    }
