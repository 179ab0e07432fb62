-- A name that was written.
use Rattle.std.proofs.{lemmas.List.append-nil, lemmas.List.take_all, Common.length-append, Common.length-take}
use Rattle.std.proofs.Common.{◌≡◌, ◌≢◌, ℕ, Bool, ◌+◌, ◌<◌, sym, subst, append_assoc, List, [], ◌∷◌, ◌++◌, length, take, Option, None, refl, ap, ◌∙◌, arith}
use Rattle.dns_fields.specs.{declared.RDataEncoding.RDataEncoding, Names.NameWrote, Names.pointer}
use Rattle.dns_fields.proofs.{NameLaws.lowname_length, NameLaws.name_same, NameLaws.name_append, Stays.end_within}
use Rattle.dns_labels.specs.{Emission.StandsFor, Emission.IsNameCut, Labels.name_of, Labels.AreNameOctets, Reading.stop_octets}
use Rattle.dns_labels.proofs.{CutSteps.cut_stands, CutSteps.whole_found, CutSteps.cut_whole, CutSteps.cut_short, Lowered.low_labels_same, Found.name_is_of}
use Rattle.dns_fields.specs.declared.RDataEncoding.TheVariants as modes

-- the octets up to the cut and what ends them are the name
pub cut_wrote : {mode : RDataEncoding} {message old part new octets : List ℕ} {cut : ℕ} {target stop : Option ℕ} → message ≡ old → AreNameOctets octets
    → IsNameCut message octets cut target → (mode ≢ modes.StandardRecord → (cut ≡ length octets) × (target ≡ None)) → part ≡ old ++ take cut octets
    → target ≡ stop → new ≡ part ++ stop_octets stop → (mark : Bool) → NameWrote mode old (name_of octets mark) new
cut_wrote {message} {old} {part} {new} {octets} {cut} {target} {stop} same n k whole p t e mark =
    let k' : IsNameCut old octets cut target = subst (λ (m : List ℕ). IsNameCut m octets cut target) same k in
    let e' : new ≡ old ++ (take cut octets ++ stop_octets target) = e ∙ ap (λ (s : Option ℕ). part ++ stop_octets s) (sym t)
    ∙ ap (λ (x : List ℕ). x ++ stop_octets target) p ∙ append_assoc old (take cut octets) (stop_octets target) in
    record {
      is_name = name_is_of octets mark n;
      tail = take cut octets ++ stop_octets target;
      behind = e';
      shorter = omega (
        arith,
        cut_short old octets cut target k',
        length-append (take cut octets) (stop_octets target),
        length-take cut octets,
        k'.cut.within,
        ap length n.same,
        lowname_length (name_of octets mark),
      );
      stands = record { stands = cut_stands n k' e'; fits = (name_is_of octets mark n).fits; qualified = refl };
      whole = λ other.
          let w = whole other in
          let all : take cut octets ≡ octets = take_all cut octets (omega (arith, w.0)) in
          e' ∙ ap (λ (s : Option ℕ). old ++ (take cut octets ++ stop_octets s)) w.1 ∙ ap (λ (x : List ℕ). old ++ (x ++ 0 ∷ [])) (all ∙ n.same);
    }

-- a pointer to where the name stands already wrote it
pub pointer_wrote : {mode : RDataEncoding} {old new octets : List ℕ} (offset : ℕ) → new ≡ old ++ pointer offset → StandsFor old offset octets
    → mode ≡ modes.StandardRecord → AreNameOctets octets → 0 < length octets → offset < 16384 → (mark : Bool) → NameWrote mode old (name_of octets mark) new
pointer_wrote {old = old} {octets = octets} offset e s is n some low = cut_wrote refl n (whole_found old octets offset n some low s)
    (λ other. absurd (other is)) (sym (append-nil old)) refl e

-- its octets and a 0 wrote it
pub whole_wrote : {mode : RDataEncoding} {old kept part new octets : List ℕ} → AreNameOctets octets → new ≡ part ++ 0 ∷ [] → part ≡ kept ++ octets → kept ≡ old
    → (mark : Bool) → NameWrote mode old (name_of octets mark) new
whole_wrote {old = old} {octets = octets} n e p k =
    cut_wrote refl n (cut_whole old octets n) (λ _. (refl, refl)) (p ∙ rw (k, take_all (length octets) octets (omega arith)) refl) refl e

-- an emission that lacks room lacks it for the whole name
pub lacks_room : {message old octets : List ℕ} {cut limit : ℕ} {target : Option ℕ} → message ≡ old → IsNameCut message octets cut target
    → limit < length old + (cut + length (stop_octets target)) → limit < length old + (length octets + 1)
lacks_room {message} {octets} {cut} {target} same k h = omega (arith, h, cut_short message octets cut target k)

pub ruleset name_laws = (name_same, name_append, end_within, low_labels_same)
