-- The laws of one field, by cases on its kind.
use Rattle.std.proofs.Common.{◌≡◌, ℕ, ◌≤◌, List, [], ◌∷◌, ◌++◌, length, refl, sym, ap, ◌∙◌, arith, subst, ◌-◌, ◌⊎◌, inl, inr, map}
use Rattle.std.specs.{List.flat_map, List.AllByRecursion, Ordering.on}
use Rattle.std.proofs.lemmas.List.Sorted.{IsPermutation-refl, IsPermutation-sym, IsPermutation-trans, IsPermutation-map}
use Rattle.dns_fields.specs.{Sorting.sorted, declared.RDataEncoding.RDataEncoding, Labels.full_name}
use Rattle.dns_fields.specs.Tlvs.{string, Numbered, tlv, tlvs, AllHeld, as_tlv, HoldThemselves, OptionValue, option_octets, OptionHeld}
use Rattle.dns_fields.specs.Tlvs.{OptionFits, parameter_octets, ParameterHeld, ParameterFits}
use Rattle.dns_fields.specs.Fields.{Lawful, option_tlvs, parameter_tlvs, CompleteOptions, TruncatedOptions}
use Rattle.dns_fields.specs.declared.Kind.{TheVariants.Options, TheVariants.Parameters, TheVariants.Bitmap, Kind, TheVariants.Number}
use Rattle.dns_fields.specs.Fields.{Value, field_octets, Fits, Field, WroteField, SameField, EndsItself, IsFull}
use Rattle.dns_fields.specs.declared.Kind.{TheVariants.Octets, TheVariants.Name, TheVariants.CharacterString, TheVariants.CharacterStrings, TheVariants.Rest}
use Rattle.dns_fields.proofs.{Bitmaps.bitmap_same, Bitmaps.bitmap_append, Bitmaps.minimal_stands, Numbers.length-bytes, Numbers.same_number}
use Rattle.dns_fields.proofs.Sorted.{octets_cmp, sorted_same, sorted_permutes, sorted_all, map_sorted, flat_map_all, length_sorted}
use Rattle.dns_fields.proofs.Tlvs.{tlvs_same, complete_or_truncated, held_same, held_fit, lawful_held, fit_tlvs}
use Rattle.dns_fields.proofs.OptionLaws.{option_once, option_own, option_fit}
use Rattle.dns_fields.proofs.ParameterLaws.{strings_same, parameter_once, parameter_own, parameter_fit}
use Rattle.dns_fields.proofs.NameOffsets.{At-same_end, At-same_head, At-append, At-appended}
use Rattle.dns_fields.proofs.NameLaws.{name_same, name_append, name_inside, name_is, low_name, low_name_same, low_name_wrote}

abbrev OptionsAt : List ℕ → ℕ → List (Numbered OptionValue) → ℕ → Type 0
OptionsAt m p v q = CompleteOptions m p v q ⊎ ((v ≡ []) × TruncatedOptions m (q - p) p q)

options_inside : {m : List ℕ} {p : ℕ} {v : List (Numbered OptionValue)} {q : ℕ} → OptionsAt m p v q → (p ≤ q) × (q ≤ length m)
options_inside (inl w) = (omega (arith, w.at.ends), w.at.within)
options_inside (inr c) = (omega (arith, c.1.at.ends), c.1.at.within)

options_append : {m : List ℕ} {p : ℕ} {v : List (Numbered OptionValue)} {q : ℕ} (t : List ℕ) → OptionsAt m p v q → OptionsAt (m ++ t) p v q
options_append t (inl w) = inl (record { read = w.read; at = At-append t w.at; fit = w.fit; held = w.held })
options_append t (inr c) = inr (
  c.0,
  record
      { read = c.1.read; dropped = c.1.dropped; stub = c.1.stub; at = At-append t c.1.at; fit = c.1.fit; held = c.1.held; cut = c.1.cut },
)

options_same : {m : List ℕ} {p : ℕ} {v w : List (Numbered OptionValue)} {q : ℕ} → OptionsAt m p v q → OptionsAt m p w q
    → v ≡ w
options_same {v = v} {w = w} (inl a) (inl b) =
    let e : a.read ≡ b.read = tlvs_same a.read b.read a.fit b.fit (At-same_end a.at b.at) in
    held_same OptionHeld option_octets option_once b.read v w (subst (λ (xs : List (Numbered (List ℕ))). AllHeld OptionHeld xs v) e a.held) b.held
options_same {p = p} {q = q} (inl a) (inr b) = absurd (complete_or_truncated _ a.read b.1.read b.1.stub a.fit b.1.fit b.1.cut (At-same_end a.at b.1.at))
options_same {p = p} {q = q} (inr a) (inl b) = absurd (complete_or_truncated _ b.read a.1.read a.1.stub b.fit a.1.fit a.1.cut (At-same_end b.at a.1.at))
options_same (inr a) (inr b) = a.0 ∙ sym b.0

options_fit : {m : List ℕ} {p : ℕ} {v : List (Numbered OptionValue)} {q : ℕ} → OptionsAt m p v q → AllByRecursion OptionFits v
options_fit {v = v} (inl a) = held_fit OptionHeld option_octets OptionFits option_fit a.read v a.fit a.held
options_fit (inr a) = subst (AllByRecursion OptionFits) (sym a.0) tt

options_lawful : {m : List ℕ} {p : ℕ} {v : List (Numbered OptionValue)} {q : ℕ} → OptionsAt m p v q → HoldThemselves OptionHeld option_octets v
options_lawful {v = v} (inl a) =
    held_fit OptionHeld option_octets (λ x. OptionHeld x.0 (option_octets x.1) x.1) (λ k d w p q h. option_own k d w h) a.read v a.fit a.held
options_lawful (inr a) = subst (HoldThemselves OptionHeld option_octets) (sym a.0) tt

-- options sorted by their octets
sorted_options : List (Numbered OptionValue) → List (Numbered OptionValue)
sorted_options v = sorted (on (λ (x : Numbered OptionValue). tlv (as_tlv option_octets x)) octets_cmp) v

pub field_inside : {m : List ℕ} {p : ℕ} {k : Kind} {v : Value k} {q : ℕ} → Field m p k v q → (p ≤ q) × (q ≤ length m)
field_inside {k = Name} f = name_inside f.is
field_inside {k = Rest} f = (omega (arith, f.is.ends), f.is.within)
field_inside {m} {p} {k = Options} {v} {q} f = options_inside f.is
field_inside {k = Parameters} f = (omega (arith, f.is.at.ends), f.is.at.within)
field_inside {k = Bitmap} f = (omega (arith, f.is.at.ends), f.is.at.within)
field_inside f = (omega (arith, f.is.1.ends), f.is.1.within)

-- it stands where it does whatever follows the message
pub field_append : {m : List ℕ} {p : ℕ} {k : Kind} {v : Value k} {q : ℕ} (t : List ℕ) → Field m p k v q → Field (m ++ t) p k v q
field_append {k = Name} t f = record { is = name_append t f.is }
field_append {k = Rest} t f = record { is = At-append t f.is }
field_append {k = Options} t f = record { is = options_append t f.is }
field_append {k = Parameters} t f = record
    { is = record { read = f.is.read; at = At-append t f.is.at; fit = f.is.fit; held = f.is.held; rising = f.is.rising } }
field_append {k = Bitmap} t f = record { is = bitmap_append t f.is }
field_append t f = record { is = (f.is.0, At-append t f.is.1) }

-- between two offsets is at most one value
pub field_same : {m : List ℕ} {p : ℕ} {k : Kind} {v w : Value k} {q : ℕ} → Field m p k v q → Field m p k w q → v ≡ w
field_same {k = Number n} {v} {w} f g = same_number n v w f.is.0 g.is.0 (At-same_end f.is.1 g.is.1)
field_same {k = Octets n} f g = At-same_end f.is.1 g.is.1
field_same {k = Name} f g = (name_same f.is g.is).0
field_same {k = CharacterString} {v} {w} f g = let e : string v ≡ string w = At-same_end f.is.1 g.is.1 in cc
field_same {k = CharacterStrings} {v} {w} f g = strings_same v w f.is.0 g.is.0 (At-same_end f.is.1 g.is.1)
field_same {k = Rest} f g = At-same_end f.is g.is
field_same {k = Options} f g = options_same f.is g.is
field_same {k = Parameters} {v} {w} f g =
    let e : f.is.read ≡ g.is.read = tlvs_same f.is.read g.is.read f.is.fit g.is.fit (At-same_end f.is.at g.is.at) in
    held_same ParameterHeld parameter_octets parameter_once g.is.read v w
    (subst (λ (xs : List (Numbered (List ℕ))). AllHeld ParameterHeld xs v) e f.is.held) g.is.held
field_same {k = Bitmap} f g = bitmap_same f.is g.is

-- and it has one end where its kind says it
pub field_end : {m : List ℕ} {p : ℕ} {k : Kind} {v w : Value k} {q r : ℕ} → EndsItself k → Field m p k v q → Field m p k w r → q ≡ r
field_end {k = Number n} {v} {w} h f g = omega (arith, f.is.1.ends, g.is.1.ends, length-bytes n v, length-bytes n w)
field_end {k = Octets n} h f g = omega (arith, f.is.1.ends, g.is.1.ends, f.is.0, g.is.0)
field_end {k = Name} h f g = (name_same f.is g.is).1
field_end {k = CharacterString} {v} {w} h f g = let n : length v ≡ length w = At-same_head f.is.1 g.is.1 in omega (arith, f.is.1.ends, g.is.1.ends)
field_end h f g = elim h [ ]

-- what stands can be written
pub field_fits : {m : List ℕ} {p : ℕ} {k : Kind} {v : Value k} {q : ℕ} → Field m p k v q → Fits k v
field_fits {k = Name} f = name_is f.is
field_fits {k = Rest} f = tt
field_fits {k = Options} f = options_fit f.is
field_fits {k = Parameters} {v} f = (held_fit ParameterHeld parameter_octets ParameterFits parameter_fit f.is.read v f.is.fit f.is.held, f.is.rising)
field_fits {k = Bitmap} f = f.is.set
field_fits f = f.is.0

-- what stands is of a read
pub field_lawful : {m : List ℕ} {p : ℕ} {k : Kind} {v : Value k} {q : ℕ} → Field m p k v q → Lawful k v
field_lawful {k = Options} f = options_lawful f.is
field_lawful {k = Parameters} {v} f = held_fit ParameterHeld parameter_octets (λ x. ParameterHeld x.0 (parameter_octets x.1) x.1)
    (λ k d w p q h. parameter_own k d w h) f.is.read v f.is.fit f.is.held
field_lawful f = tt

-- what was written reads there as the same value
pub wrote_field : {mode : RDataEncoding} {m : List ℕ} {k : Kind} {v : Value k} {m' : List ℕ} → Lawful k v → WroteField mode m k v m'
    → (w : Value k) × SameField k v w × Field m' (length m) k w (length m')
wrote_field {k = Name} {v} h f = (full_name v, record { is = record { low = refl } }, record { is = f.is.stands })
wrote_field {m} {k = Rest} {v} h f = (v, record { is = refl }, record { is = rw f.is (At-appended m v) })
wrote_field {m} {k = Options} {v} {m'} h f = (
  v,
  record { is = IsPermutation-refl v },
  record {
    is = inl (record {
      read = option_tlvs v;
      at = rw f.is.1 (At-appended m (tlvs (option_tlvs v)));
      fit = fit_tlvs OptionHeld option_octets OptionFits (λ x fits. fits.0) v f.is.0;
      held = lawful_held OptionHeld option_octets v h;
    });
  },
)
wrote_field {m} {k = Parameters} {v} {m'} h f = (
  v,
  record { is = refl },
  record {
    is = record {
      read = parameter_tlvs v;
      at = rw f.is.2 (At-appended m (tlvs (parameter_tlvs v)));
      fit = fit_tlvs ParameterHeld parameter_octets ParameterFits (λ x fits. fits.0) v f.is.0;
      held = lawful_held ParameterHeld parameter_octets v h;
      rising = f.is.1;
    };
  },
)
wrote_field {m} {k = Bitmap} {v} h f = (v, record { is = refl }, record { is = rw f.is.1 (minimal_stands m v f.is.0) })
wrote_field {m} {v = v} h f = (v, record { is = refl }, record { is = (f.is.0, rw f.is.1 (At-appended m _)) })

-- behind what was there, and at most the canonical octets
pub wrote_tail : {mode : RDataEncoding} {m : List ℕ} {k : Kind} {v : Value k} {m' : List ℕ} → WroteField mode m k v m'
    → (t : List ℕ) × (m' ≡ m ++ t) × (length t ≤ length (field_octets k v))
unfolding field_octets
wrote_tail {k = Name} f = (f.is.tail, f.is.behind, f.is.shorter)
wrote_tail {m} {k = Rest} {v} f = (v, f.is, omega arith)
wrote_tail {m} {k = Options} {v} f =
    let n : length (flat_map (λ (x : List ℕ). x) (sorted octets_cmp (map tlv (option_tlvs v)))) ≡ length (tlvs (option_tlvs v)) =
    length_sorted octets_cmp (map tlv (option_tlvs v)) ∙ ap length (flat_map_all tlv (option_tlvs v)) in
    (tlvs (option_tlvs v), f.is.1, omega (arith, n))
wrote_tail {m} {k = Parameters} {v} f = (tlvs (parameter_tlvs v), f.is.2, omega arith)
wrote_tail f = (_, f.is.1, omega arith)

pub wrote_fits : {mode : RDataEncoding} {m : List ℕ} {k : Kind} {v : Value k} {m' : List ℕ} → WroteField mode m k v m' → Fits k v
wrote_fits {k = Name} f = f.is.is_name
wrote_fits {k = Rest} f = tt
wrote_fits {k = Parameters} f = (f.is.0, f.is.1)
wrote_fits f = f.is.0

-- a value that is written
pub record Written (mode : RDataEncoding) (m : List ℕ) (k : Kind) (v : Value k) (m' : List ℕ) : Type 0 where
  pub value : Value k
  pub same : SameField k v value
  pub lawful : Lawful k value
  pub wrote : WroteField mode m k value m'

-- the sorted options have their tlvs in the order of the canonical octets
options_sorted : (v : List (Numbered OptionValue))
    → flat_map (λ (x : List ℕ). x) (sorted octets_cmp (map tlv (option_tlvs v))) ≡ tlvs (option_tlvs (sorted_options v))
unfolding sorted_options
options_sorted v =
    let f : Numbered OptionValue → List ℕ = λ x. tlv (as_tlv option_octets x) in
    ap (λ (l : List (List ℕ)). flat_map (λ (x : List ℕ). x) (sorted octets_cmp l)) (twice v)
    ∙ ap (flat_map (λ (x : List ℕ). x)) (sym (map_sorted octets_cmp f v) ∙ sym (twice (sorted (on f octets_cmp) v)))
    ∙ flat_map_all tlv (option_tlvs (sorted (on f octets_cmp) v))
  where
    twice : (v : List (Numbered OptionValue)) → map tlv (option_tlvs v) ≡ map (λ (x : Numbered OptionValue). tlv (as_tlv option_octets x)) v
    twice [] = refl
    twice (x ∷ xs) = ap (λ (l : List (List ℕ)). tlv (as_tlv option_octets x) ∷ l) (twice xs)

-- the canonical octets are one of the ways to write an equal value
pub octets_wrote : (mode : RDataEncoding) (m : List ℕ) (k : Kind) (v : Value k) → Fits k v → Lawful k v → Written mode m k v (m ++ field_octets k v)
unfolding field_octets sorted_options
octets_wrote mode m Name v h l = record {
  value = low_name v;
  same = record { is = low_name_same v };
  lawful = tt;
  wrote =
      record { is = low_name_wrote mode m v h };
}
octets_wrote mode m Rest v h l = record { value = v; same = record { is = refl }; lawful = tt; wrote = record { is = refl } }
octets_wrote mode m Options v h l =
    let R = on (λ (x : Numbered OptionValue). tlv (as_tlv option_octets x)) octets_cmp in
    record {
      value = sorted_options v;
      same = record { is = sorted_permutes R v };
      lawful = sorted_all R (λ (x : Numbered OptionValue). OptionHeld x.0 (option_octets x.1) x.1) v l;
      wrote = record { is = (sorted_all R OptionFits v h, ap (λ (o : List ℕ). m ++ o) (options_sorted v)) };
    }
octets_wrote mode m Parameters v h l = record { value = v; same = record { is = refl }; lawful = l; wrote = record { is = (h.0, h.1, refl) } }
octets_wrote mode m k v h l = record { value = v; same = record { is = refl }; lawful = tt; wrote = record { is = (h, refl) } }

-- the same value has the same canonical octets
pub octets_same : {k : Kind} {a b : Value k} → SameField k a b → field_octets k a ≡ field_octets k b
unfolding field_octets
octets_same {k = Name} s = s.is.low
octets_same {k = Options} {a} {b} s =
    ap (flat_map (λ (x : List ℕ). x)) (sorted_same (map tlv (option_tlvs a)) (map tlv (option_tlvs b))
    (IsPermutation-map tlv (option_tlvs a) (option_tlvs b) (IsPermutation-map (as_tlv option_octets) a b s.is)))
octets_same {k} s = ap (field_octets k) s.is

pub same_sym : {k : Kind} {a b : Value k} → SameField k a b → SameField k b a
same_sym {k = Name} s = record { is = record { low = sym s.is.low } }
same_sym {k = Options} {a} {b} s = record { is = IsPermutation-sym a b s.is }
same_sym s = record { is = sym s.is }

pub same_then : {k : Kind} {a b c : Value k} → SameField k a b → SameField k b c → SameField k a c
same_then {k = Name} s t = record { is = record { low = s.is.low ∙ t.is.low } }
same_then {k = Options} {a} {b} {c} s t = record { is = IsPermutation-trans a b c s.is t.is }
same_then s t = record { is = s.is ∙ t.is }

-- the names that stand are fully qualified
pub field_full : {m : List ℕ} {p : ℕ} {k : Kind} {v : Value k} {q : ℕ} → Field m p k v q → IsFull k v
field_full {k = Name} f = f.is.qualified
field_full f = tt
