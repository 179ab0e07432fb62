-- The parts of octets: what precedes them, how they follow each other, and what they are of a value.
use Rattle.std.proofs.Common.{MatchOption, ◌≡◌, ◌↔◌, ◌∙◌, ◌⊎◌, ℕ, ◌+◌, ◌-◌, ◌*◌, ◌/◌, ◌%◌, ◌^◌, ◌<◌, ◌≤◌, zero, suc, false, inl, inr, Option, Some, None, List, [], ◌∷◌, ◌++◌, length, take, drop, get_or, refl, sym, ap, subst, arith, append_assoc, length-append, length-take-le, true≢false}
use Rattle.std.specs.{Int.bytes_high_first}
use Rattle.std.proofs.lemmas.{Bool.Decides.nat_tests, List.append-nil, List.drop_all, List.drop_at, List.drop_more, List.drop-drop, List.drop-take, List.get_or-drop, List.length-drop, List.length-take, List.take_at, List.take-append-drop}
use Rattle.dns_fields.specs.{Octets.At, Labels.AreLabels, Labels.wire, Names.LabelsStand, Names.pointer, Names.LabelsStand.whole, Names.LabelsStand.pointed, Fields.Stands, Fields.Values}
use Rattle.dns_fields.specs.Tlvs.{Numbered, tlv, tlvs, IsTlv, AreTlvs, IsTruncated, AllHeld, OptionHeld, OptionValue, ParameterHeld, ParameterValue}
use Rattle.dns_fields.proofs.Tlvs.{first_tlv, heads_same, no_tlv, tlv_before, length-tlv, truncated_tlv, complete_or_truncated, tlvs_same}
use Rattle.dns_names_wire.proofs.Strings.{at_then}
use Rattle.dns_view.specs.TlvList.{NoTlv}
use Rattle.dns_check.proofs.{Splits.all_append, Splits.all_behind, TlvParts.part_there, TlvParts.tlvs_more}
use Rattle.dns_view.proofs.TlvSteps.{two, two_of, octets_of, in_front, no_octets}
use Rattle.dns_types.specs.declared.record_type.RecordType.{RecordType}
use Rattle.dns_types.specs.declared.record_type.RecordType.TheVariants as types
use Rattle.dns_rdata.specs.{declared.record_data.RData.RData, Data.FieldsOf, Data.fields_of, Data.Fills, Data.NoValue, ViewLists.options_in, ViewLists.parameters_in}
use Rattle.dns_rdata.specs.declared.record_data.RData.TheVariants as rdata
use Rattle.dns_rdata.proofs.ViewLists.{first_options, options_first, third_parameters, parameters_third}
use Rattle.dns_rdata_options.specs.OPT.{opt_shape}
use Rattle.dns_rdata_service.specs.SVCB.{svcb_shape}
use Rattle.dns_rdata_c.specs.Parts.{after_first, after_name, after_front, HasNoFront, AreParts, AreCutOptions, AreNoParts, AreFewParts, AreLeft, IsPartAt, AreBetween, is_partless, HasPart, LacksPart, IsBefore, parts_in, HoldValue, IsPartIn}
use Rattle.dns_rdata_c.specs.declared.parts.PartsCursor.{PartsCursor}

-- ---- what precedes parts: where a name ends

past : (n : ℕ) (s : List ℕ) → after_name n s ≡ after_name zero (drop n s)
past zero s = refl
past (suc n) [] = refl
past (suc n) (octet ∷ s) = past n s

label : (c : ℕ) (s : List ℕ) → 1 ≤ c → c < 64 → after_name zero (c ∷ s) ≡ after_name zero (drop c s)
label c s some few = let e = past c s in grind (arith, nat_tests)

jump : (c : ℕ) (s : List ℕ) → 192 ≤ c → after_name zero (c ∷ s) ≡ after_first s
jump c s high = grind (arith, nat_tests)

-- ---- a walk over labels

pub name_begins : (s : List ℕ) (begin : ℕ) → after_name 2 (drop begin s) ≡ after_name 0 (drop (begin + 2) s)
name_begins s begin = past 2 (drop begin s) ∙ ap (after_name 0) (drop-drop 2 begin s)

pub name_goes_on : (s : List ℕ) (at : ℕ) → at < length s → 1 ≤ get_or s at 0 → get_or s at 0 < 64
    → after_name 0 (drop at s) ≡ after_name 0 (drop (at + (get_or s at 0 + 1)) s)
name_goes_on s at h some few =
    let c = get_or s at 0 in
    let there : at + 1 + c ≡ at + (c + 1) = omega arith in
    ap (after_name 0) (drop_more s at 0 h) ∙ label c (drop (at + 1) s) some few ∙ ap (after_name 0) (drop-drop c (at + 1) s ∙ ap (λ (k : ℕ). drop k s) there)

pub name_points : (s : List ℕ) (at : ℕ) → at + 2 ≤ length s → 192 ≤ get_or s at 0 → after_name 0 (drop at s) ≡ Some (drop (at + 2) s)
name_points s at h high =
    let there : at + 1 + 1 ≡ at + 2 = omega arith in
    ap (after_name 0) (drop_more s at 0 (omega (arith, h))) ∙ jump (get_or s at 0) (drop (at + 1) s) high
    ∙ ap after_first (drop_more s (at + 1) 0 (omega (arith, h))) ∙ ap (λ (k : ℕ). Some (drop k s)) there

-- ---- a name in a message

labels_passed : (labels : List (List ℕ)) (s : List ℕ) → AreLabels labels → after_name 0 (wire labels ++ s) ≡ after_name 0 s
labels_passed [] s are = refl
labels_passed (l ∷ labels) s are =
    ap (λ (o : List ℕ). after_name 0 (length l ∷ o)) (append_assoc l (wire labels) s)
    ∙ label (length l) (l ++ (wire labels ++ s)) are.0.0 (omega (arith, are.0.1))
    ∙ ap (after_name 0) (drop_at l (wire labels ++ s) (length l) refl) ∙ labels_passed labels s are.1

-- the octets of a name, which end where any octets after them begin
pub record NameThere (m : List ℕ) (p e : ℕ) : Type 0 where
  pub octets : List ℕ
  pub at : At m p octets e
  pub passed : (rest : List ℕ) → after_name 0 (octets ++ rest) ≡ Some rest

there : {m : List ℕ} {p e : ℕ} (labels : List (List ℕ)) (last behind : List ℕ) → AreLabels labels → 1 ≤ length last
    → drop p m ≡ wire labels ++ (last ++ behind) → e ≡ p + length (wire labels) + length last → ((rest : List ℕ) → after_name 0 (last ++ rest) ≡ Some rest)
    → NameThere m p e
there {m} {p} {e} labels last behind are some is ends passed =
    let octets = wire labels ++ last in
    record {
      octets = octets;
      at = record {
        ends = omega (arith, ends, length-append (wire labels) last);
        within = omega (arith, some, ends, ap length is, length-append (wire labels) (last ++ behind), length-append last behind, length-drop p m);
        same = ap (take (length octets)) (is ∙ sym (append_assoc (wire labels) last behind)) ∙ take_at octets behind (length octets) refl;
      };
      passed = λ rest. ap (after_name 0) (append_assoc (wire labels) last rest) ∙ labels_passed labels (last ++ rest) are ∙ passed rest;
    }

pub name_there : {m : List ℕ} {p e : ℕ} {labels : List (List ℕ)} → LabelsStand m p labels e → NameThere m p e
name_there {m} {p} {e} {labels} (whole behind are is ends) = there labels (0 ∷ []) behind are (omega arith) is ends (λ rest. refl)
name_there {m} {p} {e} {labels} (pointed front rest target rest_end behind are is small before stands joined ends) =
    there front (pointer target) behind are (omega arith) is ends (λ tail. jump (192 + target / 256) (target % 256 ∷ tail) (omega arith))

-- ---- four octets in front

abbrev code_in : List ℕ → ℕ
code_in s = two (get_or s 0 0) (get_or s 1 0)

abbrev length_in : List ℕ → ℕ
length_in s = two (get_or s 2 0) (get_or s 3 0)

-- a number and a length are told by their octets
told : {s : List ℕ} (k l : ℕ) (rest : List ℕ) → k < 256 ^ 2 → l < 256 ^ 2 → s ≡ bytes_high_first 2 k ++ (bytes_high_first 2 l ++ rest)
    → (code_in s ≡ k) × (length_in s ≡ l) × (drop 4 s ≡ rest)
told k l rest h few e = (ap code_in e ∙ two_of k h, ap length_in e ∙ two_of l few, ap (drop 4) e)

-- ---- the part at an offset

pub part_found : (s : List ℕ) (at : ℕ) → ((i : ℕ) → get_or s i 0 < 256) → 4 ≤ length (drop at s) → length_in (drop at s) ≤ length (drop at s) - 4
    → IsPartAt s at (code_in (drop at s)) (at + 4) (length_in (drop at s))
part_found s at small few h =
    let o = drop at s in
    let l = length_in o in
    let t = part_there o 0 l (λ i. subst (λ (k : ℕ). k < 256) (sym (get_or-drop at s i 0)) (small (at + i))) (omega (arith, few, h)) refl in
    let x : Numbered (List ℕ) = (t.key, t.body) in
    let is : o ≡ tlv x ++ drop (4 + l) o = in_front t in
    let behind : drop (4 + l) o ≡ drop (at + 4 + l) s = drop-drop (4 + l) at s ∙ ap (λ (k : ℕ). drop k s) (omega arith) in
    let w = told t.key (length t.body) (t.body ++ drop (4 + l) o) t.is.fits.0 t.is.fits.1 (is ∙ tlv_before x (drop (4 + l) o)) in
    rw w.0 (record { octets = t.body; fits = t.is.fits; is = is ∙ ap (λ (r : List ℕ). tlv x ++ r) behind; begins = refl; told = w.1 })

pub no_part : (s : List ℕ) → (4 ≤ length s → length s - 4 < length_in s) → NoTlv s
no_part s h = record {
  none = λ x rest f e.
      let w = told x.0 (length x.1) (x.1 ++ rest) f.0 f.1 (e ∙ tlv_before x rest) in
      omega (arith, h (omega (arith, ap length e, length-append (tlv x) rest, length-tlv x)), w.1, ap length w.2, length-append x.1 rest, length-drop 4 s);
}

pub part_room : {s : List ℕ} {at number begin count : ℕ} → IsPartAt s at number begin count → (begin + count ≤ length s) × (at < begin + count)
part_room {s} {at} {number} {begin} {count} w =
    let x : Numbered (List ℕ) = (number, w.octets) in
    let behind = drop (begin + count) s in (
      omega (arith, ap length w.is, length-append (tlv x) behind, length-tlv x, length-drop at s, length-drop (begin + count) s, w.begins, w.told),
      omega (arith, w.begins),
    )

-- ---- parts one after the other

pub parts_more : {s : List ℕ} {begin end number from count : ℕ} → AreBetween s begin end → IsPartAt s end number from count → AreBetween s begin (from + count)
parts_more {s} {begin} {end} {number} {from} {count} p w =
    let x : Numbered (List ℕ) = (number, w.octets) in
    record {
      read = p.read ++ x ∷ [];
      are = all_append IsTlv p.read (x ∷ []) p.are (w.fits, tt);
      is = rw (← tlvs_more p.read x, append_assoc (tlvs p.read) (tlv x) (drop (from + count) s), ← w.is) p.is;
    }

-- those that are left after one
pub step : {s : List ℕ} {p : ℕ} {t : RecordType} {i at number begin count : ℕ} → AreLeft s p t i at → IsPartAt s at number begin count
    → AreLeft s p t (i + 1) (begin + count)
step {s} {p} {t} {i} {at} {number} {begin} {count} a w = of a.rest a.all a.here where
  of : (rest : List (Numbered (List ℕ))) → AreParts t (drop p s) (a.before ++ rest) → drop at s ≡ tlvs rest → AreLeft s p t (i + 1) (begin + count)
  of [] all here = absurd (no_tlv (number, w.octets) (drop (begin + count) s) (sym here ∙ w.is))
  of (y ∷ ys) all here =
      let first = all_behind IsTlv a.before (y ∷ ys) all.are in
      record {
        before = a.before ++ y ∷ [];
        rest = ys;
        all = subst (λ (l : List (Numbered (List ℕ))). AreParts t (drop p s) l) (sym (append_assoc a.before (y ∷ []) ys)) all;
        many = omega (arith, a.many, length-append a.before (y ∷ []));
        here = sym (first_tlv y (number, w.octets) (tlvs ys) (drop (begin + count) s) first.0 w.fits (sym here ∙ w.is)).1;
      }

pub none_left : {s : List ℕ} {p : ℕ} {t : RecordType} {i at : ℕ} (j : ℕ) → AreLeft s p t i at → NoTlv (drop at s) → i ≤ j → AreFewParts t (drop p s) j
none_left {s} {p} {t} {i} {at} j a none h = of a.rest a.all a.here where
  of : (rest : List (Numbered (List ℕ))) → AreParts t (drop p s) (a.before ++ rest) → drop at s ≡ tlvs rest → AreFewParts t (drop p s) j
  of [] all here = record { parts = a.before ++ []; all = all; few = omega (arith, h, a.many, length-append a.before []) }
  of (y ∷ ys) all here = absurd (none.none y (tlvs ys) (all_behind IsTlv a.before (y ∷ ys) all.are).0 here)

-- what holds of an option, where another fact holds of none
pub when_none : {X : Type 0} {N M : Type 0} (P : X → Type 0) (o : Option X) → MatchOption o N P → (N → M) → MatchOption o M P
when_none P None h f = f h
when_none P (Some x) h f = h

-- ---- whether parts fill the octets

same_split : (xs ys : List (Numbered (List ℕ))) (s t : List ℕ) → AreTlvs xs → AreTlvs ys → NoTlv s → NoTlv t → tlvs xs ++ s ≡ tlvs ys ++ t
    → (xs ≡ ys) × (s ≡ t)
same_split [] [] s t f g h k e = (refl, e)
same_split [] (y ∷ ys) s t f g h k e = absurd (h.none y (tlvs ys ++ t) g.0 (e ∙ append_assoc (tlv y) (tlvs ys) t))
same_split (x ∷ xs) [] s t f g h k e = absurd (k.none x (tlvs xs ++ s) f.0 (sym e ∙ append_assoc (tlv x) (tlvs xs) s))
same_split (x ∷ xs) (y ∷ ys) s t f g h k e =
    let p = first_tlv x y (tlvs xs ++ s) (tlvs ys ++ t) f.0 g.0 (sym (append_assoc (tlv x) (tlvs xs) s) ∙ e ∙ append_assoc (tlv y) (tlvs ys) t) in
    let r = same_split xs ys s t f.1 g.1 h k p.1 in
    (ap (λ (z : Numbered (List ℕ)). z ∷ xs) p.0 ∙ ap (λ (zs : List (Numbered (List ℕ))). y ∷ zs) r.0, r.1)

pub same_some : (a b : List ℕ) → ◌≡◌ {A = Option (List ℕ)} (Some a) (Some b) → a ≡ b
same_some a b e = cc

-- nothing precedes options
pub opt_whole : (t : RecordType) (s r : List ℕ) → t ≡ types.OPT → after_front t s ≡ Some r → s ≡ r
opt_whole t s r e f = same_some s r (subst (λ (u : RecordType). after_front u s ≡ Some r) e f)

pub parts_fill : {t : RecordType} {s : List ℕ} {p first end : ℕ} → after_front t (drop p s) ≡ Some (drop first s) → AreBetween s first end → length s ≤ end
    → AreLeft s p t 0 first
parts_fill {t} {s} {p} {first} {end} front w all =
    let here : drop first s ≡ tlvs w.read = w.is ∙ ap (λ (o : List ℕ). tlvs w.read ++ o) (drop_all end s all) ∙ append-nil (tlvs w.read) in
    record { before = []; rest = w.read; all = record { is = front ∙ ap (λ (o : List ℕ). Some o) here; are = w.are }; many = refl; here = here }

-- what is left after the last part
pub truncated : {t : RecordType} {s stub : List ℕ} {n first end : ℕ} (p : ℕ) → n ≡ length (drop p s) → stub ≡ drop end s
    → after_front t (drop p s) ≡ Some (drop first s) → AreBetween s first end → (t ≡ types.OPT) × IsTruncated n stub → AreCutOptions t (drop p s)
truncated {t} {s} {stub} {n} {first} {end} p size is front w c = record {
  is_opt = c.0;
  parts = w.read;
  stub = drop end s;
  is = opt_whole t (drop p s) (drop first s) c.0 front ∙ w.is;
  are = w.are;
  cut = rw (size, is) at c.1;
}

pub damaged : {t : RecordType} {s stub : List ℕ} {n first end : ℕ} (p : ℕ) → n ≡ length (drop p s) → stub ≡ drop end s
    → after_front t (drop p s) ≡ Some (drop first s) → AreBetween s first end → NoTlv (drop end s) → end < length s → (t ≡ types.OPT → ¬ (IsTruncated n stub))
    → AreNoParts t (drop p s)
damaged {t} {s} {stub} {n} {first} {end} p size is front w last short uncut = record {
  none = λ parts a.
      let all : drop first s ≡ tlvs parts = same_some (drop first s) (tlvs parts) (sym front ∙ a.is) in
      let both = same_split w.read parts (drop end s) [] w.are a.are last no_octets (sym w.is ∙ all ∙ sym (append-nil (tlvs parts))) in
      omega (arith, short, ap length both.1, length-drop end s);
  uncut = λ c.
      let all = opt_whole t (drop p s) (drop first s) c.is_opt front in
      let none : NoTlv c.stub = record { none = λ x rest f e. truncated_tlv (length (drop p s)) x rest f (rw e at c.cut) } in
      let both = same_split w.read c.parts (drop end s) c.stub w.are c.are last none (sym w.is ∙ sym all ∙ c.is) in
      uncut c.is_opt (rw (size, is, both.1) c.cut);
}

-- ---- an option that is truncated

pub code_alone : (s : List ℕ) (n : ℕ) → ((i : ℕ) → get_or s i 0 < 256) → length s ≡ 2 → IsTruncated n s
code_alone (a ∷ (b ∷ [])) n small h = (two a b, omega (arith, small 0, small 1), inl (sym (octets_of a b (small 0) (small 1))))
code_alone s n small h = absurd (omega (arith, h))

pub cut_length : (s : List ℕ) (n : ℕ) → IsTruncated n s → length s < 4 → length s ≡ 2
cut_length s n (code, h, inl e) few = ap length e
cut_length s n (code, h, inr r) few = let long : length s ≡ suc (suc (suc (suc (length r.1)))) = ap length r.5 in absurd (omega (arith, few, long))

pub cut_says : (s : List ℕ) (n : ℕ) → 4 ≤ length s → IsTruncated n s → (length_in s ≤ n) × (length s - 4 < length_in s)
cut_says s n few (code, h, inl e) = let short : length s ≡ 2 = ap length e in absurd (omega (arith, few, short))
cut_says s n few (code, h, inr r) =
    let w = told code r.0 r.1 h r.2 r.5 in
    (omega (arith, w.1, r.3), omega (arith, w.1, ap length w.2, r.4, length-drop 4 s))

pub cut_is : (s : List ℕ) (n : ℕ) → ((i : ℕ) → get_or s i 0 < 256) → 4 ≤ length s → length_in s ≤ n → length s - 4 < length_in s → IsTruncated n s
cut_is (a ∷ (b ∷ (c ∷ (d ∷ s)))) n small few h cut =
    let code = octets_of a b (small 0) (small 1) in
    let size = octets_of c d (small 2) (small 3) in
    let is = ap (λ (o : List ℕ). o ++ (c ∷ (d ∷ s))) (sym code) ∙ ap (λ (o : List ℕ). bytes_high_first 2 (two a b) ++ (o ++ s)) (sym size) in
    (two a b, omega (arith, small 0, small 1), inr (two c d, s, omega (arith, small 2, small 3), h, omega (arith, cut), is))
cut_is s n small few h cut = absurd (omega (arith, few))

-- the octets from p on, up to n octets later
abbrev region : List ℕ → ℕ → ℕ → List ℕ
region m p n = drop p (take (p + n) m)

region_is : {m s : List ℕ} {p : ℕ} (n : ℕ) → At m p s (p + n) → region m p n ≡ s
region_is {m} {s} {p} n a =
    let size : n ≡ length s = omega (arith, a.ends) in
    drop-take p n m ∙ ap (λ (k : ℕ). take k (drop p m)) size ∙ a.same

-- ---- a value's parts

-- the octets are the parts that hold the value; or options that are truncated, of a value without options
record IsWhole (t : RecordType) (s : List ℕ) (v : RData) : Type 0 where
  parts : List (Numbered (List ℕ))
  all : AreParts t s parts
  hold : HoldValue t v parts
  many : length parts ≡ parts_in t v

abbrev Tied : RecordType → List ℕ → RData → Type 0
Tied t s v = IsWhole t s v ⊎ (AreCutOptions t s × (parts_in t v ≡ 0))

length_held : {V : Type 0} (Held : ℕ → List ℕ → V → Type 0) (xs : List (Numbered (List ℕ))) (ys : List (Numbered V)) → AllHeld Held xs ys
    → length xs ≡ length ys
length_held Held [] [] h = refl
length_held Held [] (y ∷ ys) h = absurd h
length_held Held (x ∷ xs) [] h = absurd h
length_held Held (x ∷ xs) (y ∷ ys) h = ap (λ (n : ℕ). suc n) (length_held Held xs ys h.2)

opt_tied : (m : List ℕ) (p n : ℕ) (v : RData) (vs : Values opt_shape) → options_in v ≡ vs.0 → Stands m p opt_shape vs (p + n) → Tied types.OPT (region m p n) v
opt_tied m p n v vs same s =
    let own = λ (o : List ℕ) (a : At m p o s.0). region_is n (subst (λ (k : ℕ). At m p o k) s.2 a) in
    elim s.1.is [
      | inl w ↦
          let hold : AllHeld OptionHeld w.read (options_in v) = subst (λ (ys : List (Numbered OptionValue)). AllHeld OptionHeld w.read ys) (sym same) w.held in
          inl (record {
            parts = w.read;
            all = record { is = ap (λ (o : List ℕ). Some o) (own (tlvs w.read) w.at); are = w.fit };
            hold = hold;
            many = length_held OptionHeld w.read (options_in v) hold;
          })
      | inr c ↦
          let all = c.1 in
          let is = own (tlvs all.read ++ all.stub) all.at in
          let long : s.0 - p ≡ length (region m p n) = omega (arith, all.at.ends, ap length is) in
          inr (record { is_opt = refl; parts = all.read; stub = all.stub; is = is; are = all.fit; cut = subst (λ (k : ℕ). IsTruncated k all.stub) long all.cut }, ap length (same ∙ c.0))
    ]

service_tied : (t : RecordType) (m : List ℕ) (p n : ℕ) (v : RData) (vs : Values svcb_shape) → third_parameters (fields_of v).kinds (fields_of v).values ≡ vs.1.1.0 → Stands m p svcb_shape vs (p + n)
    → ((parts : List (Numbered (List ℕ))) → after_name 2 (region m p n) ≡ Some (tlvs parts) → after_front t (region m p n) ≡ Some (tlvs parts))
    → ((parts : List (Numbered (List ℕ))) → AllHeld ParameterHeld parts (parameters_in v) → HoldValue t v parts) → length (parameters_in v) ≡ parts_in t v
    → Tied t (region m p n) v
service_tied t m p n v vs same s front held many =
    let u = s.2 in
    let all = u.2.1.is in
    let name = name_there u.1.is.stands in
    let at : At m p (bytes_high_first 2 vs.0 ++ (name.octets ++ tlvs all.read)) (p + n) =
    at_then s.1.is.1 (at_then name.at (subst (λ (k : ℕ). At m u.0 (tlvs all.read) k) u.2.2 all.at)) in
    let hold : AllHeld ParameterHeld all.read (parameters_in v) = subst (λ (ys : List (Numbered ParameterValue)). AllHeld ParameterHeld all.read ys) (sym (parameters_third v ∙ same)) all.held in
    inl (record {
      parts = all.read;
      all = record { is = front all.read (ap (after_name 2) (region_is n at) ∙ name.passed (tlvs all.read)); are = all.fit };
      hold = held all.read hold;
      many = length_held ParameterHeld all.read (parameters_in v) hold ∙ many;
    })

tied : (m : List ℕ) (p n : ℕ) (t : RecordType) (v : RData) → is_partless t ≡ false → Fills m p n t v → Tied t (region m p n) v
tied m p n types.OPT v h f =
    opt_tied m p n v f.values (options_first v ∙ ap (λ (x : FieldsOf). first_options x.kinds x.values) f.value.fields) f.region.stands
tied m p n types.HTTPS v h f =
    service_tied types.HTTPS m p n v f.values (ap (λ (x : FieldsOf). third_parameters x.kinds x.values) f.value.fields) f.region.stands (λ parts e. e) (λ parts h. h) refl
tied m p n types.SVCB v h f =
    service_tied types.SVCB m p n v f.values (ap (λ (x : FieldsOf). third_parameters x.kinds x.values) f.value.fields) f.region.stands (λ parts e. e) (λ parts h. h) refl
tied m p n t v h f = absurd (true≢false h)

-- ---- what the calls tell of a value

same_parts : (t : RecordType) (s : List ℕ) (xs ys : List (Numbered (List ℕ))) → AreParts t s xs → AreParts t s ys → xs ≡ ys
same_parts t s xs ys a b = tlvs_same xs ys a.are b.are (same_some (tlvs xs) (tlvs ys) (sym a.is ∙ b.is))

-- options that are whole are not truncated
not_cut : (t : RecordType) (s : List ℕ) (xs : List (Numbered (List ℕ))) → AreParts t s xs → AreCutOptions t s → ⊥
not_cut t s xs a c = complete_or_truncated (length s) xs c.parts c.stub a.are c.are c.cut (sym (opt_whole t s (tlvs xs) c.is_opt a.is) ∙ c.is)

pub same_part : {m : List ℕ} {p n : ℕ} {t : RecordType} {v : RData} {i number begin count : ℕ} → is_partless t ≡ false → HasPart m p n t i number begin count
    → Fills m p n t v → IsPartIn m p n t v i number begin count
same_part {m} {p} {n} {t} {v} h w f =
    let left = w.part.left in
    elim (tied m p n t v h f) [
      | inl own ↦ record { part = w; hold = subst (HoldValue t v) (same_parts t (region m p n) own.parts (left.before ++ left.rest) own.all left.all) own.hold }
      | inr c ↦ absurd (not_cut t (region m p n) (left.before ++ left.rest) left.all c.0)
    ]

pub same_few : {m : List ℕ} {p n : ℕ} {t : RecordType} {v : RData} {i : ℕ} → is_partless t ≡ false → LacksPart m p n t i → Fills m p n t v → parts_in t v ≤ i
same_few {m} {p} {n} {t} {v} h lacks f = elim (tied m p n t v h f) [
  | inr d ↦ omega (arith, d.1)
  | inl own ↦ elim lacks [
    | inl partless ↦ absurd (true≢false (sym partless ∙ h))
    | inr (within, inl w) ↦ omega (arith, own.many, w.few, ap length (same_parts t (region m p n) own.parts w.parts own.all w.all))
    | inr (within, inr c) ↦ absurd (not_cut t (region m p n) own.parts own.all c)
  ]
]

pub no_value : {m : List ℕ} {p n : ℕ} {t : RecordType} → is_partless t ≡ false → AreNoParts t (region m p n) → NoValue m p n t
no_value {m} {p} {n} {t} h no_parts = record {
  none = λ v f. elim (tied m p n t v h f) [ inl own ↦ no_parts.none own.parts own.all | inr c ↦ no_parts.uncut c.0 ];
}

pub no_parts : (t : RecordType) (s : List ℕ) → HasNoFront t s → AreNoParts t s
no_parts t s h = record {
  none = λ ps a. let e : ◌≡◌ {A = Option (List ℕ)} None (Some (tlvs ps)) = sym h ∙ a.is in absurd cc;
  uncut = λ c. let e : ◌≡◌ {A = Option (List ℕ)} None (Some s) = sym h ∙ subst (λ (u : RecordType). after_front u s ≡ Some s) (sym c.is_opt) refl in absurd cc;
}

-- ---- a cursor

pub next_part : {m : List ℕ} {p n : ℕ} {t : RecordType} {i number begin count : ℕ} (cursor new : PartsCursor) → IsBefore m p n t i cursor
    → IsPartAt (take cursor.end m) cursor.next number begin count → new.next ≡ begin + count → new.end ≡ cursor.end
    → HasPart m p n t i number begin count × IsBefore m p n t (i + 1) new
next_part {m} {p} {n} {t} {i} {number} {begin} {count} cursor new b w moved same =
    let here = subst (λ (e : ℕ). IsPartAt (take e m) cursor.next number begin count) b.ends w in (
      record { within = b.within; part = record { from = cursor.next; left = b.left; here = here } },
      record {
        within = b.within;
        left = subst (λ (k : ℕ). AreLeft (take (p + n) m) p t (i + 1) k) (sym moved) (step b.left here);
        inside = omega (arith, moved, same, (part_room w).0, length-take cursor.end m);
        ends = same ∙ b.ends;
      },
    )

pub no_next : {m : List ℕ} {p n : ℕ} {t : RecordType} {i : ℕ} (cursor : PartsCursor) → IsBefore m p n t i cursor → NoTlv (drop cursor.next (take cursor.end m))
    → LacksPart m p n t i
no_next {m} {p} {n} {t} {i} cursor b none =
    inr (b.within, inl (none_left i b.left (subst (λ (e : ℕ). NoTlv (drop cursor.next (take e m))) b.ends none) (omega arith)))
