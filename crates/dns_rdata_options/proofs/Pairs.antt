-- Options that are emitted one after the other.
use Rattle.std.proofs.Common.{◌≡◌, ℕ, ◌+◌, ◌<◌, ◌≤◌, ◌/◌, ◌==◌, ◌&&◌, ◌||◌, ◌⊎◌, nat_le, eqb-true, Bool, true, false, List, [], ◌∷◌, ◌++◌, length}
use Rattle.std.proofs.Common.{⊎_elim, map, take, drop, get_or, refl, sym, ap, ◌∙◌, arith, append_assoc, subst}
use Rattle.std.proofs.{Math.Bool.and-false, lemmas.Bool.cases_Bool, lemmas.Bool.Decides.nat_tests, lemmas.Grind.flat_map-append}
use Rattle.std.proofs.lemmas.List.{map-append, append-nil, length-append, drop_more, take_more, take-append-drop}
use Rattle.std.specs.Cmp.{first_so, second_so}
use Rattle.dns_types.specs.declared.error.ProtoError.{ProtoError}
use Rattle.dns_fields.specs.Tlvs.{Numbered, tlv, tlvs, as_tlv, OptionValue, Subnet, OpaqueOption, option_octets, OptionFits, IsEmittableOption}
use Rattle.dns_fields.specs.{Tlvs.option_emittable, Tlvs.options_emittable, Fields.field_octets, Fields.option_tlvs}
use Rattle.dns_fields.specs.declared.Kind.{TheVariants.Options, TheVariants.Rest}
use Rattle.dns_fields.proofs.Sorted.{octets_cmp, flat_map_all, length_sorted}
use Rattle.dns_names_wire.specs.{State.Writing, Terms.AppendedField, Terms.StoppedField, Terms.NoRoomField, Terms.UnfitField, Terms.AppendedOctets, Terms.StoppedOctets}
use Rattle.dns_names_wire.proofs.FieldWrites.{keeps_then, because_map, extends_then}
use Rattle.dns_rdata_options.specs.{EdnsCode.edns_code_number, OPT.Pair, OPT.pair_value}
use Rattle.dns_rdata_options.proofs.Selection.{all_push}

-- ---- plain octets that are appended in parts

pub stopped_two : {e : ProtoError} {old mid new : Writing} {unfit : Type 0} (s t whole : List ℕ) → AppendedField old Rest s mid
    → StoppedField e mid Rest t new → s ++ t ≡ whole → StoppedOctets e old unfit whole new
unfolding field_octets
stopped_two {e} {old} {mid} s t whole f g is = record {
  extends = extends_then f g.extends;
  why = because_map e _ _ _ _
      (λ (r : NoRoomField mid Rest t). omega (arith, r.full, f.keeps.limit, ap length f.field.is, length-append old.octets s, ap length is, length-append s t))
      (λ (u : UnfitField Rest t). absurd (cc u.unfit))
      g.why;
}

-- more than four octets begin by four
pub stopped_front : {e : ProtoError} {old new : Writing} {unfit : Type 0} (s whole : List ℕ) → StoppedField e old Rest s new → length s ≤ length whole
    → StoppedOctets e old unfit whole new
unfolding field_octets
stopped_front {e} {old} s whole f le = record {
  extends = f.extends;
  why = because_map e _ _ _ _ (λ (r : NoRoomField old Rest s). omega (arith, r.full, le)) (λ (u : UnfitField Rest s). absurd (cc u.unfit)) f.why;
}

-- ---- options

joined : (xs : List (Numbered OptionValue)) (x : Numbered OptionValue) (ys : List (Numbered OptionValue))
    → tlvs (option_tlvs (xs ++ x ∷ ys)) ≡ tlvs (option_tlvs xs) ++ (tlv (as_tlv option_octets x) ++ tlvs (option_tlvs ys))
joined xs x ys = ap tlvs (map-append (as_tlv option_octets) xs (x ∷ ys)) ∙ flat_map-append tlv (option_tlvs xs) (option_tlvs (x ∷ ys))

-- what an option's emission tests
abbrev is_fit : Numbered OptionValue → Bool
is_fit x = nat_le (length (option_octets x.1)) 65535 && option_emittable x.1

emittable_option : (v : OptionValue) → option_emittable v ≡ true → IsEmittableOption v
emittable_option (OpaqueOption s) h = tt
emittable_option (Subnet family source scope address) h =
    record {
      long = eqb-true (length address) ((source + 7) / 8) (first_so (length address == (source + 7) / 8) _ h);
      most = most family (length address) (second_so (length address == (source + 7) / 8) _ h);
    }
  where
    most : (f n : ℕ) → ((f == 1 && nat_le n 4) || (f == 2 && nat_le n 16)) ≡ true → ((f ≡ 1) × (n ≤ 4)) ⊎ ((f ≡ 2) × (n ≤ 16))
    most f n h = grind (arith, nat_tests)

pub is_short : (n : ℕ) → nat_le n 65535 ≡ true → n < 65536
is_short n h = grind (arith, nat_tests)

unfit : (x : Numbered OptionValue) → x.0 < 65536 → (OptionFits x → ⊥) → is_fit x ≡ false
unfit x small none = ⊎_elim
    (λ t. let few = is_short (length (option_octets x.1)) (first_so _ _ t) in
    absurd (none ((omega (arith, small), omega (arith, few)), emittable_option x.1 (second_so (nat_le (length (option_octets x.1)) 65535) _ t))))
    (λ n. n) (cases_Bool (is_fit x))

unfit_inner : (xs : List (Numbered OptionValue)) (x : Numbered OptionValue) (ys : List (Numbered OptionValue)) → is_fit x ≡ false
    → options_emittable (xs ++ x ∷ ys) ≡ false
unfit_inner [] x ys e = rw e refl
unfit_inner (y ∷ xs) x ys e = rw (unfit_inner xs x ys e) (and-false (nat_le (length (option_octets y.1)) 65535 && option_emittable y.1))

canonical_length : (v : List (Numbered OptionValue)) → length (field_octets Options v) ≡ length (tlvs (option_tlvs v))
unfolding field_octets
canonical_length v = length_sorted octets_cmp (map tlv (option_tlvs v)) ∙ ap length (flat_map_all tlv (option_tlvs v))

-- an option is rejected after others
pub stopped_options : {e : ProtoError} {w b n : Writing} (xs : List (Numbered OptionValue)) (x : Numbered OptionValue) (ys : List (Numbered OptionValue))
    → x.0 < 65536 → AppendedField w Options xs b → StoppedOctets e b (OptionFits x → ⊥) (tlv (as_tlv option_octets x)) n
    → StoppedField e w Options (xs ++ x ∷ ys) n
stopped_options {e} {w} {b} {n} xs x ys small f g =
    let s = tlv (as_tlv option_octets x) in
    record {
      extends = record {
        keeps = keeps_then f.keeps g.extends.keeps;
        tail = tlvs (option_tlvs xs) ++ g.extends.tail;
        octets = g.extends.octets ∙ ap (λ (t : List ℕ). t ++ g.extends.tail) f.field.is.1 ∙ append_assoc w.octets (tlvs (option_tlvs xs)) g.extends.tail;
      };
      why = because_map e _ _ _ _
          (λ (r : b.limit < length b.octets + length s). record {
            full = omega (
              arith,
              r,
              f.keeps.limit,
              ap length f.field.is.1,
              length-append w.octets (tlvs (option_tlvs xs)),
              ap length
                  (joined xs x ys),
              length-append (tlvs (option_tlvs xs)) (s ++ tlvs (option_tlvs ys)),
              length-append s (tlvs (option_tlvs ys)),
              canonical_length (xs ++ x ∷ ys),
            );
          })
          (λ (u : OptionFits x → ⊥). record { unfit = unfit_inner xs x ys (unfit x small u) })
          g.why;
    }

-- a list about one of its indices
split : (xs : List Pair) (i : ℕ) (x : Pair) → x ≡ get_or xs i x → i < length xs
    → map pair_value (take i xs) ++ pair_value x ∷ map pair_value (drop (i + 1) xs) ≡ map pair_value xs
split xs i x is lt = sym (map-append pair_value (take i xs) (x ∷ drop (i + 1) xs))
    ∙ ap (map pair_value) (ap (λ (y : Pair). take i xs ++ y ∷ drop (i + 1) xs) is ∙ ap (λ (t : List Pair). take i xs ++ t) (sym (drop_more xs i x lt))
    ∙ take-append-drop i xs)

-- the option at an index is emitted after those before it
pub more_pairs : {w b e : Writing} (xs : List Pair) (i : ℕ) (x : Pair) → x ≡ get_or xs i x → i < length xs
    → AppendedField w Options (map pair_value (take i xs)) b → OptionFits (pair_value x) × AppendedOctets b (tlv (as_tlv option_octets (pair_value x))) e
    → AppendedField w Options (map pair_value (take (i + 1) xs)) e
more_pairs {w} {b} {e} xs i x is lt f g =
    let longer : take (i + 1) xs ≡ take i xs ++ x ∷ [] = take_more xs i x lt ∙ ap (λ (y : Pair). take i xs ++ y ∷ []) (sym is) in
    let done = map pair_value (take i xs) in
    let s = tlv (as_tlv option_octets (pair_value x)) in
    let octets : e.octets ≡ w.octets ++ tlvs (option_tlvs (done ++ pair_value x ∷ [])) =
    g.1.octets ∙ ap (λ (t : List ℕ). t ++ s) f.field.is.1 ∙ append_assoc w.octets (tlvs (option_tlvs done)) s
    ∙ ap (λ (t : List ℕ). w.octets ++ t) (sym (joined done (pair_value x) [] ∙ ap (λ (t : List ℕ). tlvs (option_tlvs done) ++ t) (append-nil s))) in
    subst (λ (v : List (Numbered OptionValue)). AppendedField w Options v e)
    (sym (ap (map pair_value) longer ∙ map-append pair_value (take i xs) (x ∷ [])))
    (record { keeps = keeps_then f.keeps g.1.keeps; field = record { is = (all_push OptionFits done (pair_value x) f.field.is.0 g.0, octets) } })

pub stopped_pair : {e : ProtoError} {w b n : Writing} (xs : List Pair) (i : ℕ) (x : Pair) → x ≡ get_or xs i x → i < length xs → edns_code_number x.0 < 65536
    → AppendedField w Options (map pair_value (take i xs)) b
    → StoppedOctets e b (OptionFits (pair_value x) → ⊥) (tlv (as_tlv option_octets (pair_value x))) n → StoppedField e w Options (map pair_value xs) n
stopped_pair {e} {w} {b} {n} xs i x is lt small f g = subst (λ (v : List (Numbered OptionValue)). StoppedField e w Options v n) (split xs i x is lt)
    (stopped_options (map pair_value (take i xs)) (pair_value x) (map pair_value (drop (i + 1) xs)) small f g)
