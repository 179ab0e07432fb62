-- What fits its fields can be emitted.
use Rattle.std.proofs.Common.{◌≡◌, ◌≢◌, ℕ, ◌+◌, ◌/◌, ◌<◌, ◌≤◌, ◌^◌, ◌==◌, ◌&&◌, ◌||◌, ◌⊎◌, inl, inr, nat_le, nat_lt, true, List, [], ◌∷◌}
use Rattle.std.proofs.Common.{length, refl, arith}
use Rattle.std.specs.{List.list_all, List.AllByRecursion, Cmp.Derive.both_true}
use Rattle.std.proofs.lemmas.Bool.Decides.{nat_tests}
use Rattle.dns_fields.specs.Tlvs.{Numbered, OptionValue, Subnet, OpaqueOption, option_octets, OptionFits, IsAddress, option_emittable, options_emittable}
use Rattle.dns_fields.specs.Tlvs.{ParameterValue, Mandatory, Alpn, parameter_octets, ParameterFits, IsEmittable, parameter_emittable, is_some}
use Rattle.dns_fields.specs.Tlvs.{Below, Rising, rising_behind, rising}
use Rattle.dns_fields.specs.Fields.{Value, Values, Fits, AllFit, is_emittable, all_emittable}
use Rattle.dns_fields.specs.declared.Kind.{Kind, TheVariants.CharacterString, TheVariants.CharacterStrings, TheVariants.Options, TheVariants.Parameters}

short_string : (s : List ℕ) → length s < 256 → nat_le (length s) 255 ≡ true
short_string s h = grind (arith, nat_tests)

short_strings : (ss : List (List ℕ)) → AllByRecursion (λ s. length s < 256) ss → list_all (λ s. nat_le (length s) 255) ss ≡ true
short_strings [] h = refl
short_strings (s ∷ ss) h = both_true (short_string s h.0) (short_strings ss h.1)

small_body : (s : List ℕ) → length s < 256 ^ 2 → nat_le (length s) 65535 ≡ true
small_body s h = grind (arith, nat_tests)

subnet_fits : (family source : ℕ) (address : List ℕ) → IsAddress family source address
    → ((length address == (source + 7) / 8) && ((family == 1 && nat_le (length address) 4) || (family == 2 && nat_le (length address) 16))) ≡ true
subnet_fits family source address h = both_true (long (length address) ((source + 7) / 8) h.long) (most family (length address) h.most)
  where
    long : (a b : ℕ) → a ≡ b → (a == b) ≡ true
    long a b e = grind (arith, nat_tests)

    most : (f n : ℕ) → ((f ≡ 1) × (n ≤ 4)) ⊎ ((f ≡ 2) × (n ≤ 16)) → ((f == 1 && nat_le n 4) || (f == 2 && nat_le n 16)) ≡ true
    most f n (inl h) = grind (arith, nat_tests)
    most f n (inr h) = grind (arith, nat_tests)

one_option : (x : Numbered OptionValue) → OptionFits x → (nat_le (length (option_octets x.1)) 65535 && option_emittable x.1) ≡ true
one_option (code, Subnet family source scope address) h = both_true (small_body (option_octets (Subnet family source scope address)) h.0.1)
    (subnet_fits family source address h.1)
one_option (code, OpaqueOption s) h = both_true (small_body s h.0.1) refl

options_fit : (v : List (Numbered OptionValue)) → AllByRecursion OptionFits v → options_emittable v ≡ true
options_fit [] h = refl
options_fit (x ∷ xs) h = both_true (one_option x h.0) (options_fit xs h.1)

some_items : {A : Type 0} (xs : List A) → xs ≢ [] → is_some xs ≡ true
some_items [] h = absurd (h refl)
some_items (x ∷ xs) h = refl

one_value : (v : ParameterValue) → IsEmittable v → parameter_emittable v ≡ true
one_value (Mandatory keys) h = some_items keys h.0
one_value (Alpn names) h = both_true (some_items names h.0) (short_strings names h.1)
one_value v h = refl

all_values : (v : List (Numbered ParameterValue)) → AllByRecursion ParameterFits v
    → list_all (λ x. nat_le (length (parameter_octets x.1)) 65535 && parameter_emittable x.1) v ≡ true
all_values [] h = refl
all_values (x ∷ xs) h = both_true (both_true (small_body (parameter_octets x.1) h.0.0.1) (one_value x.1 h.0.1)) (all_values xs h.1)

rises_behind : {V : Type 0} (n : ℕ) (xs : List (Numbered V)) → Below n xs → Rising xs → rising_behind n xs ≡ true
rises_behind n [] b r = refl
rises_behind n (x ∷ xs) b r = both_true (above n x.0 b.0) (rises_behind x.0 xs r.0 r.1) where
  above : (a b : ℕ) → a < b → nat_lt a b ≡ true
  above a b h = grind (arith, nat_tests)

rises : {V : Type 0} (xs : List (Numbered V)) → Rising xs → rising xs ≡ true
rises [] r = refl
rises (x ∷ xs) r = rises_behind x.0 xs r.0 r.1

pub fits_emittable : (k : Kind) (v : Value k) → Fits k v → is_emittable k v ≡ true
fits_emittable CharacterString s h = short_string s h
fits_emittable CharacterStrings ss h = short_strings ss h
fits_emittable Options v h = options_fit v h
fits_emittable Parameters v h = both_true (all_values v h.0) (rises v h.1)
fits_emittable k v h = refl

pub all_fit_emittable : (kinds : List Kind) (vs : Values kinds) → AllFit kinds vs → all_emittable kinds vs ≡ true
all_fit_emittable [] vs h = refl
all_fit_emittable (k ∷ kinds) vs h = both_true (fits_emittable k vs.0 h.0) (all_fit_emittable kinds vs.1 h.1)
