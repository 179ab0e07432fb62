-- Values, one step after the other.
use Rattle.std.proofs.Common.{◌≡◌, ◌≢◌, ℕ, suc, ◌<◌, ◌⊎◌, inl, inr, true, false, eqb, get_or, take, drop, List, [], ◌∷◌, ◌++◌, length, map, refl, sym}
use Rattle.std.proofs.Common.{◌∙◌, ap, subst, arith, Result, Ok, Err}
use Rattle.std.specs.{Prelude.IfErr, List.AllByRecursion, List.AllZip, Ordering.nat_cmp}
use Rattle.std.proofs.{lemmas.Bool.Decides.nat_tests, lemmas.List.Sorted.IsNonDecreasingBy-from_sort}
use Rattle.std.proofs.lemmas.List.{append-nil, take_all, drop_all}
use Rattle.std.specs.List.Sorted.{IsPermutation, IsSorted, IsStrictlyIncreasing}
use Rattle.dns_types.specs.declared.error.ParseError.{ParseError}
use Rattle.dns_types.specs.declared.error.ParseError.TheVariants as parse
use Rattle.dns_tokens.specs.{Forms.ipv4, Forms.ipv6, Reads.UnlessParseMemory, Reads.HoldsOfNone, Reads.Decides}
use Rattle.dns_zone_tokens.specs.{Forms.bare, Forms.text, Letters.letters, Letters.octet_of, Letters.escapes_stand, ZoneReads.NoValueOf, Errors.Says}
use Rattle.dns_zone_tokens.proofs.LetterSteps.{plain_letters}
use Rattle.dns_tokens.proofs.Steps.{unless_map}
use Rattle.dns_rdata_service.specs.declared.svcb.key.SvcParamKey.{SvcParamKey}
use Rattle.dns_zone_rows.specs.{ParameterFaults.ValueFault, ParameterValues.wrong_value, ParameterSteps.HasMeant, ParameterValues.HasOctets, ParameterValues.IsPlain, ParameterValues.IsValue}
use Rattle.dns_zone_rows.specs.{declared.parameters.lists.ListItem.ListItem, ParameterLists.items_in, ParameterLists.IsItem, ParameterLists.IsListedKey, ParameterLists.IsKeyList}
use Rattle.dns_zone_rows.specs.declared.parameters.lists.ListItem.TheVariants.{Ipv4, Ipv6}
use Rattle.dns_zone_rows.proofs.{KeysOnce.keys_once, KeysOnce.octets_once, Rises.climbs_rising, Rises.climbs_sorted, Rises.order_once}

-- ---- items

pub no_ipv4 : (e : ParseError) (item : ListItem) (s : List ℕ) → item ≡ Ipv4
    → UnlessParseMemory e (NoValueOf (bare ipv4) (record { octets = s; quoted = false; joined = false }))
    → UnlessParseMemory e (HoldsOfNone (IsItem item s))
no_ipv4 e item s is none = rw is (unless_map e _ (HoldsOfNone (IsItem Ipv4 s)) (λ h. record { none = λ v has. h.none v (refl, has) }) none)

pub no_ipv6 : (e : ParseError) (item : ListItem) (s : List ℕ) → item ≡ Ipv6
    → UnlessParseMemory e (NoValueOf (bare ipv6) (record { octets = s; quoted = false; joined = false }))
    → UnlessParseMemory e (HoldsOfNone (IsItem item s))
no_ipv6 e item s is none = rw is (unless_map e _ (HoldsOfNone (IsItem Ipv6 s)) (λ h. record { none = λ v has. h.none v (refl, has) }) none)

-- ---- lists of keys

-- keys that do not rise in order are no list of keys
pub no_rise : (s keys order : List ℕ) → AllZip IsListedKey (items_in s) keys → IsPermutation keys order → IsSorted nat_cmp order
    → (IsStrictlyIncreasing order → ⊥)
    → HoldsOfNone (IsKeyList s)
no_rise s keys order each same climbs isnt = record {
  none = λ v is.
      let ks : is.keys ≡ keys = keys_once s is.keys keys is.each each in
      let os : is.order ≡ order =
      order_once keys is.order order (subst (λ (x : List ℕ). IsPermutation x is.order) ks is.same) (climbs_rising is.order is.rising)
      same (climbs_sorted order (IsNonDecreasingBy-from_sort (λ x. x) order climbs)) in
      isnt (subst IsStrictlyIncreasing os is.rising);
}

-- ---- escapes

plain_text : (s : List ℕ) → ((k : ℕ) → k < length s → get_or s k 0 ≢ 92) → AllByRecursion (λ c. eqb c 92 ≡ false) s
plain_text [] h = tt
plain_text (c ∷ s) h =
    let other : c ≢ 92 = h 0 (omega arith) in
    (grind (arith, nat_tests), plain_text s (λ k lt. h (suc k) (omega arith)))

-- ---- values

-- a text without a `\` is what its letters are
plain_meant : (s : List ℕ) → ((k : ℕ) → k < length s → get_or s k 0 ≢ 92) → (escapes_stand s ≡ true) × (map octet_of (letters s) ≡ s)
plain_meant s h =
    let own = plain_letters (length s) s (omega arith) h in
    let none : drop (length s) s ≡ [] = drop_all (length s) s (omega arith) in (
      own.0 ∙ ap escapes_stand none,
      own.1 ∙ ap (λ (r : List ℕ). take (length s) s ++ map octet_of (letters r)) none ∙ append-nil (take (length s) s) ∙ take_all (length s) s (omega arith),
    )

decides_as : {T V : Type 0} (P Q : V → Type 0) (view : T → V) (r : Result T ParseError) → ((v : V) → P v → Q v) → ((v : V) → Q v → P v) → Decides P view r
    → Decides Q view r
decides_as P Q view (Ok x) f g h = f (view x) h
decides_as P Q view (Err e) f g h = unless_map e (HoldsOfNone P) (HoldsOfNone Q) (λ n. record { none = λ v q. n.none v (g v q) }) h

-- what its octets give by the key is what it gives
pub meant_plain : {T : Type 0} (key : SvcParamKey) (s : List ℕ) (view : T → List ℕ) (r : Result T ParseError) → ((k : ℕ) → k < length s → get_or s k 0 ≢ 92)
    → Decides (HasOctets key s) view r → Decides (HasMeant key s) view r
meant_plain key s view r h reads =
    let own = plain_meant s h in
    decides_as (HasOctets key s) (HasMeant key s) view r
    (λ v has. record { plain = λ e. plain_text s h; escapes = own.0; has = subst (λ (x : List ℕ). HasOctets key x v) (sym own.1) has })
    (λ v has. subst (λ (x : List ℕ). HasOctets key x v) own.1 has.has) reads

-- an error about the key's format says that there is no value of it
says_why : (key : SvcParamKey) (P : Type 0) (e : ParseError) → (e ≡ parse.Memory) ⊎ Says (wrong_value key) e → UnlessParseMemory e P
    → (e ≡ parse.Memory) ⊎ (Says (wrong_value key) e × P)
says_why key P e (inl memory) none = inl memory
says_why key P (parse.Message said) (inr says) none = inr (says, none)
says_why key P e (inr says) none = absurd says

pub meant_fault : {T : Type 0} (key : SvcParamKey) (text s : List ℕ) (view : T → List ℕ) (r : Result T ParseError) → IsPlain key text
    → escapes_stand text ≡ true
    → s ≡ map octet_of (letters text) → Decides (HasOctets key s) view r → IfErr r (λ e. (e ≡ parse.Memory) ⊎ Says (wrong_value key) e)
    → IfErr r (λ e. (e ≡ parse.Memory) ⊎ ValueFault key text e)
meant_fault key text s view (Ok x) plain escapes same reads why = tt
meant_fault key text s view (Err e) plain escapes same reads why = either (says_why key (HoldsOfNone (HasOctets key s)) e why reads)
  where
    either : (e ≡ parse.Memory) ⊎ (Says (wrong_value key) e × HoldsOfNone (HasOctets key s)) → (e ≡ parse.Memory) ⊎ ValueFault key text e
    either (inl memory) = inl memory
    either (inr fault) = inr (inr (inr (inl (fault.0, plain, escapes, subst (λ (x : List ℕ). HoldsOfNone (HasOctets key x)) same fault.1))))

pub plain_fault : {T : Type 0} (key : SvcParamKey) (s : List ℕ) (view : T → List ℕ) (r : Result T ParseError) → ((k : ℕ) → k < length s → get_or s k 0 ≢ 92)
    → Decides (HasOctets key s) view r → IfErr r (λ e. (e ≡ parse.Memory) ⊎ Says (wrong_value key) e) → IfErr r (λ e. (e ≡ parse.Memory) ⊎ ValueFault key s e)
plain_fault key s view r h reads why =
    let own = plain_meant s h in meant_fault key s s view r (λ e. plain_text s h) own.0 (sym own.1) reads why

-- ---- their length

pub too_long : (key : SvcParamKey) (text v : List ℕ) → HasMeant key text v → 65535 < length v → HoldsOfNone (IsValue key text)
too_long key text v has long = record {
  none = λ w other.
      let same : v ≡ w = octets_once key (map octet_of (letters text)) v w has.has other.has in
      let l : length v ≡ length w = ap length same in
      let fits = other.fits in
      omega arith;
}
