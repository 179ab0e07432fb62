-- Tokens have at most one list of octets.
use Rattle.std.proofs.Common.{◌≡◌, ℕ, ◌<◌, List, [], ◌∷◌, ◌++◌, map, refl, sym, ◌∙◌, ap, subst}
use Rattle.std.specs.{List.Sorted.IsPermutation, Cmp.nat_cmp_is, declared.cmp.Ordering.TheVariants.Less}
use Rattle.std.proofs.lemmas.List.Sorted.{IsPermutation-map}
use Rattle.dns_fields.specs.{Sorting.put, Sorting.sorted, Tlvs.tlvs, Tlvs.Rising}
use Rattle.dns_fields.proofs.Sorted.{octets_cmp, sorted_same}
use Rattle.dns_zone_tokens.specs.Tokens.{Token}
use Rattle.dns_rdata_service.specs.{SvcParamKey.key_number, declared.svcb.key.SvcParamKey.SvcParamKey}
use Rattle.dns_zone_rows.specs.{ParameterLaws.OneReading, ParameterValues.IsValue, Parameters.Parameter, Parameters.HasParameter, Parameters.AreWritten}
use Rattle.dns_zone_rows.proofs.{KeyNames.key_once, KeysOnce.octets_once, ParameterTokens.apart, ParameterTokens.begin_once, ParameterTokens.no_tokens}

-- ---- one order

-- a number and octets as a list, whose order is that of the numbers
abbrev view : Parameter → List ℕ
view p = p.0 ∷ p.1

rising_stays : (ps : List Parameter) → Rising ps → sorted octets_cmp (map view ps) ≡ map view ps
rising_stays [] h = refl
rising_stays (p ∷ []) h = refl
rising_stays (p ∷ q ∷ ps) h = ap (put octets_cmp (view p)) (rising_stays (q ∷ ps) h.1) ∙ first h.0.0 where
  first : p.0 < q.0 → put octets_cmp (view p) (map view (q ∷ ps)) ≡ view p ∷ map view (q ∷ ps)
  first lt = rw (sym (nat_cmp_is p.0 q.0 Less lt)) refl

same_views : (xs ys : List Parameter) → map view xs ≡ map view ys → xs ≡ ys
same_views [] [] e = refl
same_views [] (y ∷ ys) e = absurd (cc e)
same_views (x ∷ xs) [] e = absurd (cc e)
same_views (x ∷ xs) (y ∷ ys) e =
    let n : x.0 ≡ y.0 = cc e in
    let v : x.1 ≡ y.1 = cc e in
    let rest : map view xs ≡ map view ys = cc e in
    λ i. (n i, v i) ∷ same_views xs ys rest i

one_order : (ps xs ys : List Parameter) → IsPermutation ps xs → IsPermutation ps ys → Rising xs → Rising ys → xs ≡ ys
one_order ps xs ys p q a b = same_views xs ys (
    sym (rising_stays xs a)
    ∙ sym (sorted_same (map view ps) (map view xs) (IsPermutation-map view ps xs p))
    ∙ sorted_same (map view ps) (map view ys) (IsPermutation-map view ps ys q)
    ∙ rising_stays ys b
    )

-- ---- one list of parameters

one_parameter : (name value : List ℕ) (p q : Parameter) → HasParameter name value p → HasParameter name value q → p ≡ q
one_parameter name value (n, v) (m, w) a b =
    let keys : a.key ≡ b.key = key_once a.key b.key name a.named b.named in
    let numbers : n ≡ m = a.number ∙ ap key_number keys ∙ sym b.number in
    let other : IsValue a.key value w = subst (λ (k : SvcParamKey). IsValue k value w) (sym keys) b.octets in
    let values : v ≡ w = octets_once a.key _ v w a.octets.has other.has in
    cc

pub written_once : (ps qs : List Parameter) (tokens : List Token) → AreWritten ps tokens → AreWritten qs tokens → ps ≡ qs
written_once [] qs tokens h k = sym (no_tokens qs (subst (AreWritten qs) h k))
written_once (p ∷ ps) [] tokens h k = no_tokens (p ∷ ps) (subst (AreWritten (p ∷ ps)) k h)
written_once (p ∷ ps) (q ∷ qs) tokens h k =
    let b = begin_once h.3.name h.3.value k.3.name k.3.value h.0 h.1 k.0 k.1 (sym h.2 ∙ k.2) h.3.written k.3.written (apart h.0 ps h.1 h.4) (apart k.0 qs k.1 k.4) in
    let has : HasParameter h.3.name h.3.value q =
    subst (λ (x : List ℕ). HasParameter h.3.name x q) (sym b.values) (subst (λ (x : List ℕ). HasParameter x k.3.value q) (sym b.names) k.3.has) in
    let first : p ≡ q = one_parameter h.3.name h.3.value p q h.3.has has in
    let others : ps ≡ qs = written_once ps qs h.1 h.4 (subst (AreWritten qs) (sym b.left) k.4) in
    cc

pub one_reading : OneReading
one_reading tokens a b x y =
    let ps : x.parameters ≡ y.parameters = written_once x.parameters y.parameters tokens x.written y.written in
    let order : x.order ≡ y.order =
    one_order y.parameters x.order y.order (subst (λ (l : List Parameter). IsPermutation l x.order) ps x.same) y.same x.rising y.rising in
    x.wire ∙ ap tlvs order ∙ sym y.wire
