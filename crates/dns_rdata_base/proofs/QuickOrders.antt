-- The order that fields tell is that of the records.
use Rattle.std.proofs.Common.{◌≡◌, ◌≢◌, ℕ, Bool, true, false, true≢false, List, [], ◌∷◌, ◌++◌, ◌==◌, length, take, refl, sym, ap, ◌∙◌, subst}
use Rattle.std.proofs.lemmas.{Cmp.nat_list_eq_equiv, List.append_cancel_left, List.take_at}
use Rattle.std.specs.{Cmp.IsEquivalence, Cmp.Lexicographic.pointwise, List.flat_map, FinMap.nat_cmp-IsAntisymmetric, FinMap.slice_cmp-IsAntisymmetric, Ordering.is_eq, Ordering.ordering_then, declared.cmp.Ordering.Ordering}
use Rattle.std.specs.declared.cmp.Ordering.TheVariants.{Less, Equal, Greater}
use Rattle.dns_fields.specs.{Tlvs.string}
use Rattle.dns_fields.specs.Fields.{Value, Values, all_emittable, canonical, field_octets}
use Rattle.dns_fields.specs.declared.Kind.{Kind, TheVariants.CharacterString, TheVariants.CharacterStrings, TheVariants.Rest}
use Rattle.dns_canonical.specs.Fronts.{canonical_cmp, field_cmp, fields_cmp, AllEndAlike}
use Rattle.dns_canonical.proofs.{Comparing.cmp_shared, Comparing.both_equal, Fronts.fields_decide}
use Rattle.dns_rdata_base.specs.contracts.hinfo.HINFOPartialEq.TheImpl as hinfo_eq
use Rattle.dns_rdata_base.specs.contracts.hinfo.HINFOEq.TheImpl.Laws as hinfo_laws
use Rattle.dns_rdata_base.specs.contracts.txt.TXTPartialEq.TheImpl as txt_eq
use Rattle.dns_rdata_base.specs.contracts.txt.TXTEq.TheImpl.Laws as txt_laws
use Rattle.dns_rdata_base.specs.{declared.hinfo.HINFO.HINFO, declared.txt.TXT.TXT, HINFO.hinfo_shape, HINFO.hinfo_fields}
use Rattle.dns_rdata_base.specs.{Ordered.IsOrder, TXT.txt_shape, TXT.txt_fields}

-- ---- of what ties

-- the octets of each field are the same
abbrev pub AllTied : (kinds : List Kind) → Values kinds → Values kinds → Type 0
AllTied [] a b = Unit {0}
AllTied (k ∷ kinds) a b = (field_octets k a.0 ≡ field_octets k b.0) × AllTied kinds a.1 b.1

all_tied : (o : Ordering) (kinds : List Kind) (a b : Values kinds) → fields_cmp o kinds a b ≡ Equal → (o ≡ Equal) × AllTied kinds a b
all_tied o [] a b e = (e, tt)
all_tied o (k ∷ kinds) a b e =
    let t = all_tied (ordering_then o (field_cmp k a.0 b.0)) kinds a.1 b.1 e in
    let both = both_equal o (field_cmp k a.0 b.0) t.0 in
    (both.0, (slice_cmp-IsAntisymmetric nat_cmp-IsAntisymmetric (field_octets k a.0) (field_octets k b.0) both.1, t.1))

pub tied_fields : (kinds : List Kind) (a b : Values kinds) → AllEndAlike kinds a b → canonical_cmp kinds a b ≡ Equal → AllTied kinds a b
tied_fields kinds a b h e = (all_tied Equal kinds a b (fields_decide kinds a b h ∙ e)).1

-- two strings, one of which begins each of two lists
one_string : (s t x y : List ℕ) → string s ++ x ≡ string t ++ y → (s ≡ t) × (x ≡ y)
one_string s t x y e =
    let n : length s ≡ length t = cc e in
    let l : s ++ x ≡ t ++ y = cc e in
    let same : s ≡ t = sym (take_at s x (length s) refl) ∙ ap (take (length s)) l ∙ take_at t y (length s) (sym n) in
    (same, append_cancel_left s x y (l ∙ ap (λ (p : List ℕ). p ++ y) (sym same)))

same_strings : (a b : List (List ℕ)) → flat_map string a ≡ flat_map string b → a ≡ b
same_strings [] [] e = refl
same_strings [] (t ∷ b) e = cc e
same_strings (s ∷ a) [] e = cc e
same_strings (s ∷ a) (t ∷ b) e =
    let h = one_string s t (flat_map string a) (flat_map string b) e in
    ap (λ (x : List ℕ). x ∷ a) h.0 ∙ ap (λ (x : List (List ℕ)). t ∷ x) (same_strings a b h.1)

pub same_texts : (a b : List (List ℕ)) → field_octets CharacterStrings a ≡ field_octets CharacterStrings b → a ≡ b
unfolding field_octets
same_texts a b e = same_strings a b e

pub same_text : (a b : List ℕ) → field_octets CharacterString a ≡ field_octets CharacterString b → a ≡ b
unfolding field_octets
same_text a b e = cc e

pub same_rest : (a b : List ℕ) → field_octets Rest a ≡ field_octets Rest b → a ≡ b
unfolding field_octets
same_rest a b e = e

-- ---- of records whose fields are compared

pub no_difference : {P : Type 0} (o : Ordering) → is_eq o ≡ false → o ≡ Equal → P
no_difference Less h e = cc e
no_difference Equal h e = absurd (true≢false h)
no_difference Greater h e = cc e

pub tie : {P : Type 0} (o : Ordering) → is_eq o ≡ true → o ≢ Equal → P
tie Less h n = absurd (true≢false (sym h))
tie Equal h n = absurd (n refl)
tie Greater h n = absurd (true≢false (sym h))

-- an order of canonical octets, of records that are equal where the octets of each field are the same
pub orders : (s : List Kind) (a b : Values s) (same : Bool) (o : Ordering) → (o ≢ Equal → all_emittable s a ≡ true) → (o ≢ Equal → all_emittable s b ≡ true)
    → AllEndAlike s a b → o ≡ canonical_cmp s a b → (o ≡ Equal → AllTied s a b → same ≡ true) → IsOrder s a b same o
orders s a b same o f g end e equal = record {
  first = f;
  second = g;
  octets = λ n. e;
  equal = λ z. equal z (tied_fields s a b end (sym e ∙ z));
}

pub itself : {X : Type 0} {e : X → X → Bool} (x y : X) → IsEquivalence e → x ≡ y → e x y ≡ true
itself {e = e} x y h p = subst (λ z. e x z ≡ true) p (h.refl x)

pub rest_orders : (a b : List ℕ) (o : Ordering) → o ≡ canonical_cmp (Rest ∷ []) (a, tt) (b, tt) → IsOrder (Rest ∷ []) (a, tt) (b, tt) (pointwise ◌==◌ a b) o
rest_orders a b o e = orders (Rest ∷ []) (a, tt) (b, tt) _ o (λ n. refl) (λ n. refl) (tt, tt) e (λ z tied. itself a b nat_list_eq_equiv (same_rest a b tied.0))

pub txt_orders : (x y : TXT) (o : Ordering) → (o ≢ Equal → all_emittable txt_shape (txt_fields x) ≡ true)
    → (o ≢ Equal → all_emittable txt_shape (txt_fields y) ≡ true)
    → o ≡ canonical_cmp txt_shape (txt_fields x) (txt_fields y) → IsOrder txt_shape (txt_fields x) (txt_fields y) (txt_eq.ghosts.eq x y) o
txt_orders x y o f g e =
    orders txt_shape (txt_fields x) (txt_fields y) _ o f g (tt, tt) e
    (λ z tied. itself x y txt_laws.laws-law (ap (λ d. record { txt_data = d }) (same_texts x.txt_data y.txt_data tied.0)))

pub hinfo_orders : (x y : HINFO) (o : Ordering) → (o ≢ Equal → all_emittable hinfo_shape (hinfo_fields x) ≡ true)
    → (o ≢ Equal → all_emittable hinfo_shape (hinfo_fields y) ≡ true)
    → o ≡ fields_cmp Equal hinfo_shape (hinfo_fields x) (hinfo_fields y) → IsOrder hinfo_shape (hinfo_fields x) (hinfo_fields y) (hinfo_eq.ghosts.eq x y) o
hinfo_orders x y o f g e =
    orders hinfo_shape (hinfo_fields x) (hinfo_fields y) _ o f g (tt, (tt, tt)) (e ∙ fields_decide hinfo_shape (hinfo_fields x) (hinfo_fields y) (tt, (tt, tt)))
    (λ z tied. itself x y hinfo_laws.laws-law (rw (same_text x.cpu y.cpu tied.0, same_text x.os y.os tied.1.0) refl))

-- ---- of octets to the end behind other fields

pub same_first : (k : Kind) (x y : Value k) (kinds : List Kind) (a b : Values kinds) → x ≡ y → canonical_cmp (k ∷ kinds) (x, a) (y, b) ≡ canonical_cmp kinds a b
same_first k x y kinds a b e = cmp_shared {n = length (field_octets k y)} record {
  shared = field_octets k y;
  count = refl;
  left = ap (λ (t : Value k). field_octets k t ++ canonical kinds a) e;
  right = refl;
}

-- of octets alone
abbrev pub rest_cmp : List ℕ → List ℕ → Ordering
rest_cmp a b = canonical_cmp (Rest ∷ []) (a, tt) (b, tt)

-- the octets decide, and tell the values
pub by_rest : (s : List Kind) (a b : Values s) (same : Bool) (x y : List ℕ) (o : Ordering) → all_emittable s a ≡ true → all_emittable s b ≡ true
    → canonical_cmp s a b ≡ rest_cmp x y → (x ≡ y → same ≡ true) → o ≡ rest_cmp x y → IsOrder s a b same o
by_rest s a b same x y o f g order equal e = record {
  equal = λ t. equal (same_rest x y (tied_fields (Rest ∷ []) (x, tt) (y, tt) (tt, tt) (sym e ∙ t)).0);
  first = λ n. f;
  second = λ n. g;
  octets = λ n. e ∙ sym order;
}
