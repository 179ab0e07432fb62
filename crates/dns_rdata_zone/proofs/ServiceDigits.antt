-- A service binding in the unknown-data form.
use Rattle.std.proofs.Common.{◌≡◌, ℕ, ◌+◌, ◌*◌, ◌≤◌, Bool, true, false, cond, List, [], ◌∷◌, ◌++◌, length, drop, decimal, Option, Some, None, MatchOption, refl}
use Rattle.std.proofs.{lemmas.List.append-nil, lemmas.List.drop_at, Common.sym, Common.◌∙◌, Common.ap, Common.append_assoc, Common.arith, Common.length-append}
use Rattle.hex.specs.Hex.{encode_lower}
use Rattle.dns_fields.specs.{Labels.lowname, declared.Kind.TheVariants.Number, declared.Kind.TheVariants.Parameters, Fields.canonical, Fields.field_octets}
use Rattle.dns_fields.specs.{Fields.all_emittable}
use Rattle.dns_rdata.specs.{Data.fields_of, Data.data_octets, declared.record_data.RData.RData, WholeOctets.name_octets}
use Rattle.dns_rdata_service.specs.{SVCB.svcb_shape, SVCB.svcb_fields, declared.svcb.SVCB.SVCB}
use Rattle.dns_rdata_zone.specs.{Generic.generic, Services.service_octets, Tokens.tokens_from, Tokens.left_after}
use Rattle.dns_rdata_zone.proofs.{Digits.hex_none, Digits.generic_is, Digits.length_low, TokenSteps.hex_tokens, TokenSteps.two_fronts}

pub next_drop : (r : Option ℕ) (old new : List ℕ) → MatchOption r ((old ≡ []) × (new ≡ [])) (λ x. old ≡ x ∷ new) → new ≡ drop 1 old
next_drop None old new h = h.1 ∙ sym (ap (λ (s : List ℕ). drop 1 s) h.0)
next_drop (Some x) old new h = sym (ap (λ (s : List ℕ). drop 1 s) h)

pub octets_more : (text : List ℕ) (c left next : ℕ) (old rest whole : List ℕ) → old ≡ c ∷ rest → text ++ tokens_from (2 * left) (encode_lower old) ≡ whole
    → 2 * next ≡ left_after (2 * left) (2 * 1)
    → (text ++ tokens_from (2 * left) (encode_lower (c ∷ []))) ++ tokens_from (2 * next) (encode_lower rest) ≡ whole
octets_more text c left next old rest whole e w f =
    let first = tokens_from (2 * left) (encode_lower (c ∷ [])) in
    append_assoc text first (tokens_from (2 * next) (encode_lower rest))
    ∙ ap (λ (n : ℕ). text ++ (first ++ tokens_from n (encode_lower rest))) f
    ∙ ap (λ (t : List ℕ). text ++ t) (sym (hex_tokens (2 * left) (c ∷ []) rest))
    ∙ ap (λ (s : List ℕ). text ++ tokens_from (2 * left) (encode_lower s)) (sym e) ∙ w

pub octets_all : (left : ℕ) (text old whole : List ℕ) → old ≡ [] → text ++ tokens_from left (encode_lower old) ≡ whole → text ≡ whole
octets_all left text old whole e w = sym (append-nil text) ∙ ap (λ (t : List ℕ). text ++ tokens_from left t) (sym hex_none)
    ∙ ap (λ (s : List ℕ). text ++ tokens_from left (encode_lower s)) (sym e) ∙ w

grouped : (d h n r : List ℕ) → (92 ∷ 35 ∷ 32 ∷ (d ++ 32 ∷ (h ++ n))) ++ r ≡ 92 ∷ 35 ∷ 32 ∷ (d ++ 32 ∷ (h ++ (n ++ r)))
grouped d h n r = simp append_assoc

-- front, name, rest
parts : (count left : ℕ) (f l n t whole rest : List ℕ) → whole ≡ f ++ (l ++ t) → length l ≡ length n → 1 ≤ length f → count ≡ length whole
    → rest ≡ drop (length l + length f) whole → left + length f + length n ≡ 510
    → (92 ∷ 35 ∷ 32 ∷ (decimal count ++ 32 ∷ (encode_lower f ++ encode_lower n))) ++ tokens_from (2 * left) (encode_lower rest) ≡ generic (f ++ (n ++ t))
parts count left f l n t whole rest is same some counted behind room =
    let size : length (f ++ l) ≡ length l + length f = omega (arith, length-append f l) in
    let others : rest ≡ t =
    behind ∙ ap (λ (s : List ℕ). drop (length l + length f) s) (is ∙ sym (append_assoc f l t)) ∙ drop_at (f ++ l) t (length l + length f) size in
    let number : count ≡ length (f ++ (n ++ t)) =
    omega (arith, counted, ap length is, length-append f (l ++ t), length-append l t, length-append f (n ++ t), length-append n t, same) in
    let many : 1 ≤ count = omega (arith, number, length-append f (n ++ t)) in
    grouped (decimal count) (encode_lower f) (encode_lower n) (tokens_from (2 * left) (encode_lower rest))
    ∙ ap (λ (s : List ℕ). 92 ∷ 35 ∷ 32 ∷ (decimal count ++ 32 ∷ (encode_lower f ++ (encode_lower n ++ tokens_from (2 * left) (encode_lower s))))) others
    ∙ ap (λ (s : List ℕ). 92 ∷ 35 ∷ 32 ∷ (decimal count ++ 32 ∷ s)) (two_fronts left f n t (omega (arith, room, length-append f n)))
    ∙ generic_is (f ++ (n ++ t)) count number many

two_octets : (n : ℕ) → length (field_octets (Number 2) n) ≡ 2
unfolding field_octets
two_octets n = refl

low_octets : (x : SVCB) → canonical svcb_shape (svcb_fields x) ≡ field_octets (Number 2) x.svc_priority
    ++ (lowname x.target_name ++ (field_octets Parameters (svcb_fields x).1.1.0 ++ []))
unfolding field_octets
low_octets x = refl

pub service_generic : (x : SVCB) (count left : ℕ) (head whole rest : List ℕ) → whole ≡ canonical svcb_shape (svcb_fields x) → count ≡ length whole
    → head ≡ field_octets (Number 2) x.svc_priority → rest ≡ drop (length (lowname x.target_name) + 2) whole → left + 2 + length (lowname x.target_name) ≡ 510
    → (92 ∷ 35 ∷ 32 ∷ (decimal count ++ 32 ∷ (encode_lower head ++ encode_lower (name_octets x.target_name)))) ++ tokens_from (2 * left) (encode_lower rest)
    ≡ generic (service_octets x)
service_generic x count left head whole rest is counted front behind room =
    let f = field_octets (Number 2) x.svc_priority in
    let long : length f ≡ 2 = two_octets x.svc_priority in
    ap (λ (s : List ℕ). (92 ∷ 35 ∷ 32 ∷ (decimal count ++ 32 ∷ (encode_lower s ++ encode_lower (name_octets x.target_name)))) ++ tokens_from (2 * left) (encode_lower rest)) front
    ∙ parts count left f (lowname x.target_name) (name_octets x.target_name) (field_octets Parameters (svcb_fields x).1.1.0 ++ []) whole rest
    (is ∙ low_octets x) (length_low x.target_name) (omega (arith, long)) counted
    (behind ∙ ap (λ (n : ℕ). drop (length (lowname x.target_name) + n) whole) (sym long))
    (omega (arith, room, long, length_low x.target_name))

if_so : (b : Bool) (x y : List ℕ) → b ≡ true → cond b x y ≡ x
if_so true x y h = refl
if_so false x y h = absurd (cc h)

-- the octets of a value that can be emitted
pub octets_if : (v : RData) → all_emittable (fields_of v).kinds (fields_of v).values ≡ true → data_octets v ≡ canonical (fields_of v).kinds (fields_of v).values
octets_if v h = if_so (all_emittable (fields_of v).kinds (fields_of v).values) (canonical (fields_of v).kinds (fields_of v).values) [] h
