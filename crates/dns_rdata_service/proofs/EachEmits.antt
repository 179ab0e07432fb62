-- Values that are emitted one after the other.
use Rattle.std.proofs.Common.{◌≡◌, Bool, true, false, ◌&&◌, nat_le, ℕ, ◌+◌, ◌<◌, inl, inr, ◌^◌, List, [], ◌∷◌, ◌++◌, length, map, take, drop, get_or}
use Rattle.std.proofs.Common.{refl, sym, ap, ◌∙◌, arith, subst, append_assoc, Result, Ok, Err, ◌≢◌, true≢false, codes, Option, Some, None}
use Rattle.std.proofs.lemmas.List.{length-append, append-nil, drop_more, take-append-drop, take_more, map-append, map_push, length-map, map-id}
use Rattle.std.proofs.{lemmas.List.Folds.flat_map-map, lemmas.Grind.put_two, Math.Bool.and-false}
use Rattle.std.specs.{Fmt.◌++?◌, Fmt.HasWritten, Fmt.IsPlainFormatter, Fmt.DisplaysOnOk, List.flat_map, List.list_all, List.AllByRecursion}
use Rattle.std.specs.{declared.fmt.Formatter.Formatter, declared.fmt.Error.Error, Int.bytes_high_first}
use Rattle.dns_fields.specs.Tlvs.{string, ParameterValue, Mandatory, Alpn, is_some, IsEmittable, parameter_octets, parameter_emittable, Numbered}
use Rattle.dns_fields.specs.{Fields.field_octets, Fields.parameter_tlvs, Tlvs.tlv, Tlvs.ParameterFits, Tlvs.tlvs, Tlvs.as_tlv, Tlvs.Rising, Tlvs.rising}
use Rattle.dns_fields.specs.declared.Kind.{TheVariants.Number, TheVariants.CharacterString, TheVariants.Rest, TheVariants.Parameters}
use Rattle.dns_types.specs.declared.error.ProtoError.{ProtoError}
use Rattle.dns_names_wire.specs.State.{Writing}
use Rattle.dns_names_wire.specs.Terms.{Extends, EmitsField, AppendedField, StoppedField, Because, AppendedOctets, StoppedOctets, EmitsOctets}
use Rattle.dns_names_wire.proofs.FieldWrites.{keeps_same, keeps_then, because_map, extends_then}
use Rattle.dns_rdata_service.specs.Parameters.{Parameter, parameter_of, IsAbove, EmitsParameter}
use Rattle.dns_rdata_service.specs.{SvcParamValue.fits_value, SvcParamValue.sized, SvcParamValue.EmitsValue, Hints.EmitsEach, Hints.each_text}
use Rattle.dns_rdata_service.specs.{SvcParamKey.key_number, declared.svcb.key.SvcParamKey.SvcParamKey}
use Rattle.dns_check.proofs.ParameterLists.{Risen, risen_push, risen_not}

-- ---- any emitter

pub emits_push : {T : Type 0} (E : T → Result (Unit {0}) ProtoError → Writing → Writing → Type 0) (xs : List T) (x : T) (w b n : Writing)
    → EmitsEach E xs (Ok tt) w b → E x (Ok tt) b n → EmitsEach E (xs ++ x ∷ []) (Ok tt) w n
emits_push E [] x w b n e h = inl (n, subst (λ (v : Writing). E x (Ok tt) v n) e h, refl)
emits_push E (y ∷ ys) x w b n (inl e) h = inl (e.0, e.1, emits_push E ys x e.0 b n e.2 h)
emits_push E (y ∷ ys) x w b n (inr e) h = absurd (cc e.1)

pub emits_stop : {T : Type 0} (E : T → Result (Unit {0}) ProtoError → Writing → Writing → Type 0) (xs : List T) (x : T) (ys : List T) (e : ProtoError)
    (w b n : Writing) → EmitsEach E xs (Ok tt) w b → E x (Err e) b n → EmitsEach E (xs ++ x ∷ ys) (Err e) w n
emits_stop E [] x ys e w b n h s = inr (e, refl, subst (λ (v : Writing). E x (Err e) v n) h s)
emits_stop E (y ∷ zs) x ys e w b n (inl h) s = inl (h.0, h.1, emits_stop E zs x ys e h.0 b n h.2 s)
emits_stop E (y ∷ zs) x ys e w b n (inr h) s = absurd (cc h.1)

-- a list around one of its indices
pub list_at : {T : Type 0} (i : ℕ) (xs : List T) (x d : T) → x ≡ get_or xs i d → i < length xs → take i xs ++ x ∷ drop (i + 1) xs ≡ xs
list_at i xs x d is lt = ap (λ y. take i xs ++ y ∷ drop (i + 1) xs) is ∙ ap (λ t. take i xs ++ t) (sym (drop_more xs i d lt)) ∙ take-append-drop i xs

-- ---- emitters of octets

pub appended_none : (w : Writing) → AppendedOctets w [] w
appended_none w = record { keeps = keeps_same w; octets = sym (append-nil w.octets) }

pub appended_then : {w b n : Writing} {s t : List ℕ} → AppendedOctets w s b → AppendedOctets b t n → AppendedOctets w (s ++ t) n
appended_then {w} {b} {n} {s} {t} f g = record
    { keeps = keeps_then f.keeps g.keeps; octets = g.octets ∙ ap (λ (l : List ℕ). l ++ t) f.octets ∙ append_assoc w.octets s t }

pub extends_on : {a b c : Writing} → Extends a b → Extends b c → Extends a c
extends_on {a} {b} {c} f g = record {
  keeps = keeps_then f.keeps g.keeps;
  tail = f.tail ++ g.tail;
  octets = g.octets ∙ ap (λ (l : List ℕ). l ++ g.tail) f.octets ∙ append_assoc a.octets f.tail g.tail;
}

-- an earlier one fails, or a later one
pub stopped_first : {e : ProtoError} {w n : Writing} {P Q : Type 0} {s : List ℕ} (t : List ℕ) → (P → Q) → StoppedOctets e w P s n
    → StoppedOctets e w Q (s ++ t) n
stopped_first {e} {s = s} t f h = record { extends = h.extends; why = because_map e _ _ _ _ (λ r. omega (arith, r, length-append s t)) f h.why }

pub stopped_then : {e : ProtoError} {w b n : Writing} {P Q : Type 0} {s t : List ℕ} → (P → Q) → AppendedOctets w s b → StoppedOctets e b P t n
    → StoppedOctets e w Q (s ++ t) n
stopped_then {e} {w} {b} {n} {s = s} {t = t} f a h =
    record {
      extends = extends_on (record { keeps = a.keeps; tail = s; octets = a.octets }) h.extends;
      why =
          because_map e _ _ _ _ (λ r. omega (arith, r, a.keeps.limit, ap length a.octets, length-append w.octets s, length-append s t)) f h.why;
    }

pub and_first : (a b : Bool) → a ≡ false → a && b ≡ false
and_first a b e = ap (λ x. x && b) e

pub and_second : (a b : Bool) → b ≡ false → a && b ≡ false
and_second true b e = e
and_second false b e = refl

-- each is emitted as octets, under a view
pub emits_all : {X Y : Type 0} (view : X → Y) (F : Y → Type 0) (test : Y → Bool) (f : Y → List ℕ)
    (E : X → Result (Unit {0}) ProtoError → Writing → Writing → Type 0)
    → ((x : X) (r : Result (Unit {0}) ProtoError) (w n : Writing) → E x r w n → EmitsOctets (F (view x)) (test (view x) ≡ false) (f (view x)) r w n)
    → (xs : List X) (r : Result (Unit {0}) ProtoError) (w n : Writing) → EmitsEach E xs r w n
    → EmitsOctets (AllByRecursion F (map view xs)) (list_all test (map view xs) ≡ false) (flat_map f (map view xs)) r w n
emits_all view F test f E each [] (Ok u) w n h = (tt, subst (λ (v : Writing). AppendedOctets w [] v) (sym h) (appended_none w))
emits_all view F test f E each [] (Err e) w n h = absurd h
emits_all view F test f E each (x ∷ xs) (Ok u) w n (inl h) =
    let first = each x (Ok tt) w h.0 h.1 in
    let rest = emits_all view F test f E each xs (Ok u) h.0 n h.2 in
    ((first.0, rest.0), appended_then first.1 rest.1)
emits_all view F test f E each (x ∷ xs) (Err e) w n (inl h) =
    stopped_then (and_second (test (view x)) (list_all test (map view xs))) (each x (Ok tt) w h.0 h.1).1 (emits_all view F test f E each xs (Err e) h.0 n h.2)
emits_all view F test f E each (x ∷ xs) (Ok u) w n (inr h) = absurd (cc h.1)
emits_all view F test f E each (x ∷ xs) (Err e) w n (inr h) =
    let same : h.0 ≡ e = cc (h.1) in
    let first : StoppedOctets e w (test (view x) ≡ false) (f (view x)) n =
    subst (λ (y : ProtoError). StoppedOctets y w (test (view x) ≡ false) (f (view x)) n) same (each x (Err h.0) w n h.2) in
    stopped_first (flat_map f (map view xs)) (and_first (test (view x)) (list_all test (map view xs))) first

-- ---- fields as octets

pub number_emits : (w n : ℕ) (r : Result (Unit {0}) ProtoError) (old new : Writing) → EmitsField (Number w) n r old new
    → EmitsOctets (n < 256 ^ w) (true ≡ false) (bytes_high_first w n) r old new
unfolding field_octets
number_emits w n (Ok u) old new h = (h.field.is.0, record { keeps = h.keeps; octets = h.field.is.1 })
number_emits w n (Err e) old new h = record { extends = h.extends; why = because_map e _ _ _ _ (λ r. r.full) (λ u. u.unfit) h.why }

pub text_emits : (s : List ℕ) (r : Result (Unit {0}) ProtoError) (old new : Writing) → EmitsField CharacterString s r old new
    → EmitsOctets (length s < 256) (nat_le (length s) 255 ≡ false) (string s) r old new
unfolding field_octets
text_emits s (Ok u) old new h = (h.field.is.0, record { keeps = h.keeps; octets = h.field.is.1 })
text_emits s (Err e) old new h = record { extends = h.extends; why = because_map e _ _ _ _ (λ r. r.full) (λ u. u.unfit) h.why }

pub rest_emits : (s : List ℕ) (r : Result (Unit {0}) ProtoError) (old new : Writing) → EmitsField Rest s r old new
    → EmitsOctets (Unit {0}) (true ≡ false) s r old new
unfolding field_octets
rest_emits s (Ok u) old new h = (tt, record { keeps = h.keeps; octets = h.field.is })
rest_emits s (Err e) old new h = record { extends = h.extends; why = because_map e _ _ _ _ (λ r. r.full) (λ u. u.unfit) h.why }

-- a test that each passes
pub all_pass : {X : Type 0} (xs : List X) → list_all (λ x. true) xs ≡ true
all_pass [] = refl
all_pass (x ∷ xs) = all_pass xs

pub emits_as : {P Q U V : Type 0} {s t : List ℕ} (r : Result (Unit {0}) ProtoError) (old new : Writing) → (P → Q) → (U → V) → s ≡ t
    → EmitsOctets P U s r old new → EmitsOctets Q V t r old new
emits_as {P} {Q} {U} {V} {s} {t} (Ok u) old new f g e h = (f h.0, subst (λ (x : List ℕ). AppendedOctets old x new) e h.1)
emits_as {P} {Q} {U} {V} {s} {t} (Err x) old new f g e h =
    record { extends = h.extends; why = because_map x _ _ _ _ (λ r. omega (arith, r, ap length e)) g h.why }

-- one more of a list
pub one_more : {T : Type 0} (i : ℕ) (xs : List T) (x d : T) → x ≡ get_or xs i d → i < length xs → take (i + 1) xs ≡ take i xs ++ x ∷ []
one_more i xs x d is lt = take_more xs i d lt ∙ ap (λ y. take i xs ++ y ∷ []) (sym is)

-- some were emitted, and then one more
pub emits_next : {T : Type 0} (E : T → Result (Unit {0}) ProtoError → Writing → Writing → Type 0) (i : ℕ) (xs : List T) (x d : T) (w b n : Writing)
    → x ≡ get_or xs i d → i < length xs → EmitsEach E (take i xs) (Ok tt) w b → E x (Ok tt) b n → EmitsEach E (take (i + 1) xs) (Ok tt) w n
emits_next E i xs x d w b n is lt h s =
    subst (λ zs. EmitsEach E zs (Ok tt) w n) (sym (one_more i xs x d is lt)) (emits_push E (take i xs) x w b n h s)

-- or one fails
pub emits_refused : {T : Type 0} (E : T → Result (Unit {0}) ProtoError → Writing → Writing → Type 0) (i : ℕ) (xs : List T) (x d : T) (e : ProtoError)
    (w b n : Writing) → x ≡ get_or xs i d → i < length xs → EmitsEach E (take i xs) (Ok tt) w b → E x (Err e) b n → EmitsEach E xs (Err e) w n
emits_refused E i xs x d e w b n is lt h s =
    subst (λ zs. EmitsEach E zs (Err e) w n) (list_at i xs x d is lt) (emits_stop E (take i xs) x (drop (i + 1) xs) e w b n h s)

-- ---- the earlier octets are unchanged

pub octets_extend : (P U : Type 0) (s : List ℕ) (r : Result (Unit {0}) ProtoError) (old new : Writing) → EmitsOctets P U s r old new → Extends old new
octets_extend P U s (Ok u) old new h = record { keeps = h.1.keeps; tail = s; octets = h.1.octets }
octets_extend P U s (Err e) old new h = h.extends

pub rest_extends : (s : List ℕ) (r : Result (Unit {0}) ProtoError) (old new : Writing) → EmitsField Rest s r old new → Extends old new
rest_extends s r old new h = octets_extend (Unit {0}) (true ≡ false) s r old new (rest_emits s r old new h)

pub length_refused : (v : ParameterValue) {e : ProtoError} {old new : Writing} → StoppedField e old (Number 2) 0 new
    → StoppedOctets e old (fits_value v ≡ false) (sized v) new
unfolding field_octets
length_refused v {e} h = record { extends = h.extends; why = because_map e _ _ _ _ (λ r. omega (arith, r.full)) (λ u. absurd (cc (u.unfit))) h.why }

-- a value fails after its length
pub sized_refused : (v : ParameterValue) {e : ProtoError} {old b new : Writing} → AppendedField old (Number 2) 0 b
    → StoppedOctets e b (parameter_emittable v ≡ false) (parameter_octets v) new → StoppedOctets e old (fits_value v ≡ false) (sized v) new
sized_refused v {e} {old} {b} f h =
    let two : length b.octets ≡ length old.octets + 2 = ap length f.field.is.1 ∙ length-append old.octets (bytes_high_first 2 0) in
    record {
      extends = extends_then f h.extends;
      why = because_map e _ _ _ _ (λ r. omega (arith, r, f.keeps.limit, two)) (λ u. rw u (and-false (nat_le (length (parameter_octets v)) 65535))) h.why;
    }

-- ---- lists

abbrev pub EmitsKey : SvcParamKey → Result (Unit {0}) ProtoError → Writing → Writing → Type 0
EmitsKey k r w n = EmitsField (Number 2) (key_number k) r w n

abbrev pub EmitsName : List ℕ → Result (Unit {0}) ProtoError → Writing → Writing → Type 0
EmitsName s r w n = EmitsField CharacterString s r w n

pub keys_emit : (keys : List SvcParamKey) (r : Result (Unit {0}) ProtoError) (w n : Writing) → length keys ≢ 0 → EmitsEach EmitsKey keys r w n
    → EmitsValue (Mandatory (map key_number keys)) r w n
keys_emit keys r w n some h =
    emits_as r w n (λ p. (λ e. some (sym (length-map keys key_number) ∙ ap length e), p)) (λ q. absurd (true≢false (sym (all_pass (map key_number keys)) ∙ q))) refl
    (emits_all key_number (λ n. n < 256 ^ 2) (λ n. true) (bytes_high_first 2) EmitsKey (λ k. number_emits 2 (key_number k)) keys r w n h)

pub names_emit : (names : List (List ℕ)) (r : Result (Unit {0}) ProtoError) (w n : Writing) → length names ≢ 0 → EmitsEach EmitsName names r w n
    → EmitsValue (Alpn names) r w n
names_emit names r w n some h =
    emits_as r w n (λ p. (λ e. some (ap length e), p)) (and_second (is_some names) (list_all (λ s. nat_le (length s) 255) names)) refl
    (rw (map-id names) at (emits_all (λ s. s) (λ s. length s < 256) (λ s. nat_le (length s) 255) string EmitsName text_emits names r w n h))

pub value_extends : (v : ParameterValue) (r : Result (Unit {0}) ProtoError) (old new : Writing) → EmitsValue v r old new → Extends old new
value_extends v r old new h = octets_extend (IsEmittable v) (parameter_emittable v ≡ false) (parameter_octets v) r old new h

split_texts : (a b : Option (List ℕ)) (t : List ℕ) → a ++? b ≡ Some t → (s : List ℕ) × (u : List ℕ) × (a ≡ Some s) × (b ≡ Some u) × (s ++ u ≡ t)
split_texts (Some s) (Some u) t e = (s, u, refl, refl, cc e)
split_texts (Some s) None t e = absurd (cc e)
split_texts None b t e = absurd (cc e)

texts_assoc : (a b c : Option (List ℕ)) → a ++? (b ++? c) ≡ (a ++? b) ++? c
texts_assoc (Some a) (Some b) (Some c) = ap Some (sym (append_assoc a b c))
texts_assoc (Some a) (Some b) None = refl
texts_assoc (Some a) None c = refl
texts_assoc None b c = refl

one_text : (a : Option (List ℕ)) → a ++? (Some (codes ",") ++? Some []) ≡ Some [] ++? (a ++? Some (codes ","))
one_text (Some a) = refl
one_text None = refl

each_push : {T : Type 0} (text : T → Option (List ℕ)) (xs : List T) (x : T)
    → each_text text (xs ++ x ∷ []) ≡ each_text text xs ++? (text x ++? Some (codes ","))
each_push text [] x = one_text (text x)
each_push text (y ∷ ys) x =
    ap (λ (t : Option (List ℕ)). text y ++? (Some (codes ",") ++? t)) (each_push text ys x)
    ∙ ap (λ (t : Option (List ℕ)). text y ++? t) (texts_assoc (Some (codes ",")) (each_text text ys) (text x ++? Some (codes ",")))
    ∙ texts_assoc (text y) (Some (codes ",") ++? each_text text ys) (text x ++? Some (codes ","))

abbrev okay : Unit {0} → Result (Unit {0}) Error
okay u = Ok u

-- some were written, and then one more and a comma
pub texts_more : {T W : Type 0} (took : W → List ℕ → W → Type 0) (text : T → Option (List ℕ)) (i : ℕ) (xs : List T) (x : T) (f g h : Formatter W)
    (u : Unit {0}) → x ≡ get_or xs i x → i < length xs
    → (IsPlainFormatter f → (t : List ℕ) → each_text text (take i xs) ≡ Some t → HasWritten took f t g)
    → DisplaysOnOk took g (okay u) (text x ++? Some (codes ",")) h
    → IsPlainFormatter f → (t : List ℕ) → each_text text (take (i + 1) xs) ≡ Some t → HasWritten took f t h
texts_more took text i xs x f g h u is lt before one plain t e =
    let whole : each_text text (take i xs) ++? (text x ++? Some (codes ",")) ≡ Some t =
    sym (each_push text (take i xs) x) ∙ ap (each_text text) (sym (one_more i xs x x is lt))
    ∙ e in
    let p = split_texts (each_text text (take i xs)) (text x ++? Some (codes ",")) t whole in
    let first : HasWritten took f p.0 g = before plain p.0 p.2 in
    let next : DisplaysOnOk took g (okay u) (Some p.1) h = subst (λ (o : Option (List ℕ)). DisplaysOnOk took g (okay u) o h) p.3 one in
    put_two took f g h p.0 p.1 t first (next first.plain refl) p.4

-- where each text is known
pub each_known : {T : Type 0} (text : T → List ℕ) (xs : List T) → each_text (λ x. Some (text x)) xs ≡ Some (flat_map (λ x. text x ++ codes ",") xs)
each_known text [] = refl
each_known text (x ∷ xs) = ap (λ (t : Option (List ℕ)). Some (text x) ++? (Some (codes ",") ++? t)) (each_known text xs)
    ∙ ap Some (sym (append_assoc (text x) (codes ",") (flat_map (λ x. text x ++ codes ",") xs)))

-- a parameter's octets
abbrev pub spelled : Numbered ParameterValue → List ℕ
spelled x = tlv (as_tlv parameter_octets x)

abbrev pub EmitsOne : Parameter → Result (Unit {0}) ProtoError → Writing → Writing → Type 0
EmitsOne p r w n = EmitsParameter (parameter_of p) r w n

abbrev fits : Numbered ParameterValue → Bool
fits x = fits_value x.1

octets_of : (v : List (Numbered ParameterValue)) → flat_map spelled v ≡ tlvs (parameter_tlvs v)
octets_of v = sym (flat_map-map tlv (as_tlv parameter_octets) v)

-- one more key that rises
pub risen_next : (last : Option ℕ) (i : ℕ) (ps : List Parameter) (p : Parameter) (n : ℕ) → p ≡ get_or ps i p → i < length ps
    → Risen last (map parameter_of (take i ps)) → n ≡ (parameter_of p).0 → IsAbove last n → Risen (Some n) (map parameter_of (take (i + 1) ps))
risen_next last i ps p n is lt r number above =
    rw (one_more i ps p p is lt, map_push, number) (risen_push last (map parameter_of (take i ps)) (parameter_of p) r (subst (IsAbove last) number above))

-- they are emitted as their octets
each_emitted : (ps : List Parameter) (r : Result (Unit {0}) ProtoError) (w n : Writing) → EmitsEach EmitsOne ps r w n
    → EmitsOctets (AllByRecursion ParameterFits (map parameter_of ps)) (list_all fits (map parameter_of ps) ≡ false) (flat_map spelled (map parameter_of ps)) r w n
each_emitted = emits_all parameter_of ParameterFits fits spelled EmitsOne (λ p r w n h. h)

-- all were emitted
pub all_emitted : (ps : List Parameter) (w n : Writing) → EmitsEach EmitsOne ps (Ok tt) w n → Rising (map parameter_of ps)
    → AppendedField w Parameters (map parameter_of ps) n
unfolding field_octets
all_emitted ps w n h r =
    let all = each_emitted ps (Ok tt) w n h in
    record { keeps = all.1.keeps; field = record { is = (all.0, r, all.1.octets ∙ ap (λ (l : List ℕ). w.octets ++ l) (octets_of (map parameter_of ps))) } }

-- one fails
pub one_stopped : (ps : List Parameter) (e : ProtoError) (w n : Writing) → EmitsEach EmitsOne ps (Err e) w n
    → StoppedField e w Parameters (map parameter_of ps) n
unfolding field_octets
one_stopped ps e w n h =
    let all = each_emitted ps (Err e) w n h in
    record {
      extends = all.extends;
      why = because_map e _ _ _ _ (λ r. record { full = omega (arith, r, ap length (octets_of (map parameter_of ps))) })
          (λ u. record { unfit = and_first (list_all fits (map parameter_of ps)) (rising (map parameter_of ps)) u }) all.why;
    }

-- a key does not rise
pub order_stopped : (last : Option ℕ) (i : ℕ) (ps : List Parameter) (p : Parameter) (w b : Writing) → p ≡ get_or ps i p → i < length ps
    → EmitsEach EmitsOne (take i ps) (Ok tt) w b → Risen last (map parameter_of (take i ps)) → (IsAbove last (parameter_of p).0 → ⊥) → (e : ProtoError)
    → Because e ⊥ (Unit {0}) → StoppedField e w Parameters (map parameter_of ps) b
order_stopped last i ps p w b is lt h r fails e why =
    let front = map parameter_of (take i ps) in
    let rest = map parameter_of (drop (i + 1) ps) in
    let split : front ++ parameter_of p ∷ rest ≡ map parameter_of ps = sym (map-append parameter_of (take i ps) (p ∷ drop (i + 1) ps))
    ∙ ap (map parameter_of) (list_at i ps p p is lt) in
    let all = each_emitted (take i ps) (Ok tt) w b h in
    record {
      extends = record { keeps = all.1.keeps; tail = flat_map spelled front; octets = all.1.octets };
      why = because_map e _ _ _ _ (λ (x : ⊥). absurd x)
          (λ u. record {
            unfit = and_second (list_all fits (map parameter_of ps)) (rising (map parameter_of ps))
                (ap rising (sym split) ∙ risen_not last front (parameter_of p) rest r fails);
          }) why;
    }

-- ---- one parameter

pub number_refused : (k : ℕ) (v : ParameterValue) {e : ProtoError} {old new : Writing} → StoppedField e old (Number 2) k new
    → StoppedOctets e old (fits_value v ≡ false) (spelled (k, v)) new
unfolding field_octets
number_refused k v {e} h = record { extends = h.extends; why = because_map e _ _ _ _ (λ r. omega (arith, r.full)) (λ u. absurd (cc (u.unfit))) h.why }
