-- The grammar of issuer parameters: at most one list of parameters, read from the front.
use Rattle.std.proofs.Common.{◌≡◌, ℕ, Bool, true, false, not, ◌⊎◌, inl, inr, List, [], ◌∷◌, ◌++◌, refl, ap, sym, subst, ◌∙◌, arith, append_assoc}
use Rattle.std.proofs.Common.{length-append, ◌==◌, ◌<◌, ◌≤◌, length}
use Rattle.std.proofs.lemmas.{Bool.or_left, Bool.and_from, Bool.and_parts, Bool.Decides.nat_tests, Str.IsUtf8-from_ascii, Str.Ascii.IsAscii-from_all}
use Rattle.std.proofs.lemmas.List.{append-nil, Elements.All-weaker, Sums.AllPass-from_list_all, Sums.list_all-from_AllPass, Folds.list_all-append}
use Rattle.std.specs.{Str.IsUtf8, Char.is_ascii_alphanumeric, List.list_all}
use Rattle.dns_tokens.specs.Octets.{AllOf, BeginsOtherwise, Span}
use Rattle.dns_tokens.proofs.SpanSteps.{split_once}
use Rattle.dns_rdata_policy.specs.Issuer.{Parameter, is_blank, is_no_semicolon, is_key_octet, is_value_octet, IsKey}
use Rattle.dns_rdata_policy.specs.Issuer.{IsParameter, parameter_octets, AreParameters}
use Rattle.dns_types.specs.declared.error.ProtoError.TheVariants as proto

-- ---- octets that are cut at the first one that fails a test

pub all_parts : (p : ℕ → Bool) (x : ℕ) (xs : List ℕ) → AllOf p (x ∷ xs) → (p x ≡ true) × AllOf p xs
all_parts p x xs h = and_parts (p x) (list_all p xs) h

pub all_cons : (p : ℕ → Bool) (x : ℕ) (xs : List ℕ) → p x ≡ true → AllOf p xs → AllOf p (x ∷ xs)
all_cons p x xs a b = and_from (p x) (list_all p xs) a b

pub all_append : (p : ℕ → Bool) (xs ys : List ℕ) → AllOf p xs → AllOf p ys → AllOf p (xs ++ ys)
all_append p xs ys a b = list_all-append p xs ys ∙ and_from (list_all p xs) (list_all p ys) a b

pub all_halves : (p : ℕ → Bool) (xs ys : List ℕ) → AllOf p (xs ++ ys) → AllOf p xs × AllOf p ys
all_halves p xs ys a = and_parts (list_all p xs) (list_all p ys) (sym (list_all-append p xs ys) ∙ a)

pub all_weaker : (p q : ℕ → Bool) → ((c : ℕ) → p c ≡ true → q c ≡ true) → (xs : List ℕ) → AllOf p xs → AllOf q xs
all_weaker p q f xs h = list_all-from_AllPass q xs (All-weaker (λ c. p c ≡ true) (λ c. q c ≡ true) f xs (AllPass-from_list_all p xs h))

-- ---- octets of keys and values

abbrev pub is_no_equals : ℕ → Bool
is_no_equals c = not (c == 61)

-- letters and digits are octets of keys, too
key_octets : (key : List ℕ) → IsKey key → AllOf is_key_octet key
key_octets [] h = absurd h
key_octets (c ∷ []) h = all_cons is_key_octet c [] (or_left (is_ascii_alphanumeric c) (c == 45) h) refl
key_octets (c ∷ d ∷ key) h = all_cons is_key_octet c (d ∷ key) (or_left (is_ascii_alphanumeric c) (c == 45) h.0)
    (all_cons is_key_octet d key (or_left (is_ascii_alphanumeric d) (d == 45) h.1) h.2)

key_all : (p : ℕ → Bool) → ((c : ℕ) → is_key_octet c ≡ true → p c ≡ true) → (key : List ℕ) → IsKey key → AllOf p key
key_all p f key h = all_weaker is_key_octet p f key (key_octets key h)

-- ---- one parameter

-- it begins with no blank
starts : (x : Parameter) (rest : List ℕ) → IsKey x.key → BeginsOtherwise is_blank (parameter_octets x ++ rest)
starts x rest h = by_key x.key x.value h where
  by_key : (key value : List ℕ) → IsKey key → BeginsOtherwise is_blank ((key ++ 61 ∷ value) ++ rest)
  by_key [] value h = absurd h
  by_key (c ∷ key) value h = grind (arith, nat_tests, (all_parts is_key_octet c key (key_octets (c ∷ key) h)).0)

-- it has octets
long : (x : Parameter) (rest : List ℕ) → 0 < length (parameter_octets x ++ rest)
long x rest = omega (arith, length-append (parameter_octets x) rest, length-append x.key (61 ∷ x.value))

-- it has no semicolon
no_semicolon : (x : Parameter) → IsParameter x → AllOf is_no_semicolon (parameter_octets x)
no_semicolon x h =
    all_append is_no_semicolon x.key (61 ∷ x.value) (key_all is_no_semicolon (λ c k. grind (arith, nat_tests)) x.key h.key)
    (all_cons is_no_semicolon 61 x.value refl (all_weaker is_value_octet is_no_semicolon (λ c k. grind (arith, nat_tests)) x.value h.value))

no_equals : (x : Parameter) → IsKey x.key → AllOf is_no_equals x.key
no_equals x h = key_all is_no_equals (λ c k. grind (arith, nat_tests)) x.key h

-- it is cut at its first equals sign
pub parameter_cut : (octets key rest : List ℕ) (x : Parameter) → Span is_no_equals key octets rest → octets ≡ parameter_octets x → IsParameter x
    → (key ≡ x.key) × (rest ≡ 61 ∷ x.value)
parameter_cut octets key rest x s e h = split_once is_no_equals key rest x.key (61 ∷ x.value) (sym s.cut ∙ e) s.each s.ends
    (no_equals x h.key) refl

parameter_same : (x y : Parameter) → IsParameter x → IsParameter y → parameter_octets x ≡ parameter_octets y → x ≡ y
parameter_same x y a b e =
    let p = parameter_cut (parameter_octets x) x.key (61 ∷ x.value) y (record { cut = refl; each = no_equals x a.key; ends = refl }) e b in
    let v : x.value ≡ y.value = let t = p.1 in cc in
    ap (λ (k : List ℕ). record x { key = k }) p.0 ∙ ap (λ (w : List ℕ). record { key = y.key; value = w }) v

-- ---- parameters

-- blanks in front change nothing
pub blanks_before : (front rest : List ℕ) (xs : List Parameter) → AllOf is_blank front → AreParameters rest xs → AreParameters (front ++ rest) xs
blanks_before front rest [] b h = all_append is_blank front rest b h
blanks_before front rest (x ∷ xs) b h =
    let whole = ap (λ (l : List ℕ). front ++ l) h.2 ∙ sym (append_assoc front h.0 (parameter_octets x ++ h.1)) in
    (front ++ h.0, h.1, whole, all_append is_blank front h.0 b h.3, h.4, h.5)

-- a blank in front
blank_off : (c : ℕ) (rest : List ℕ) (xs : List Parameter) → is_blank c ≡ true → AreParameters (c ∷ rest) xs → AreParameters rest xs
blank_off c rest [] b h = (all_parts is_blank c rest h).1
blank_off c rest (x ∷ xs) b ([], behind, e, blanks, is, more) =
    let s : BeginsOtherwise is_blank (c ∷ rest) = subst (λ (l : List ℕ). BeginsOtherwise is_blank l) (sym e) (starts x behind is.key) in
    cc
blank_off c rest (x ∷ xs) b (d ∷ blanks, behind, e, all, is, more) =
    let t : rest ≡ blanks ++ (parameter_octets x ++ behind) = cc in
    (blanks, behind, t, (all_parts is_blank d blanks all).1, is, more)

pub blanks_behind : (front rest : List ℕ) (xs : List Parameter) → AllOf is_blank front → AreParameters (front ++ rest) xs → AreParameters rest xs
blanks_behind [] rest xs b h = h
blanks_behind (c ∷ front) rest xs b h = let p = all_parts is_blank c front b in blanks_behind front rest xs p.1 (blank_off c (front ++ rest) xs p.0 h)

-- what follows a parameter in the grammar
abbrev pub Follow : List ℕ → List Parameter → Type 0
Follow behind xs = ((behind ≡ []) × (xs ≡ [])) ⊎ ((more : List ℕ) × (behind ≡ 59 ∷ more) × AreParameters more xs)

-- may stand alone
pub follow_alone : (behind : List ℕ) (xs : List Parameter) → Follow behind xs → AreParameters behind xs
follow_alone behind xs (inl h) = rw (h.0, h.1) refl
follow_alone behind xs (inr h) = subst (λ (l : List ℕ). AreParameters l xs) (sym h.1) (blanks_before (59 ∷ []) h.0 xs refl h.2)

pub alone_follow : (behind : List ℕ) (xs : List Parameter) → BeginsOtherwise is_no_semicolon behind → AreParameters behind xs → Follow behind xs
alone_follow [] [] s h = inl (refl, refl)
alone_follow [] (x ∷ xs) s h = absurd (omega (arith, long x h.1, ap length h.2, length-append h.0 (parameter_octets x ++ h.1)))
alone_follow (c ∷ more) xs s h =
    let e : c ≡ 59 = grind (arith, nat_tests) in
    let b : is_blank c ≡ true = ap is_blank e in
    inr (more, ap (λ (d : ℕ). d ∷ more) e, blank_off c more xs b h)

pub follow_stops : (behind : List ℕ) (xs : List Parameter) → Follow behind xs → BeginsOtherwise is_no_semicolon behind
follow_stops behind xs (inl h) = rw h.0 tt
follow_stops behind xs (inr h) = rw h.1 refl

no_blanks : (octets : List ℕ) → 0 < length octets → BeginsOtherwise is_blank octets → AllOf is_blank octets → ⊥
no_blanks [] some s h = omega (arith, some)
no_blanks (c ∷ rest) some s h = let k = (all_parts is_blank c rest h).0 in cc

-- the first of parameters that begin with no blank
first_parameter : (octets front behind : List ℕ) (ys : List Parameter) → 0 < length octets → BeginsOtherwise is_blank octets
    → Span is_no_semicolon front octets behind → AreParameters octets ys
    → (y : Parameter) × (xs : List Parameter) × (ys ≡ y ∷ xs) × (front ≡ parameter_octets y) × IsParameter y × AreParameters behind xs
first_parameter octets front behind [] some s t h = absurd (no_blanks octets some s h)
first_parameter octets front behind (y ∷ xs) some s t ([], after, e, blanks, is, more) =
    let p = split_once is_no_semicolon front behind (parameter_octets y) after (sym t.cut ∙ e) t.each t.ends (no_semicolon y is)
    (follow_stops after xs more) in
    (y, xs, refl, p.0, is, subst (λ (l : List ℕ). AreParameters l xs) (sym p.1) (follow_alone after xs more))
first_parameter octets front behind (y ∷ xs) some s t (d ∷ b, after, e, blanks, is, more) =
    let k : is_blank d ≡ true = (all_parts is_blank d b blanks).0 in
    let l : is_blank d ≡ false = subst (λ (l : List ℕ). BeginsOtherwise is_blank l) e s in
    cc

-- ---- reading them one by one

-- what was read, and what is still to be read
pub record Pending (octets : List ℕ) (read : List Parameter) (rest : List ℕ) : Type 0 where
  pub starts : BeginsOtherwise is_blank rest
  pub sound : (xs : List Parameter) → AreParameters rest xs → AreParameters octets (read ++ xs)
  pub complete : (ys : List Parameter) → AreParameters octets ys → (xs : List Parameter) × (ys ≡ read ++ xs) × AreParameters rest xs

pub pending_first : (octets front rest : List ℕ) → Span is_blank front octets rest → Pending octets [] rest
pending_first octets front rest s = record {
  starts = s.ends;
  sound = λ xs h. subst (λ (l : List ℕ). AreParameters l xs) (sym s.cut) (blanks_before front rest xs s.each h);
  complete = λ ys h. (ys, refl, blanks_behind front rest ys s.each (subst (λ (l : List ℕ). AreParameters l ys) s.cut h));
}

pub pending_step : (octets : List ℕ) (read more : List Parameter) (now front behind blanks rest : List ℕ) (x : Parameter) → Pending octets read now
    → 0 < length now → Span is_no_semicolon front now behind → (front ≡ parameter_octets x) × IsParameter x
    → Span is_blank blanks behind rest → more ≡ read ++ x ∷ [] → Pending octets more rest
pending_step octets read more now front behind blanks rest x p some t is s e = rw e (record {
  starts = s.ends;
  sound = λ xs h.
      let b : AreParameters behind xs = subst (λ (l : List ℕ). AreParameters l xs) (sym s.cut) (blanks_before blanks rest xs s.each h) in
      subst (λ (l : List Parameter). AreParameters octets l) (sym (append_assoc read (x ∷ []) xs))
      (p.sound (x ∷ xs) ([], behind, t.cut ∙ ap (λ (l : List ℕ). l ++ behind) is.0, refl, is.1, alone_follow behind xs t.ends b));
  complete = λ ys h.
      let k = p.complete ys h in
      let f = first_parameter now front behind k.0 some p.starts t k.2 in
      let same : f.0 ≡ x = parameter_same f.0 x f.4 is.1 (sym f.3 ∙ is.0) in
      let whole = k.1 ∙ ap (λ (l : List Parameter). read ++ l) (f.2 ∙ ap (λ (z : Parameter). z ∷ f.1) same) ∙ sym (append_assoc read (x ∷ []) f.1) in
      (f.1, whole, blanks_behind blanks rest f.1 s.each (subst (λ (l : List ℕ). AreParameters l f.1) s.cut f.5));
})

pub pending_last : (octets : List ℕ) (read : List Parameter) (rest : List ℕ) → Pending octets read rest → length rest ≤ 0 → AreParameters octets read
pending_last octets read [] p e = subst (λ (l : List Parameter). AreParameters octets l) (append-nil read) (p.sound [] refl)
pending_last octets read (c ∷ rest) p e = absurd (omega (arith, e))

pub pending_stop : (octets : List ℕ) (read : List Parameter) (now front behind : List ℕ) → Pending octets read now → 0 < length now
    → Span is_no_semicolon front now behind → ((x : Parameter) → front ≡ parameter_octets x → IsParameter x → ⊥)
    → (ys : List Parameter) → AreParameters octets ys → ⊥
pending_stop octets read now front behind p some t none ys h =
    let k = p.complete ys h in
    let f = first_parameter now front behind k.0 some p.starts t k.2 in
    none f.0 f.3 f.4

-- ---- at most one list

pub one_list : (octets : List ℕ) (xs ys : List Parameter) → AreParameters octets xs → AreParameters octets ys → xs ≡ ys
one_list octets [] [] h k = refl
one_list octets [] (y ∷ ys) h k =
    absurd (no_blanks (parameter_octets y ++ k.1) (long y k.1) (starts y k.1 k.4.key)
    (all_halves is_blank k.0 (parameter_octets y ++ k.1) (subst (λ (l : List ℕ). AllOf is_blank l) k.2 h)).1)
one_list octets (x ∷ xs) ys h k =
    let f = first_parameter (parameter_octets x ++ h.1) (parameter_octets x) h.1 ys (long x h.1) (starts x h.1 h.4.key)
    (record { cut = refl; each = no_semicolon x h.4; ends = follow_stops h.1 xs h.5 })
    (blanks_behind h.0 (parameter_octets x ++ h.1) ys h.3 (subst (λ (l : List ℕ). AreParameters l ys) h.2 k)) in
    ap (λ (z : Parameter). z ∷ xs) (parameter_same x f.0 h.4 f.4 f.3)
    ∙ ap (λ (l : List Parameter). f.0 ∷ l) (one_list h.1 xs f.1 (follow_alone h.1 xs h.5) f.5) ∙ sym f.2

-- ---- texts

utf8 : (p : ℕ → Bool) → ((c : ℕ) → p c ≡ true → c < 128) → (octets : List ℕ) → AllOf p octets → IsUtf8 octets
utf8 p f octets h = IsUtf8-from_ascii octets (IsAscii-from_all octets (All-weaker (λ c. p c ≡ true) (λ c. c < 128) f octets (AllPass-from_list_all p octets h)))

pub key_utf8 : (key : List ℕ) → IsKey key → IsUtf8 key
key_utf8 key h = utf8 is_key_octet (λ c k. grind (arith, nat_tests)) key (key_octets key h)

pub value_utf8 : (value : List ℕ) → AllOf is_value_octet value → IsUtf8 value
value_utf8 value h = utf8 is_value_octet (λ c k. grind (arith, nat_tests)) value h

-- a key, an equals sign and a value that were cut
pub parameter_read : (octets key rest : List ℕ) (first : ℕ) (value : List ℕ) {x : Parameter} → Span is_no_equals key octets rest → rest ≡ first ∷ value
    → IsKey key → AllOf is_value_octet value → x.key ≡ key → x.value ≡ value → (octets ≡ parameter_octets x) × IsParameter x
parameter_read octets key rest first value {x} s e is-key is-value a b =
    let stop : is_no_equals first ≡ false = subst (λ (l : List ℕ). BeginsOtherwise is_no_equals l) e s.ends in
    let sign : first ≡ 61 = grind (arith, nat_tests, stop) in
    let text : octets ≡ key ++ 61 ∷ value = s.cut ∙ ap (λ (l : List ℕ). key ++ l) (e ∙ ap (λ (d : ℕ). d ∷ value) sign) in (
      text ∙ ap (λ (k : List ℕ). k ++ 61 ∷ value) (sym a) ∙ ap (λ (v : List ℕ). x.key ++ 61 ∷ v) (sym b),
      record { key = subst (λ (k : List ℕ). IsKey k) (sym a) is-key; value = subst (λ (v : List ℕ). AllOf is_value_octet v) (sym b) is-value },
    )
