-- Octets that are, or are not, the value of a service parameter.
use Rattle.std.proofs.Common.{◌≡◌, ◌≢◌, inl, inr, ℕ, zero, suc, ◌+◌, ◌*◌, ◌-◌, ◌%◌, ◌/◌, ◌^◌, ◌<◌, ◌≤◌, Bool, true, false, List, [], ◌∷◌, ◌++◌}
use Rattle.std.proofs.Common.{length, take, drop, get_or, refl, sym, ap, ◌∙◌, arith, subst, append_assoc}
use Rattle.std.proofs.lemmas.List.{length-append, length-take, length-drop, append-nil, take-append-drop, nil_from_length, take_all, get_or-append_right, get_or_past}
use Rattle.std.proofs.{Common.⊎_elim, lemmas.Bool.cases_lt, lemmas.Str.IsUtf8-from_ascii, lemmas.Bool.Decides.nat_tests, lemmas.Grind.common_steps}
use Rattle.std.specs.{Prelude.IsUtf8, List.flat_map, List.AllByRecursion, Int.bytes_high_first}
use Rattle.dns_types.specs.declared.error.DecodeError.{DecodeError}
use Rattle.dns_fields.specs.Tlvs.{string, ParameterValue, ParameterForm, Keys, Names, form_of, Mandatory, Alpn, NoDefaultAlpn, Port, Ipv4Hint, Ipv6Hint}
use Rattle.dns_fields.specs.Tlvs.{Opaque, Nothing, PortNumber, Addresses4, Addresses16, AnyOctets, IsEmittable, IsBody, form_for, ParameterHeld}
use Rattle.dns_fields.specs.Octets.{AreOctets}
use Rattle.dns_fields.proofs.{Numbers.length-bytes, OctetLaws.AreOctets-take, OctetLaws.AreOctets-drop}
use Rattle.dns_rows.specs.Rules.{is_text_key, HasText}
use Rattle.dns_check.specs.ParameterValues.{HasValue, NoValue, HasForm, WrongName, IsFormError, IsKeyError}
use Rattle.dns_check.proofs.{Splits.length_numbers, Splits.string_first, Splits.strings_prefix, Splits.all_behind, Splits.all_append, Numbers.number_of}
use Rattle.dns_check.proofs.Numbers.{NumberOf}

-- octets of which each is below 128 are UTF-8
pub all_ascii : (octets : List ℕ) → ((i : ℕ) → i < length octets → get_or octets i 0 < 128) → IsUtf8 octets
all_ascii octets h = IsUtf8-from_ascii octets (λ i. ⊎_elim (h i) (λ le. subst (λ x. x < 128) (sym (get_or_past octets i 0 le)) (omega arith)) (cases_lt i (length octets)))

-- ---- what is none

pub length_groups : (n : ℕ) (as' : List (List ℕ)) → AllByRecursion (λ a. length a ≡ n) as' → length (flat_map (λ a. a) as') ≡ n * length as'
length_groups n [] h = omega arith
length_groups n (a ∷ as') h = omega (arith, length-append a (flat_map (λ x. x) as'), h.0, length_groups n as' h.1)

pub no_name : (names : List (List ℕ)) → names ≢ [] → [] ≡ flat_map string names → ⊥
no_name [] some e = some refl
no_name (s ∷ ss) some e = let f : [] ≡ length s ∷ (s ++ flat_map string ss) = e in absurd cc

pub truncated_name : (size : ℕ) (octets : List ℕ) (rest : List (List ℕ)) → length octets < size → flat_map string rest ≡ size ∷ octets → ⊥
truncated_name size octets [] truncated e = absurd cc
truncated_name size octets (s ∷ ss) truncated e =
    let f : length s ∷ (s ++ flat_map string ss) ≡ size ∷ octets = e in
    let n : length s ≡ size = cc in
    let t : s ++ flat_map string ss ≡ octets = cc in
    omega (arith, ap length t, length-append s (flat_map string ss), n)

pub wrong_name : (name rest : List ℕ) (names : List (List ℕ)) → (IsUtf8 name → ⊥) → AllByRecursion IsUtf8 names → flat_map string names ≡ string name ++ rest → ⊥
wrong_name name rest [] wrong h e = let f : [] ≡ length name ∷ (name ++ rest) = e in absurd cc
wrong_name name rest (s ∷ ss) wrong h e = wrong (subst IsUtf8 (string_first s name (flat_map string ss) rest e).0 h.0)

pub names_none : (body : List ℕ) (e : DecodeError) (names : List (List ℕ)) → IsFormError Names body e → names ≢ [] → AllByRecursion IsUtf8 names
    → body ≡ flat_map string names → ⊥
names_none body e names (inl h) some texts b = no_name names some (sym h.1 ∙ b)
names_none body e names (inr (inl h)) some texts b =
    let c = h.1 in
    let p = strings_prefix c.names names (c.size ∷ c.octets) (sym b ∙ c.split) in
    truncated_name c.size c.octets p.0 c.truncated p.2
names_none body e names (inr (inr h)) some texts b =
    let c = h.1 in
    let p = strings_prefix c.names names (string c.name ++ c.rest) (sym b ∙ c.split) in
    wrong_name c.name c.rest p.0 c.wrong (all_behind IsUtf8 c.names p.0 (subst (AllByRecursion IsUtf8) p.1 texts)) p.2

pub keys_none : (body : List ℕ) (e : DecodeError) (keys : List ℕ) → IsFormError Keys body e → keys ≢ [] → body ≡ flat_map (bytes_high_first 2) keys → ⊥
keys_none body e [] (inl h) some b = some refl
keys_none body e (k ∷ ks) (inl h) some b = omega (arith, length_numbers (k ∷ ks), ap length b, ap length h.1)
keys_none body e keys (inr h) some b = omega (arith, h.1, length_numbers keys, ap length b)

pub form_none : (form : ParameterForm) (body : List ℕ) (e : DecodeError) → IsFormError form body e → (v : ParameterValue) → form_of v ≡ form → IsEmittable v
    → IsBody body v → ⊥
form_none Keys body e h (Mandatory keys) f s b = keys_none body e keys h s.0 b
form_none Names body e h (Alpn names) f s b = names_none body e names h s.0 b.0 b.1
form_none Nothing body e h NoDefaultAlpn f s b = h.1 b
form_none PortNumber body e h (Port n) f s b = omega (arith, h.1, ap length b.1, length-append (bytes_high_first 2 n) b.0, length-bytes 2 n)
form_none Addresses4 body e h (Ipv4Hint as') f s b = h.1 (omega (arith, ap length b, length_groups 4 as' s))
form_none Addresses16 body e h (Ipv6Hint as') f s b = h.1 (omega (arith, ap length b, length_groups 16 as' s))
form_none AnyOctets body e h v f s b = elim h [ ]
form_none form body e h v f s b = absurd (cc f)

pub text_form : (key : ℕ) → is_text_key key ≡ true → form_for key ≡ AnyOctets
text_form key is = grind (arith, common_steps, nat_tests, is)

pub no_text : (key : ℕ) (body : List ℕ) → is_text_key key ≡ true → (IsUtf8 body → ⊥) → (v : ParameterValue) → ParameterHeld key body v → HasText key v → ⊥
no_text key body is wrong (Opaque s) h text = wrong (subst IsUtf8 (sym h.2) (text is))
no_text key body is wrong v h text = let e : form_of v ≡ AnyOctets = h.0 ∙ text_form key is in absurd (cc e)

-- what is rejected is no value of the key
pub key_none : (key : ℕ) (body : List ℕ) (e : DecodeError) → IsKeyError key body e → NoValue key body
key_none key body e (inl h) = record { none = λ v held text. form_none (form_for key) body e h v held.0 held.1 held.2 }
key_none key body e (inr (is, why, wrong)) = record { none = no_text key body is wrong }

-- ---- what is one

plain_text : (key : ℕ) (v : ParameterValue) → is_text_key key ≡ false → HasText key v
plain_text key v is = λ t. absurd (no_both (is_text_key key) is t)
  where
    no_both : (b : Bool) → b ≡ false → b ≡ true → ⊥
    no_both b f t = absurd cc

pub has_value : (key : ℕ) {body : List ℕ} (form : ParameterForm) → form_for key ≡ form → is_text_key key ≡ false → HasForm form body → HasValue key body
has_value key form is plain h = record {
  value = h.value;
  held = (h.of ∙ sym is, h.emittable, h.body);
  text = plain_text key h.value plain;
}

pub has_text : (key : ℕ) {body : List ℕ} → is_text_key key ≡ true → IsUtf8 body → HasValue key body
has_text key {body} is text = record { value = Opaque body; held = (sym (text_form key is), tt, refl); text = λ t. text }

pub has_octets : (key : ℕ) {body : List ℕ} → form_for key ≡ AnyOctets → is_text_key key ≡ false → HasValue key body
has_octets key {body} is plain = record { value = Opaque body; held = (sym is, tt, refl); text = plain_text key (Opaque body) plain }

-- numbers of two octets

record Numbers (body : List ℕ) : Type 0 where
  numbers : List ℕ
  small : AllByRecursion (λ k. k < 256 ^ 2) numbers
  same : body ≡ flat_map (bytes_high_first 2) numbers

two_of : (s : List ℕ) → length s ≡ 2 → NumberOf s → (n : ℕ) × (n < 256 ^ 2) × (s ≡ bytes_high_first 2 n)
two_of s l n = (
  n.number,
  subst (λ (k : ℕ). n.number < 256 ^ k) l n.small,
  sym (subst (λ (k : ℕ). bytes_high_first k n.number ≡ s) l n.same),
)

numbers_in : (n : ℕ) (body : List ℕ) → length body ≡ 2 * n → AreOctets body → Numbers body
numbers_in zero body l o = record { numbers = []; small = tt; same = nil_from_length body (omega (arith, l)) }
numbers_in (suc n) body l o =
    let first : length (take 2 body) ≡ 2 = omega (arith, l, length-take 2 body) in
    let x = two_of (take 2 body) first (number_of (take 2 body) (AreOctets-take 2 body o)) in
    let r = numbers_in n (drop 2 body) (omega (arith, l, length-drop 2 body)) (AreOctets-drop 2 body o) in
    record {
      numbers = x.0 ∷ r.numbers;
      small = (x.1, r.small);
      same = sym (take-append-drop 2 body) ∙ ap (λ (s : List ℕ). s ++ drop 2 body) x.2 ∙ ap (λ (s : List ℕ). bytes_high_first 2 x.0 ++ s) r.same;
    }

pub keys_form : {body : List ℕ} → AreOctets body → 0 < length body → length body % 2 ≡ 0 → HasForm Keys body
keys_form {body} o some even =
    let n = numbers_in (length body / 2) body (omega (arith, even)) o in
    record {
      value = Mandatory n.numbers;
      of = refl;
      emittable = (λ e. omega (arith, some, ap length (n.same ∙ ap (flat_map (bytes_high_first 2)) e)), n.small);
      body = n.same;
    }

pub port_form : {body : List ℕ} → AreOctets body → 2 ≤ length body → HasForm PortNumber body
port_form {body} o long =
    let first : length (take 2 body) ≡ 2 = omega (arith, long, length-take 2 body) in
    let x = two_of (take 2 body) first (number_of (take 2 body) (AreOctets-take 2 body o)) in
    record {
      value = Port x.0;
      of = refl;
      emittable = x.1;
      body = (drop 2 body, sym (take-append-drop 2 body) ∙ ap (λ (s : List ℕ). s ++ drop 2 body) x.2);
    }

-- groups of octets

record Groups (w : ℕ) (body : List ℕ) : Type 0 where
  groups : List (List ℕ)
  long : AllByRecursion (λ a. length a ≡ w) groups
  same : body ≡ flat_map (λ a. a) groups

groups_in : (w n : ℕ) (body : List ℕ) → length body ≡ w * n → Groups w body
groups_in w zero body l = record { groups = []; long = tt; same = nil_from_length body (omega (arith, l)) }
groups_in w (suc n) body l =
    let first : length (take w body) ≡ w = omega (arith, l, length-take w body) in
    let r = groups_in w n (drop w body) (omega (arith, l, length-drop w body)) in
    record {
      groups = take w body ∷ r.groups;
      long = (first, r.long);
      same = sym (take-append-drop w body) ∙ ap (λ (s : List ℕ). take w body ++ s) r.same;
    }

pub four_form : {body : List ℕ} → length body % 4 ≡ 0 → HasForm Addresses4 body
four_form {body} even =
    let g = groups_in 4 (length body / 4) body (omega (arith, even)) in
    record { value = Ipv4Hint g.groups; of = refl; emittable = g.long; body = g.same }

pub sixteen_form : {body : List ℕ} → length body % 16 ≡ 0 → HasForm Addresses16 body
sixteen_form {body} even =
    let g = groups_in 16 (length body / 16) body (omega (arith, even)) in
    record { value = Ipv6Hint g.groups; of = refl; emittable = g.long; body = g.same }

pub none_form : {body : List ℕ} → length body ≡ 0 → HasForm Nothing body
none_form {body} e = record { value = NoDefaultAlpn; of = refl; emittable = tt; body = nil_from_length body e }

-- ---- names of protocols

-- names that are UTF-8 were taken, and the rest is left
pub record LeftNames (octets rest : List ℕ) : Type 0 where
  pub names : List (List ℕ)
  pub short : AllByRecursion (λ s. length s < 256) names
  pub texts : AllByRecursion IsUtf8 names
  pub front : octets ≡ flat_map string names ++ rest

pub names_all : (octets : List ℕ) → LeftNames octets octets
names_all octets = record { names = []; short = tt; texts = tt; front = refl }

split_first : (n : ℕ) (rest : List ℕ) → 0 < length rest → get_or rest 0 0 ≡ n → n ≤ length rest - 1 → rest ≡ string (take n (drop 1 rest)) ++ drop (1 + n) rest
split_first n [] h e l = absurd (omega arith)
split_first n (x ∷ xs) h e l =
    let m : length (take n xs) ≡ n = omega (arith, length-take n xs, l) in
    let one : 1 + n ≡ suc n = omega arith in
    rw (one, m, ← e) (ap (λ (s : List ℕ). x ∷ s) (sym (take-append-drop x xs)))

push_short : (names : List (List ℕ)) (s : List ℕ) → AllByRecursion (λ s. length s < 256) names → length s < 256
    → AllByRecursion (λ s. length s < 256) (names ++ s ∷ [])
push_short names s f h = all_append (λ s. length s < 256) names (s ∷ []) f (h, tt)

joined : (xs : List (List ℕ)) (s : List ℕ) → flat_map string (xs ++ s ∷ []) ≡ flat_map string xs ++ string s
joined [] s = append-nil (string s)
joined (x ∷ xs) s = ap (λ (t : List ℕ). string x ++ t) (joined xs s) ∙ sym (append_assoc (string x) (flat_map string xs) (string s))

octet_left : {octets rest : List ℕ} → LeftNames octets rest → ((i : ℕ) → get_or octets i 0 < 256) → get_or rest 0 0 < 256
octet_left {octets} {rest} f small =
    let x = flat_map string f.names in
    let none : length x - length x ≡ 0 = omega arith in
    let here : get_or octets (length x) 0 ≡ get_or rest 0 0 = ap (λ (s : List ℕ). get_or s (length x) 0) f.front
    ∙ get_or-append_right x rest (length x) (length x) 0 refl (omega arith) ∙ rw none refl in
    omega (arith, small (length x), here)

-- one name more
pub names_more : {octets rest : List ℕ} {n : ℕ} → LeftNames octets rest → 0 < length rest → get_or rest 0 0 ≡ n → n ≤ length rest - 1
    → IsUtf8 (take (1 + n - 1) (drop 1 rest)) → ((i : ℕ) → get_or octets i 0 < 256)
    → LeftNames octets (take (length rest - (1 + n)) (drop (1 + n) rest))
names_more {octets} {rest} {n} f some count room text small =
    let size : 1 + n - 1 ≡ n = omega arith in
    let s = take n (drop 1 rest) in
    let k = split_first n rest some count room in
    let all : take (length rest - (1 + n)) (drop (1 + n) rest) ≡ drop (1 + n) rest =
    take_all (length rest - (1 + n)) (drop (1 + n) rest) (omega (arith, length-drop (1 + n) rest)) in
    rw all (record {
      names = f.names ++ s ∷ [];
      short = push_short f.names s f.short (omega (arith, octet_left f small, count, length-take n (drop 1 rest)));
      texts = all_append IsUtf8 f.names (s ∷ []) f.texts (subst (λ (i : ℕ). IsUtf8 (take i (drop 1 rest))) size text, tt);
      front = f.front ∙ ap (λ (t : List ℕ). flat_map string f.names ++ t) k
          ∙ sym (append_assoc (flat_map string f.names) (string s) (drop (1 + n) rest)) ∙ ap (λ (t : List ℕ). t ++ drop (1 + n) rest) (sym (joined f.names s));
    })

-- a name that has fewer octets than its length says
head_first : (rest : List ℕ) → 0 < length rest → rest ≡ get_or rest 0 0 ∷ drop 1 rest
head_first [] h = absurd (omega arith)
head_first (x ∷ xs) h = refl

-- a name that is not UTF-8
pub names_wrong : {octets rest : List ℕ} {n : ℕ} → LeftNames octets rest → 0 < length rest → get_or rest 0 0 ≡ n → n ≤ length rest - 1
    → (IsUtf8 (take (1 + n - 1) (drop 1 rest)) → ⊥) → WrongName octets
names_wrong {octets} {rest} {n} f some count room wrong =
    let size : 1 + n - 1 ≡ n = omega arith in
    record {
      names = f.names;
      name = take n (drop 1 rest);
      rest = drop (1 + n) rest;
      split = f.front ∙ ap (λ (t : List ℕ). flat_map string f.names ++ t) (split_first n rest some count room);
      texts = f.texts;
      wrong = λ t. wrong (subst (λ (i : ℕ). IsUtf8 (take i (drop 1 rest))) (sym size) t);
    }

pub names_done : {octets rest : List ℕ} → LeftNames octets rest → length rest ≡ 0 → 0 < length octets → HasForm Names octets
names_done {octets} {rest} f none some =
    let same : octets ≡ flat_map string f.names = f.front ∙ ap (λ (t : List ℕ). flat_map string f.names ++ t) (nil_from_length rest none)
    ∙ append-nil (flat_map string f.names) in
    record {
      value = Alpn f.names;
      of = refl;
      emittable = (λ e. omega (arith, some, ap length (same ∙ ap (flat_map string) e)), f.short);
      body = (f.texts, same);
    }

-- ---- by the number of a key

pub value_at : {key : ℕ} (k : ℕ) {body : List ℕ} (form : ParameterForm) → key ≡ k → form_for k ≡ form → is_text_key k ≡ false → HasForm form body
    → HasValue key body
value_at {key} k {body} form e is plain h = subst (λ (n : ℕ). HasValue n body) (sym e) (has_value k form is plain h)

pub text_at : {key : ℕ} {body : List ℕ} → key ≡ 7 → IsUtf8 body → HasValue key body
text_at {key} {body} e text = subst (λ (n : ℕ). HasValue n body) (sym e) (has_text 7 refl text)

any_form : (key : ℕ) → key ≢ 0 → key ≢ 1 → key ≢ 2 → key ≢ 3 → key ≢ 4 → key ≢ 6 → form_for key ≡ AnyOctets
any_form key a b c d e f = grind (arith, common_steps, nat_tests)

not_text : (key : ℕ) → key ≢ 7 → is_text_key key ≡ false
not_text key h = grind (arith, nat_tests)

pub any_at : {key : ℕ} {body : List ℕ} → key ≢ 0 → key ≢ 1 → key ≢ 2 → key ≢ 3 → key ≢ 4 → key ≢ 6 → key ≢ 7 → HasValue key body
any_at {key} a b c d e f g = has_octets key (any_form key a b c d e f) (not_text key g)
