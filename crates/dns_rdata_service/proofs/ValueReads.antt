-- Reading values to the end of a message.
use Rattle.std.proofs.Common.{◌≡◌, ℕ, ◌%◌, ◌<◌, ◌≤◌, ◌^◌, inl, inr, List, [], ◌∷◌, ◌++◌, length, drop, map, refl, ap, ◌∙◌, arith, subst, ◌*◌, Ok}
use Rattle.std.proofs.lemmas.List.{drop_all, length-append, length-drop, map-id, append-nil, length-take}
use Rattle.std.proofs.Common.{sym, append_assoc, true, false, ◌+◌, take, Result, Err}
use Rattle.std.specs.{Prelude.IsUtf8, Prelude.IfOk, Prelude.IfErr, List.flat_map, List.AllByRecursion, Int.bytes_high_first}
use Rattle.dns_types.specs.{declared.error.DecodeError.DecodeError, declared.error.ProtoError.ProtoError}
use Rattle.dns_fields.specs.Tlvs.{string, ParameterValue, ParameterForm, Keys, Names, form_of, Mandatory, Alpn, NoDefaultAlpn, Port, Ipv4Hint, Ipv6Hint}
use Rattle.dns_fields.specs.Tlvs.{Nothing, PortNumber, Addresses4, Addresses16, AnyOctets, IsEmittable, IsBody, form_for, ParameterHeld}
use Rattle.dns_fields.specs.{declared.Kind.TheVariants.CharacterString, Fields.Field, declared.Kind.TheVariants.Octets, Fields.Stands, Fields.field_octets}
use Rattle.dns_fields.specs.{Octets.At, Octets.AreOctets}
use Rattle.dns_names_wire.specs.Terms.{TookField, StaysBehind, UnlessMemory, LacksOctets, LacksText, Emits, EmitsOctets}
use Rattle.dns_names_wire.specs.State.{Reading, Writing}
use Rattle.dns_names_wire.proofs.{FieldReads.stays, FieldReads.unless_map, FieldReads.unless_all, FieldWrites.because_map}
use Rattle.dns_rdata_base.specs.Numbered.{NumberedAt}
use Rattle.dns_rdata_service.specs.SvcParamValue.{mandatory_value, alpn_value, AreGiven, ToEnd, MandatoryAt, AlpnAt, TruncatedName, WrongName}
use Rattle.dns_rdata_service.specs.SvcParamValue.{IsValueError, IsFormError}
use Rattle.dns_rdata_service.specs.{Hints.StandEach, Hints.StandToEnd, Hints.ReadsEach, Hints.EmitsEach, declared.svcb.ip_hint.IpHint.IpHint}
use Rattle.dns_rdata_service.specs.{declared.svcb.mandatory.Mandatory.Mandatory as MandatoryKeys, SvcParamKey.key_number, SvcParamKey.key_of}
use Rattle.dns_rdata_service.specs.{declared.svcb.key.SvcParamKey.SvcParamKey, declared.svcb.alpn.Alpn.Alpn as Protocols}
use Rattle.dns_rdata_service.proofs.Splits.{octet_split}
use Rattle.dns_check.proofs.Splits.{at_split, length_numbers, stays_then}
use Rattle.dns_rdata_service.proofs.EachEmits.{emits_all, emits_as, all_pass}
use Rattle.dns_fields.proofs.{Numbers.length-bytes}
use Rattle.dns_types.specs.declared.error.DecodeError.TheVariants as decode
use Rattle.dns_check.proofs.ParameterSteps.{stand_push}
use Rattle.dns_check.proofs.ValueForms.{length_groups, names_none, keys_none}

pub record EachOn {T : Type 0} (S : List ℕ → ℕ → T → ℕ → Type 0) (old : Reading) (items : List T) (d : Reading) : Type 0 where
  pub behind : StaysBehind old d
  pub stand : StandEach S old.message old.index items d.index

pub each_more : {T : Type 0} (S : List ℕ → ℕ → T → ℕ → Type 0) {old d b : Reading} {items : List T} {x : T} → EachOn S old items d → StaysBehind d b
    → S d.message d.index x b.index → EachOn S old (items ++ x ∷ []) b
each_more S {old} {d} {b} {items} {x} on f s =
    record {
      behind = stays_then on.behind f;
      stand = stand_push S old.message old.index items d.index x b.index on.stand
          (subst (λ (m : List ℕ). S m d.index x b.index) on.behind.message s);
    }

-- the octets of what is encoded, under a view, and a fact of each
pub record AreSplit {X Y : Type 0} (view : X → Y) (octets : Y → List ℕ) (P : Y → Type 0) (m : List ℕ) (p : ℕ) (items : List X) (q : ℕ) : Type 0 where
  pub split : drop p m ≡ flat_map octets (map view items) ++ drop q m
  pub all : AllByRecursion P (map view items)

pub each_split : {X Y : Type 0} (view : X → Y) (octets : Y → List ℕ) (P : Y → Type 0) (S : List ℕ → ℕ → X → ℕ → Type 0) (m : List ℕ)
    → ((p : ℕ) (x : X) (q : ℕ) → S m p x q → P (view x) × At m p (octets (view x)) q) → (p : ℕ) (items : List X) (q : ℕ) → StandEach S m p items q
    → AreSplit view octets P m p items q
each_split view octets P S m one p [] q e = record { split = ap (λ (k : ℕ). drop k m) e; all = tt }
each_split view octets P S m one p (x ∷ xs) q s =
    let here = one p x s.0 s.1 in
    let rest = each_split view octets P S m one s.0 xs q s.2 in
    record {
      split = at_split here.1 ∙ ap (λ (l : List ℕ). octets (view x) ++ l) rest.split
          ∙ sym (append_assoc (octets (view x)) (flat_map octets (map view xs)) (drop q m));
      all = (here.0, rest.all);
    }

-- what is encoded to the end is all octets
pub to_end : (m : List ℕ) (p q : ℕ) (s : List ℕ) → length m ≤ q → drop p m ≡ s ++ drop q m → drop p m ≡ s
to_end m p q s le e = e ∙ ap (λ (l : List ℕ). s ++ l) (drop_all q m le) ∙ append-nil s

-- no value of the form is in the octets
pub record HoldsNone (form : ParameterForm) (body : List ℕ) : Type 0 where
  pub none : (v : ParameterValue) → form_of v ≡ form → IsEmittable v → IsBody body v → ⊥

refused_none : (form : ParameterForm) (body : List ℕ) (e : DecodeError) → IsFormError form body e → (v : ParameterValue) → form_of v ≡ form → IsEmittable v
    → IsBody body v → ⊥
refused_none Keys body e h (Mandatory keys) f s b = keys_none body e keys h s.0 b
refused_none Names body e h (Alpn names) f s b = names_none body e names h s.0 b.0 b.1
refused_none Nothing body e h NoDefaultAlpn f s b = h.1 b
refused_none PortNumber body e h (Port n) f s b = omega (arith, h.1, ap length b.1, length-append (bytes_high_first 2 n) b.0, length-bytes 2 n)
refused_none Addresses4 body e h (Ipv4Hint as') f s b = h.1 (omega (arith, ap length b, length_groups 4 as' s))
refused_none Addresses16 body e h (Ipv6Hint as') f s b = h.1 (omega (arith, ap length b, length_groups 16 as' s))
refused_none AnyOctets body e h v f s b = elim h [ ]
refused_none form body e h v f s b = absurd (cc f)

pub value_none : (form : ParameterForm) (body : List ℕ) (e : DecodeError) → IsValueError form body e → UnlessMemory e (HoldsNone form body)
value_none form body e (inl m) = subst (λ (x : DecodeError). UnlessMemory x (HoldsNone form body)) (sym m) tt
value_none form body e (inr h) = unless_all e (record { none = refused_none form body e h })

-- what is rejected is none of the values of a type
pub refused_by : {T : Type 0} (form : ParameterForm) (view : T → ParameterValue) (S : List ℕ → ℕ → T → ℕ → Type 0) (old new : Reading) (e : DecodeError)
    → ((x : T) → form_of (view x) ≡ form) → ((m : List ℕ) (p : ℕ) (x : T) (q : ℕ) → S m p x q → ToEnd m p (view x) q) → StaysBehind old new
    → IsValueError form (drop old.index old.message) e → StaysBehind old new × UnlessMemory e ((x : T) (q : ℕ) → S old.message old.index x q → ⊥)
refused_by form view S old new e is to behind h = (
  behind,
  unless_map e (HoldsNone form (drop old.index old.message)) _
      (λ (n : HoldsNone form (drop old.index old.message)) x q s. let t = to old.message old.index x q s in n.none (view x) (is x) t.emittable t.body)
      (value_none form (drop old.index old.message) e h),
)

-- ---- keys

abbrev pub KeyAt : List ℕ → ℕ → SvcParamKey → ℕ → Type 0
KeyAt = NumberedAt 2 key_number key_of

keys_split : {old d : Reading} {keys : List SvcParamKey} → EachOn KeyAt old keys d
    → AreSplit key_number (bytes_high_first 2) (λ n. n < 256 ^ 2) old.message old.index keys d.index
keys_split {old} {d} {keys} on =
    each_split key_number (bytes_high_first 2) (λ n. n < 256 ^ 2) KeyAt old.message (λ p k q s. s.field.is) old.index keys d.index on.stand

keys_given : (m : List ℕ) (p : ℕ) (keys : List SvcParamKey) (q : ℕ) → StandEach KeyAt m p keys q → AreGiven keys
keys_given m p [] q s = refl
keys_given m p (k ∷ keys) q s = ap (λ j. j ∷ keys) s.1.given ∙ ap (λ ks. key_of (key_number k) ∷ ks) (keys_given m s.0 keys q s.2)

pub keys_read : {old d : Reading} {keys : List SvcParamKey} → EachOn KeyAt old keys d → old.index < length old.message → length d.message ≤ d.index
    → d.index ≤ length d.message → MandatoryAt old.message old.index (record { 0 = keys }) d.index
keys_read {old} {d} {keys} on some done within =
    let s = keys_split on in
    let same = ap length on.behind.message in
    let body = to_end old.message old.index d.index (flat_map (bytes_high_first 2) (map key_number keys)) (omega (arith, same, done)) s.split in (
      record {
        ends = omega (arith, same, done, within);
        emittable = (λ e. omega (arith, some, length-drop old.index old.message, ap length (body ∙ ap (flat_map (bytes_high_first 2)) e)), s.all);
        body = body;
      },
      keys_given old.message old.index keys d.index on.stand,
    )

pub keys_odd : {old d : Reading} {keys : List SvcParamKey} → EachOn KeyAt old keys d → d.index < length d.message → LacksOctets d 2
    → length (drop old.index old.message) % 2 ≡ 1
keys_odd {old} {d} {keys} on some lacks =
    let l : length (drop d.index old.message) ≡ 1 = omega (arith, length-drop d.index old.message, some, lacks, ap length on.behind.message) in
    omega (
      arith,
      ap length (keys_split on).split,
      length-append (flat_map (bytes_high_first 2) (map key_number keys)) (drop d.index old.message),
      length_numbers (map key_number keys),
      l,
    )

pub keys_refused : {old new : Reading} (e : DecodeError) → StaysBehind old new → IsValueError Keys (drop old.index old.message) e
    → StaysBehind old new × UnlessMemory e ((x : MandatoryKeys) (q : ℕ) → MandatoryAt old.message old.index x q → ⊥)
keys_refused {old} {new} e = refused_by Keys mandatory_value MandatoryAt old new e (λ x. refl) (λ m p x q s. s.0)

pub keys_missing : (d : Reading) → length d.message ≤ d.index
    → StaysBehind d d × UnlessMemory decode.SvcParamMissingValue ((x : MandatoryKeys) (q : ℕ) → MandatoryAt d.message d.index x q → ⊥)
keys_missing d none = keys_refused decode.SvcParamMissingValue (stays d) (inr (inl (refl, drop_all d.index d.message none)))

-- ---- names of protocols

abbrev pub NameAt : List ℕ → ℕ → List ℕ → ℕ → Type 0
NameAt m p s q = Field m p CharacterString s q × IsUtf8 s

names_split : {old d : Reading} {names : List (List ℕ)} (P : List ℕ → Type 0) → ((p : ℕ) (s : List ℕ) (q : ℕ) → NameAt old.message p s q → P s)
    → EachOn NameAt old names d → (drop old.index old.message ≡ flat_map string names ++ drop d.index old.message) × AllByRecursion P names
names_split {old} {d} {names} P one on =
    let s = each_split (λ s. s) string P NameAt old.message (λ p s q f. (one p s q f, f.0.is.1)) old.index names d.index on.stand in
    (rw (map-id names) at s.split, rw (map-id names) at s.all)

names_front : {old d : Reading} {names : List (List ℕ)} → EachOn NameAt old names d
    → drop old.index old.message ≡ flat_map string names ++ drop d.index old.message
names_front on = (names_split (λ s. Unit {0}) (λ p s q f. tt) on).0

pub names_read : {old d : Reading} {names : List (List ℕ)} → EachOn NameAt old names d → old.index < length old.message → length d.message ≤ d.index
    → d.index ≤ length d.message → AlpnAt old.message old.index (record { 0 = names }) d.index
names_read {old} {d} {names} on some done within =
    let same = ap length on.behind.message in
    let body = to_end old.message old.index d.index (flat_map string names) (omega (arith, same, done)) (names_front on) in record {
      ends = omega (arith, same, done, within);
      emittable = (
        λ e. omega (arith, some, length-drop old.index old.message, ap length (body ∙ ap (flat_map string) e)),
        (names_split (λ s. length s < 256) (λ p s q f. f.0.is.0) on).1,
      );
      body = ((names_split IsUtf8 (λ p s q f. f.1) on).1, body);
    }

text_left : {old d b : Reading} {s : List ℕ} {names : List (List ℕ)} → EachOn NameAt old names d → TookField d CharacterString s b
    → drop d.index old.message ≡ string s ++ drop b.index old.message
text_left {old} {d} {b} {s} on f = subst (λ (m : List ℕ). drop d.index m ≡ string s ++ drop b.index m) on.behind.message (at_split f.field.is.1)

pub text_behind : {d b : Reading} {s : List ℕ} → TookField d CharacterString s b → StaysBehind d b
text_behind f = record { message = f.message; index = omega (arith, f.field.is.1.ends) }

pub names_truncated : {old d b : Reading} {names : List (List ℕ)} → EachOn NameAt old names d → d.index < length d.message → LacksText d b
    → TruncatedName (drop old.index old.message)
names_truncated {old} {d} {b} {names} on some (inl l) = absurd (omega (arith, some, l.1))
names_truncated {old} {d} {b} {names} on some (inr l) =
    let left : drop d.index old.message ≡ l.0 ∷ drop b.index old.message = subst (λ (m : List ℕ). drop d.index m ≡ l.0 ∷ drop b.index m) on.behind.message
    (octet_split l.1.field) in
    record {
      names = names;
      size = l.0;
      octets = drop b.index old.message;
      split = (names_front on) ∙ ap (λ (x : List ℕ). flat_map string names ++ x) left;
      texts = (names_split IsUtf8 (λ p s q f. f.1) on).1;
      truncated = omega (arith, length-drop b.index old.message, l.2, ap length l.1.message, ap length on.behind.message, l.1.field.is.1.within);
    }

pub names_wrong : {old d b : Reading} {names : List (List ℕ)} {s : List ℕ} → EachOn NameAt old names d → TookField d CharacterString s b → (IsUtf8 s → ⊥)
    → WrongName (drop old.index old.message)
names_wrong {old} {d} {b} {names} {s} on f wrong =
    record {
      names = names;
      name = s;
      rest = drop b.index old.message;
      split = (names_front on)
          ∙ ap (λ (x : List ℕ). flat_map string names ++ x) (text_left on f);
      texts = (names_split IsUtf8 (λ p s q f. f.1) on).1;
      wrong = wrong;
    }

pub names_refused : {old new : Reading} (e : DecodeError) → StaysBehind old new → IsValueError Names (drop old.index old.message) e
    → StaysBehind old new × UnlessMemory e ((x : Protocols) (q : ℕ) → AlpnAt old.message old.index x q → ⊥)
names_refused {old} {new} e = refused_by Names alpn_value AlpnAt old new e (λ x. refl) (λ m p x q s. s)

pub names_missing : (d : Reading) → length d.message ≤ d.index
    → StaysBehind d d × UnlessMemory decode.SvcParamMissingValue ((x : Protocols) (q : ℕ) → AlpnAt d.message d.index x q → ⊥)
names_missing d none = names_refused decode.SvcParamMissingValue (stays d) (inr (inl (refl, drop_all d.index d.message none)))

-- ---- reading, of any type of a known number of octets

abbrev pub GroupAt : {T : Type 0} (w : ℕ) → (T → List ℕ) → List ℕ → ℕ → T → ℕ → Type 0
GroupAt w octets m p x q = Stands m p (Octets w ∷ []) (octets x, tt) q

are_groups : {T : Type 0} (w : ℕ) (octets : T → List ℕ) (m : List ℕ) (p : ℕ) (items : List T) (q : ℕ) → StandEach (GroupAt w octets) m p items q
    → AreSplit octets (λ s. s) (λ s. length s ≡ w) m p items q
are_groups w octets m = each_split octets (λ s. s) (λ s. length s ≡ w) (GroupAt w octets) m
    (λ p x q s. (s.1.is.0, subst (λ (e : ℕ). At m p (octets x) e) s.2 s.1.is.1))

-- what is read to the end of octets
pub groups_read : {T : Type 0} (w : ℕ) (octets : T → List ℕ) (body : List ℕ) (items : List T) (new : Reading)
    → StandToEnd (GroupAt w octets) (record { message = body; index = 0 }) items new
    → AllByRecursion (λ s. length s ≡ w) (map octets items) × (body ≡ flat_map (λ s. s) (map octets items))
groups_read w octets body items new h =
    let g = are_groups w octets body 0 items (length body) h.stand in
    (g.all, to_end body 0 (length body) (flat_map (λ s. s) (map octets items)) (omega arith) g.split)

pub groups_fit : {T : Type 0} (w : ℕ) (octets : T → List ℕ) (body : List ℕ) (new : Reading) (r : Result (IpHint T) DecodeError)
    → ReadsEach (GroupAt w octets) (λ x. x.0) r (record { message = body; index = 0 }) new → IfOk r (λ x. AllByRecursion (λ s. length s ≡ w) (map octets x.0))
groups_fit w octets body new (Ok x) h = (groups_read w octets body x.0 new h).0
groups_fit w octets body new (Err e) h = tt

pub groups_body : {T : Type 0} (w : ℕ) (octets : T → List ℕ) (body : List ℕ) (new : Reading) (r : Result (IpHint T) DecodeError)
    → ReadsEach (GroupAt w octets) (λ x. x.0) r (record { message = body; index = 0 }) new → IfOk r (λ x. body ≡ flat_map (λ s. s) (map octets x.0))
groups_body w octets body new (Ok x) h = (groups_read w octets body x.0 new h).1
groups_body w octets body new (Err e) h = tt

-- ---- emitting

group_emits : (w : ℕ) (s : List ℕ) (r : Result (Unit {0}) ProtoError) (old new : Writing) → Emits (Octets w ∷ []) (s, tt) r old new
    → EmitsOctets (length s ≡ w) (true ≡ false) s r old new
unfolding field_octets
group_emits w s (Ok u) old new h = (h.fields.1.is.0, record { keeps = h.keeps; octets = h.fields.2 ∙ h.fields.1.is.1 })
group_emits w s (Err e) old new h = record
    { extends = h.extends; why = because_map e _ _ _ _ (λ r. omega (arith, r.full, ap length (append-nil s))) (λ u. u.unfit) h.why }

pub groups_emit : {T : Type 0} (w : ℕ) (octets : T → List ℕ) (xs : List T) (r : Result (Unit {0}) ProtoError) (old new : Writing)
    → EmitsEach (λ x r w' n. Emits (Octets w ∷ []) (octets x, tt) r w' n) xs r old new
    → EmitsOctets (AllByRecursion (λ s. length s ≡ w) (map octets xs)) (true ≡ false) (flat_map (λ s. s) (map octets xs)) r old new
groups_emit w octets xs r old new h =
    emits_as r old new (λ p. p) (λ q. sym (all_pass (map octets xs)) ∙ q) refl
    (emits_all octets (λ s. length s ≡ w) (λ s. true) (λ s. s) (λ x r w' n. Emits (Octets w ∷ []) (octets x, tt) r w' n) (λ x. group_emits w (octets x)) xs r old new h)
