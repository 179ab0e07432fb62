-- Taking parameters one after the other.
use Rattle.std.proofs.Common.{◌≡◌, inl, inr, ℕ, ◌+◌, ◌-◌, ◌<◌, ◌≤◌, List, [], ◌∷◌, ◌++◌, length, drop, Option, Some, None, refl, sym, ap, ◌∙◌, arith, subst, Ok}
use Rattle.std.proofs.Common.{Err}
use Rattle.std.proofs.{lemmas.List.length-append, lemmas.List.length-drop, lemmas.Bool.cases_eq}
use Rattle.std.specs.Int.{bytes_high_first}
use Rattle.dns_types.specs.declared.error.DecodeError.{DecodeError}
use Rattle.dns_types.specs.declared.error.DecodeError.TheVariants as decode
use Rattle.dns_fields.specs.Fields.{Field}
use Rattle.dns_fields.specs.declared.Kind.{TheVariants.Number, TheVariants.Octets, TheVariants.Rest, TheVariants.Parameters}
use Rattle.dns_fields.specs.{Tlvs.Numbered, Tlvs.ParameterValue, Tlvs.ParameterHeld, Tlvs.tlv, Tlvs.rising, Octets.At}
use Rattle.dns_fields.proofs.{Tlvs.tlv_before, Tlvs.heads_same, Tlvs.first_tlv, Numbers.length-bytes}
use Rattle.dns_names_wire.specs.{State.Reading, Terms.TookField, Terms.StaysBehind}
use Rattle.dns_names_wire.proofs.{FieldReads.stays, FieldReads.took_stays, FieldReads.stands_inside, FieldReads.took_last, FieldReads.took_then}
use Rattle.dns_names_wire.proofs.{Strings.at_then}
use Rattle.dns_rows.specs.Rules.{HasText, HaveTexts}
use Rattle.dns_rows.specs.declared.row.Rule.TheVariants as rules
use Rattle.dns_check.specs.Parts.{Skips}
use Rattle.dns_check.specs.Parameters.{IsAbove, TookParameter, ParametersBefore, LacksHead, TruncatedValue, RefusedValue, IsParameterError}
use Rattle.dns_check.specs.{ParameterValues.HasValue, ParameterValues.IsKeyError, Tlvs.TlvThere, Lists.ParametersThere}
use Rattle.dns_check.proofs.ParameterLists.{StandEach, Risen, risen_push, risen_not, risen_rises, fails_test, OneOf, one_long, one_once, one_of}
use Rattle.dns_check.proofs.ParameterLists.{parameters_each, each_parameters, each_inside, each_rest}
use Rattle.dns_check.proofs.{Alone.slice, OptionLists.body_is, ValueForms.key_none, Splits.at_split, Splits.stays_then, Splits.all_behind, Splits.all_append}

-- ---- one parameter

-- key, length and value are a parameter
pub one_taken : {old a b new : Reading} {key size n : ℕ} {octets : List ℕ} → TookField old (Number 2) key a
    → TookField a (Number 2) size b → TookField b (Octets n) octets new → n ≡ size → HasValue key octets → TookParameter old key new
one_taken {old} {a} {b} {new} {key} {size} {n} {octets} f g h same v =
    let mg : b.message ≡ old.message = g.message ∙ f.message in
    let long : length octets ≡ size = h.field.is.0 ∙ same in
    let second : At old.message a.index (bytes_high_first 2 (length octets)) b.index =
    subst (λ (k : ℕ). At old.message a.index (bytes_high_first 2 k) b.index) (sym long)
    (subst (λ (m : List ℕ). At m a.index (bytes_high_first 2 size) b.index) f.message g.field.is.1) in
    let third : At old.message b.index octets new.index = subst (λ (m : List ℕ). At m b.index octets new.index) mg h.field.is.1 in
    let whole : At old.message old.index (tlv (key, octets)) new.index = at_then f.field.is.1 (at_then second third) in
    let one : OneOf old.message old.index (key, v.value) new.index =
    record { octets = octets; at = whole; fits = (f.field.is.0, omega (arith, long, g.field.is.0)); held = v.held } in
    record {
      value = v.value;
      took = record { message = h.message ∙ mg; field = each_parameters whole.within (new.index, one, refl) (tt, tt) };
      text = v.text;
    }

-- the octets after key and length are no value
pub one_refused : {old a b new : Reading} {key size n : ℕ} {octets : List ℕ} {e : DecodeError} → TookField old (Number 2) key a
    → TookField a (Number 2) size b → TookField b (Octets n) octets new → n ≡ size → IsKeyError key octets e → IsParameterError old e new
one_refused {old} {a} {b} {new} {key} {size} {n} {octets} f g h same why =
    let long : size ≡ length octets = sym (h.field.is.0 ∙ same) in
    let second : TookField a (Number 2) (length octets) b = subst (λ (k : ℕ). TookField a (Number 2) k b) long g in
    let third : TookField b Rest octets new = record { message = h.message; field = record { is = h.field.is.1 } } in
    inr (inr (record { key = key; octets = octets; took = took_then f (took_then second (took_then third (took_last new))); refused = why }))

pub one_truncated : {old a b : Reading} {key size left : ℕ} → TookField old (Number 2) key a → TookField a (Number 2) size b
    → b.index + left ≡ length b.message → left < size → IsParameterError old (decode.IncorrectRDataLengthRead left size) b
one_truncated {b = b} {key} {size} {left} f g all cut = inr (inl (record {
  key = key;
  size = size;
  left = left;
  took = took_then f (took_then g (took_last b));
  error = refl;
  all = all;
  truncated = cut;
}))

pub record NoParameter (d : Reading) : Type 0 where
  pub none : (x : Numbered ParameterValue) (q : ℕ) → OneOf d.message d.index x q → HasText x.0 x.1 → ⊥

lacking_none : {old new : Reading} {e : DecodeError} → LacksHead old e new → NoParameter old
lacking_none {old} (inl h) = record { none = λ x q o u. omega (arith, h.1, one_long o, o.at.within) }
lacking_none {old} (inr (n, between, took, h)) =
    record { none = λ x q o u. omega (arith, h.1, one_long o, o.at.within, took.field.is.1.ends, length-bytes 2 n, ap length took.message) }

pub truncated_none : {old new : Reading} {e : DecodeError} → TruncatedValue old e new → NoParameter old
truncated_none {old} {new} c = record {
  none = λ x q o u.
      let a = c.took.stands in
      let heads : drop old.index old.message ≡ bytes_high_first 2 c.key ++ (bytes_high_first 2 c.size ++ drop a.2.0 old.message) = at_split a.1.is.1
      ∙ ap (λ (l : List ℕ). bytes_high_first 2 c.key ++ l) (at_split a.2.1.is.1) in
      let h = heads_same x.0 c.key (length o.octets) c.size (o.octets ++ drop q old.message) (drop a.2.0 old.message) o.fits.0 a.1.is.0 o.fits.1 a.2.1.is.0
      (sym (at_split o.at ∙ tlv_before (x.0, o.octets) (drop q old.message)) ∙ heads) in
      omega (
        arith,
        h.1,
        ap length h.2,
        length-append o.octets (drop q old.message),
        length-drop a.2.0 old.message,
        a.2.2,
        c.all,
        c.truncated,
        ap length c.took.message,
      );
}

value_refused : {old new : Reading} {e : DecodeError} → RefusedValue old e new → NoParameter old
value_refused {old} {new} {e} c = record {
  none = λ x q o u.
      let n = key_none c.key c.octets e c.refused in
      let a = c.took.stands in
      let heads : drop old.index old.message ≡ bytes_high_first 2 c.key ++ (bytes_high_first 2 (length c.octets) ++ (c.octets ++ drop a.2.2.0 old.message)) =
      at_split a.1.is.1 ∙ ap (λ (l : List ℕ). bytes_high_first 2 c.key ++ l)
      (at_split a.2.1.is.1 ∙ ap (λ (l : List ℕ). bytes_high_first 2 (length c.octets) ++ l) (at_split a.2.2.1.is)) in
      let h = first_tlv (x.0, o.octets) (c.key, c.octets) (drop q old.message) (drop a.2.2.0 old.message) o.fits (a.1.is.0, a.2.1.is.0)
      (sym (at_split o.at) ∙ (heads ∙ sym (tlv_before (c.key, c.octets) (drop a.2.2.0 old.message)))) in
      n.none x.1 (subst (λ (z : Numbered (List ℕ)). ParameterHeld z.0 z.1 x.1) h.0 o.held) (subst (λ (z : Numbered (List ℕ)). HasText z.0 x.1) h.0 u);
}

-- what fails as a parameter is none
parameter_none : {old new : Reading} {e : DecodeError} → IsParameterError old e new → NoParameter old
parameter_none (inl h) = lacking_none h
parameter_none (inr (inl h)) = truncated_none h
parameter_none (inr (inr h)) = value_refused h

parameter_behind : {old new : Reading} {e : DecodeError} → IsParameterError old e new → StaysBehind old new
parameter_behind {old} (inl (inl h)) = subst (StaysBehind old) (sym h.2) (stays old)
parameter_behind {old} (inl (inr (n, between, took, h))) = subst (StaysBehind old) (sym h.2) (took_stays took (stays between))
parameter_behind {old} {new} (inr (inl h)) = record
    { message = h.took.message; index = stands_inside old.message old.index (Number 2 ∷ Number 2 ∷ []) (h.key, (h.size, tt)) new.index h.took.stands }
parameter_behind {old} {new} (inr (inr h)) = record {
  message = h.took.message;
  index = stands_inside old.message old.index (Number 2 ∷ Number 2 ∷ Rest ∷ []) (h.key, (length h.octets, (h.octets, tt))) new.index h.took.stands;
}

-- ---- several parameters

pub record ParametersOn (old : Reading) (last : Option ℕ) (d : Reading) : Type 0 where
  pub items : List (Numbered ParameterValue)
  pub behind : StaysBehind old d
  pub stand : StandEach OneOf old.message old.index items d.index
  pub within : d.index ≤ length old.message
  pub risen : Risen last items
  pub texts : HaveTexts items

pub stand_push : {T : Type 0} (S : List ℕ → ℕ → T → ℕ → Type 0) (m : List ℕ) (p : ℕ) (xs : List T) (q : ℕ) (x : T) (r : ℕ) → StandEach S m p xs q → S m q x r
    → StandEach S m p (xs ++ x ∷ []) r
stand_push S m p [] q x r e h = (r, subst (λ (k : ℕ). S m k x r) (sym e) h, refl)
stand_push S m p (y ∷ ys) q x r e h = (e.0, e.1, stand_push S m e.0 ys q x r e.2 h)

one_here : {old d b : Reading} {last : Option ℕ} {x : Numbered ParameterValue} → ParametersOn old last d
    → TookField d Parameters (x ∷ []) b → OneOf old.message d.index x b.index
one_here {old} {d} {b} {x = x} on f = subst (λ (m : List ℕ). OneOf m d.index x b.index) on.behind.message (one_of f.field)

pub on_more : {old d b : Reading} {last : Option ℕ} {key : ℕ} → ParametersOn old last d → TookParameter d key b → IsAbove last key
    → ParametersOn old (Some key) b
on_more {old} {d} {b} {last} {key} on f above =
    let x : Numbered ParameterValue = (key, f.value) in
    let one = one_here on f.took in
    record {
      items = on.items ++ x ∷ [];
      behind = stays_then on.behind (took_stays f.took (stays b));
      stand = stand_push OneOf old.message old.index on.items d.index x b.index on.stand one;
      within = one.at.within;
      risen = risen_push last on.items x on.risen above;
      texts = all_append (λ y. HasText y.0 y.1) on.items (x ∷ []) on.texts (f.text, tt);
    }

pub on_longer : {d b : Reading} {key : ℕ} → TookParameter d key b → d.index + 4 ≤ b.index
on_longer f = one_long (one_of f.took.field)

on_taken : {old d : Reading} {last : Option ℕ} (on : ParametersOn old last d) → TookField old Parameters on.items d
on_taken {last = last} on = record { message = on.behind.message; field = each_parameters on.within on.stand (risen_rises last on.items on.risen) }

-- ---- how the loop ends

abbrev before_of : {old d : Reading} {last : Option ℕ} {end : ℕ} (on : ParametersOn old last d) → d.index + 4 ≤ end → ParametersBefore end old d
before_of on room = record { values = on.items; took = on_taken on; texts = on.texts; room = room }

-- all that are encoded there have one more, if octets are left
record NextOf (m : List ℕ) (p end : ℕ) (xs v : List (Numbered ParameterValue)) : Type 0 where
  next : Numbered ParameterValue
  rest : List (Numbered ParameterValue)
  same : v ≡ xs ++ next ∷ rest
  offset : ℕ
  one : OneOf m p next offset
  before : offset ≤ end

next_of : {old d : Reading} {last : Option ℕ} {end : ℕ} {v : List (Numbered ParameterValue)} (on : ParametersOn old last d)
    → d.index < end → Field old.message old.index Parameters v end → NextOf old.message d.index end on.items v
next_of {old} {d} {last} {end} {v} on lt f =
    let r = each_rest (omega (arith, lt)) old.index on.items v on.stand (parameters_each f) in some r.0 r.1 r.2
  where
    some : (rest : List (Numbered ParameterValue)) → v ≡ on.items ++ rest → StandEach OneOf old.message d.index rest end
        → NextOf old.message d.index end on.items v
    some [] same s = absurd (omega (arith, lt, s))
    some (x ∷ rest) same s = record { next = x; rest = rest; same = same; offset = s.0; one = s.1; before = each_inside old.message s.0 rest end s.2 }

-- to the end they are in one way
ends_at : {old : Reading} {end q : ℕ} {v : List (Numbered ParameterValue)} → q ≡ end → Field old.message old.index Parameters v q
    → Field old.message old.index Parameters v end
ends_at {old} {v = v} e f = subst (λ (p : ℕ). Field old.message old.index Parameters v p) e f

pub parameters_skip : {start n : ℕ} {old d : Reading} {last : Option ℕ} → ParametersOn old last d → d.index ≤ start + n → start + n < d.index + 4
    → Skips rules.Paths Parameters start n (Ok tt) old d
parameters_skip {start} {n} {old} {d} {last} on within few = record {
  is = record {
    value = on.items;
    took = on_taken on;
    asked = (on.texts, tt);
    one = λ v q f r. elim (cases_eq d.index (start + n)) [
      | inl e ↦ r ∙ sym e
      | inr ne ↦ (
          let x = next_of on (omega (arith, ne, within)) (ends_at r f) in
          omega (arith, one_long x.one, x.before, few))
    ];
    ends = (within, few);
  };
}

-- a parameter is rejected
pub parameters_refused : {start n : ℕ} {e : DecodeError} {old d b : Reading} {last : Option ℕ} → ParametersOn old last d → d.index + 4 ≤ start + n
    → IsParameterError d e b → Skips rules.Paths Parameters start n (Err e) old b
parameters_refused {start} {n} {e} {old} {d} {b} {last} on room h =
    let none = parameter_none h in
    record {
      is = record {
        behind = stays_then on.behind (parameter_behind h);
        none = record {
          none = λ v q f a r.
              let x = next_of on (omega (arith, room)) (ends_at r f) in
              let text = all_behind (λ y. HasText y.0 y.1) on.items (x.next ∷ x.rest) (subst HaveTexts x.same a.0) in
              none.none x.next x.offset (subst (λ (m : List ℕ). OneOf m d.index x.next x.offset) (sym on.behind.message) x.one) text.0;
        };
        fault = inr (omega (arith, on.behind.index, room), inl (record { between = d; before = before_of on room; refused = h }));
      };
    }

-- a key is not above the last one
pub parameters_unordered : {start n key : ℕ} {old d b : Reading} {last : Option ℕ} → ParametersOn old last d → d.index + 4 ≤ start + n
    → TookParameter d key b → (IsAbove last key → ⊥) → Skips rules.Paths Parameters start n (Err decode.SvcParamsOutOfOrder) old b
parameters_unordered {start} {n} {key} {old} {d} {b} {last} on room f fails =
    let x : Numbered ParameterValue = (key, f.value) in
    record {
      is = record {
        behind = stays_then on.behind (took_stays f.took (stays b));
        none = record {
          none = λ v q g a r.
              let h = ends_at r g in
              let y = next_of on (omega (arith, room)) h in
              let same : y.next ≡ x = (one_once y.one (one_here on f.took)).0 in
              let whole : v ≡ on.items ++ x ∷ y.rest = y.same ∙ ap (λ (z : Numbered ParameterValue). on.items ++ z ∷ y.rest) same in
              fails_test v (ap rising whole ∙ risen_not last on.items x y.rest on.risen fails) h.is.rising;
        };
        fault = inr (
          omega (arith, on.behind.index, room),
          inr (inl (record {
            between = d;
            before = before_of on room;
            key = key;
            then = f;
            error = refl;
            order = fails_test (on.items ++ x ∷ []) (risen_not last on.items x [] on.risen fails);
          })),
        );
      };
    }

-- a parameter ends after the end of the RDATA
pub parameters_passed : {start n key size : ℕ} {old d b : Reading} {last : Option ℕ} → ParametersOn old last d → d.index + 4 ≤ start + n → TookParameter d key b
    → IsAbove last key → size ≡ b.index - start → n < size → start ≤ old.index
    → Skips rules.Paths Parameters start n (Err (decode.IncorrectRDataLengthRead size n)) old b
parameters_passed {start} {n} {key} {size} {old} {d} {b} {last} on room f above is past before =
    let more = on_more on f above in
    record {
      is = record {
        behind = more.behind;
        none = record {
          none = λ v q g a r.
              let y = next_of on (omega (arith, room)) (ends_at r g) in
              omega (arith, (one_once y.one (one_here on f.took)).1, y.before, past, is, more.behind.index, before);
        };
        fault = inr (
          omega (arith, on.behind.index, room),
          inr (inr (record {
            between = d;
            before = before_of on room;
            key = key;
            then = f;
            order = risen_rises (Some key) (on.items ++ (key, f.value) ∷ []) (risen_push last on.items (key, f.value) on.risen above);
            size = size;
            error = refl;
            passed = past;
            index = omega (arith, is, more.behind.index, before);
          })),
        );
      };
    }

-- ---- parameters that are counted

-- so many were gone over
pub record Counted (m : List ℕ) (at count : ℕ) (last : Option ℕ) (offset : ℕ) : Type 0 where
  pub on : ParametersOn (record { message = m; index = at }) last (record { message = m; index = offset })
  pub number : count ≡ length on.items
  pub few : count ≤ offset

pub counted_none : {m : List ℕ} {at : ℕ} → at ≤ length m → Counted m at 0 None at
counted_none {m} {at} within = record {
  on = record {
    items = [];
    behind = stays (record { message = m; index = at });
    stand = refl;
    within = within;
    risen = record { rest = λ zs. refl };
    texts = tt;
  };
  number = refl;
  few = omega arith;
}

one_more : (xs : List (Numbered ParameterValue)) (x : Numbered ParameterValue) (n : ℕ) → n ≡ length xs → n + 1 ≡ length (xs ++ x ∷ [])
one_more xs x n e = omega (arith, e, length-append xs (x ∷ []))

-- one is there, and its octets hold a value
tlv_taken : {m : List ℕ} {offset end : ℕ} (t : TlvThere m offset end) → HasValue t.key t.body
    → TookParameter (record { message = m; index = offset }) t.key (record { message = m; index = end })
tlv_taken {m} {offset} {end} t v =
    let one : OneOf m offset (t.key, v.value) end = record { octets = t.body; at = t.is.at; fits = t.is.fits; held = v.held } in
    record {
      value = v.value;
      took = record { message = refl; field = each_parameters t.is.at.within (end, one, refl) (tt, tt) };
      text = v.text;
    }

pub counted_more : {m : List ℕ} {at count key offset end : ℕ} {last : Option ℕ} → Counted m at count last offset → (t : TlvThere m offset end)
    → offset + 4 ≤ end → key ≡ t.key → HasValue key (slice m (offset + 4) end) → IsAbove last key → Counted m at (count + 1) (Some key) end
unfolding on_more tlv_taken
counted_more {m} {at} {count} {key} {offset} {end} {last} c t long is v above =
    let value : HasValue t.key t.body = subst (λ (k : ℕ). HasValue k t.body) is (subst (HasValue key) (body_is t) v) in
    let on = on_more c.on (tlv_taken t value) (subst (IsAbove last) is above) in
    subst (λ (k : ℕ). Counted m at (count + 1) (Some k) end) (sym is) (record {
      on = on;
      number = one_more c.on.items (t.key, value.value) count c.number;
      few = omega (arith, c.few, long);
    })

pub counted_all : {m : List ℕ} {at count offset end : ℕ} {last : Option ℕ} → Counted m at count last offset → offset ≤ end → end ≤ offset
    → ParametersThere m at end count
counted_all {m} {at} {count} {offset} {end} c within past =
    let there : offset ≡ end = omega (arith, within, past) in
    record {
      values = c.on.items;
      field = subst (λ (q : ℕ). Field m at Parameters c.on.items q) there (on_taken c.on).field;
      texts = c.on.texts;
      number = c.number;
    }

-- they are taken if they end with the RDATA
pub parameters_there : {m : List ℕ} {at count start n : ℕ} (h : ParametersThere m at (start + n) count)
    → Skips rules.Paths Parameters start n (Ok tt) (record { message = m; index = at }) (record { message = m; index = start + n })
parameters_there h = record {
  is = record {
    value = h.values;
    took = record { message = refl; field = h.field };
    asked = (h.texts, tt);
    one = λ v q f r. r;
    ends = (omega arith, omega arith);
  };
}
