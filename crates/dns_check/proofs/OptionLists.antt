-- Options one after the other.
use Rattle.std.proofs.lemmas.List.{length-append, take-append-drop, take_at, take_all, take-append-le, append-nil}
use Rattle.std.proofs.Common.{append_assoc, Ok, Err, ◌-◌}
use Rattle.std.proofs.lemmas.Grind.{flat_map-append}
use Rattle.std.proofs.Common.{◌≡◌, ℕ, ◌+◌, ◌≤◌, ◌<◌, ◌^◌, ◌⊎◌, inl, inr, ⊎_elim, List, [], ◌∷◌, ◌++◌, length, take, drop, refl, sym, ap, ◌∙◌, arith, subst}
use Rattle.std.specs.Int.{bytes_high_first}
use Rattle.dns_types.specs.declared.error.DecodeError.{DecodeError}
use Rattle.dns_fields.specs.Tlvs.{Numbered, tlv, tlvs, IsTlv, AreTlvs, AllHeld, OptionValue, OptionHeld, IsTruncated}
use Rattle.dns_fields.specs.{declared.Kind.TheVariants.Number, declared.Kind.TheVariants.Octets, Fields.Field, declared.Kind.TheVariants.Options}
use Rattle.dns_fields.specs.{Fields.CompleteOptions, Fields.TruncatedOptions, Octets.At}
use Rattle.dns_fields.proofs.{Tlvs.first_tlv, Tlvs.truncated_tlv, Tlvs.length-tlv, Tlvs.tlv_before, Numbers.length-bytes, FieldLaws.field_same}
use Rattle.dns_names_wire.specs.{Terms.TookField, Terms.StaysBehind, State.Reading}
use Rattle.dns_names_wire.proofs.{FieldReads.took_number, Strings.at_front, Strings.at_rest, Strings.at_then}
use Rattle.dns_rows.specs.declared.row.Rule.{Rule}
use Rattle.dns_rows.specs.declared.row.Rule.TheVariants as rules
use Rattle.dns_check.specs.Parts.{IsUnasked, Skips}
use Rattle.dns_check.specs.{Tlvs.TlvThere, Tlvs.CompleteBy, Options.HasOptions}
use Rattle.dns_check.specs.Options.{OptionsLeft, NoneLeft, TookTlv, TookCut, TookHead, RefusedTlv, IsTlvError, HasOption, IsSubnetError, IsNextError}
use Rattle.dns_check.proofs.{Alone.slice, Alone.slice_at, Alone.between_is, Asked.unasked, Splits.all_append, Subnets.subnet_none}

-- ---- what begins the rest

-- the two octets of a code, and where more follows, those of a length of at most n
pub record Begins (m : List ℕ) (n i end : ℕ) : Type 0 where
  pub code : i + 2 ≤ end
  pub within : end ≤ length m
  pub size : i + 2 < end → (l : ℕ) × (l ≤ n) × Field m (i + 2) (Number 2) l (i + 2 + 2) × (i + 2 + 2 ≤ end)

pub begins : {m : List ℕ} {n i end : ℕ} → i < end → end ≤ i + n → OptionsLeft m n i end → Begins m n i end
begins {m} {n} {i} {end} lt fits h = first h.read h.stub h.at h.fit h.ends where
  sized : (c l : ℕ) (x : List ℕ) → l < 256 ^ 2 → l ≤ n → At m i (bytes_high_first 2 c ++ (bytes_high_first 2 l ++ x)) end → Begins m n i end
  sized c l x small most a =
      let rest : At m (i + 2) (bytes_high_first 2 l ++ x) end = at_rest (bytes_high_first 2 c) (bytes_high_first 2 l ++ x) a in
      let inside : i + 2 + 2 ≤ end = omega (arith, rest.ends, length-append (bytes_high_first 2 l) x, length-bytes 2 l) in
      record { code = omega (arith, inside); within = a.within; size = λ _. (l, most, record { is = (small, at_front (bytes_high_first 2 l) x rest) }, inside) }

  first : (read : List (Numbered (List ℕ))) (s : List ℕ) → At m i (tlvs read ++ s) end → AreTlvs read → (s ≡ []) ⊎ IsTruncated n s → Begins m n i end
  first [] s a f (inl e) = absurd (let k : length s ≡ 0 = ap length e in omega (arith, lt, a.ends, k))
  first [] s a f (inr (c, small, inl e)) =
      let k : length s ≡ 2 = ap length e in
      record { code = omega (arith, a.ends, k); within = a.within; size = λ l. absurd (omega (arith, l, a.ends, k)) }
  first [] s a f (inr (c, small, inr (l, x, fit, most, short, e))) = sized c l x fit most (subst (λ (o : List ℕ). At m i o end) e a)
  first (y ∷ ys) s a f e = sized y.0 (length y.1) (y.1 ++ (tlvs ys ++ s)) f.0.1
      (omega (arith, fits, a.ends, length-append (tlv y ++ tlvs ys) s, length-append (tlv y) (tlvs ys), length-tlv y))
      (subst (λ (o : List ℕ). At m i o end) (append_assoc (tlv y) (tlvs ys) s ∙ tlv_before y (tlvs ys ++ s)) a)

-- ---- the next option is rejected

head_long : {d new : Reading} {code size : ℕ} → TookHead d code size new → new.index ≡ d.index + 2 + 2
head_long {code = code} {size} t =
    let (i, first, (j, second, end)) = t.stands in omega (arith, first.is.1.ends, second.is.1.ends, length-bytes 2 code, length-bytes 2 size, end)

-- so nothing is left in any way
pub tlv_none : {d new : Reading} {e : DecodeError} (start n : ℕ) → start ≤ d.index → d.index < start + n → RefusedTlv start n d e new
    → NoneLeft d.message n d.index (start + n)
tlv_none {d} {new} {e} start n le lt r = record { none = λ h. by (begins lt (omega (arith, le)) h) r.why } where
  by : Begins d.message n d.index (start + n) → IsTlvError start n d e new → ⊥
  by b (inl h) = omega (arith, b.code, b.within, h.lacks)
  by b (inr (inl h)) =
      let s = b.size (omega (arith, took_number h.took, h.before)) in
      omega (arith, took_number h.took, s.3, b.within, h.lacks, ap length h.took.message)
  by b (inr (inr (inl h))) = ⊎_elim
      (λ (t : (code : ℕ) × TookField d (Number 2) code new). omega (arith, took_number t.1, b.code, h.past))
      (λ (t : (code : ℕ) × (size : ℕ) × (d.index + 2 < start + n) × TookHead d code size new).
      omega (arith, (b.size t.2).3, h.past, head_long t.3)) h.head
  by b (inr (inr (inr (inl h)))) =
      let (i, code, (j, size, end)) = h.took.stands in
      let there : i ≡ d.index + 2 = omega (arith, code.is.1.ends, length-bytes 2 h.code) in
      let behind : j ≡ i + 2 = omega (arith, size.is.1.ends, length-bytes 2 h.size) in
      let s = b.size (omega (arith, there, behind, end, h.inside)) in
      let field : Field d.message i (Number 2) h.size (i + 2) = subst (λ (q : ℕ). Field d.message i (Number 2) h.size q) behind size in
      let same : s.0 ≡ h.size = field_same s.2 (subst (λ (k : ℕ). Field d.message k (Number 2) h.size (k + 2)) there field) in
      omega (arith, s.1, same, h.long)
  by b (inr (inr (inr (inr h)))) = omega (arith, b.within, h.record_left)

-- ---- what was read

-- the octets of two numbers and of what follows
heads : {d b c : Reading} {v w : ℕ} → TookField d (Number 2) v b → TookField b (Number 2) w c
    → At d.message d.index (bytes_high_first 2 v ++ bytes_high_first 2 w) c.index
heads {d} {b} {c} {v} {w} f g = at_then f.field.is.1 (subst (λ (m : List ℕ). At m b.index (bytes_high_first 2 w) c.index) f.message g.field.is.1)

third : {d b c e : Reading} {v w k : ℕ} {x : List ℕ} → TookField d (Number 2) v b → TookField b (Number 2) w c → TookField c (Octets k) x e
    → At d.message d.index (bytes_high_first 2 v ++ (bytes_high_first 2 w ++ x)) e.index
third {d} {b} {c} {e} {v} {w} {k} {x} f g h =
    let back : At d.message c.index x e.index = subst (λ (m : List ℕ). At m c.index x e.index) (g.message ∙ f.message) h.field.is.1 in
    subst (λ (o : List ℕ). At d.message d.index o e.index) (append_assoc (bytes_high_first 2 v) (bytes_high_first 2 w) x) (at_then (heads f g) back)

pub cut_short : {d b c e : Reading} {v w k n end : ℕ} {x : List ℕ} → TookField d (Number 2) v b → TookField b (Number 2) w c → TookField c (Octets k) x e
    → c.index + k ≡ end → w ≤ n → k < w → TookCut d n end e
cut_short {d} {b} {c} {e} {v} {w} {k} {n} {end} {x} f g h there most short =
    let is : e.index ≡ end = omega (arith, h.field.is.1.ends, h.field.is.0, there) in
    record {
      message = h.message ∙ g.message ∙ f.message;
      stub = bytes_high_first 2 v ++ (bytes_high_first 2 w ++ x);
      at = subst (λ (q : ℕ). At d.message d.index (bytes_high_first 2 v ++ (bytes_high_first 2 w ++ x)) q) is (third f g h);
      cut = (v, f.field.is.0, inr (w, x, g.field.is.0, most, omega (arith, h.field.is.0, short), refl));
      there = is;
    }

pub tlv_read : {d b c e : Reading} {v w end : ℕ} {x : List ℕ} → TookField d (Number 2) v b → TookField b (Number 2) w c → TookField c (Octets w) x e
    → c.index + w ≤ end → TookTlv d end (v, x) e
tlv_read {d} {b} {c} {e} {v} {w} {end} {x} f g h inside = record {
  message = h.message ∙ g.message ∙ f.message;
  at = subst (λ (k : ℕ). At d.message d.index (bytes_high_first 2 v ++ (bytes_high_first 2 k ++ x)) e.index) (sym h.field.is.0) (third f g h);
  fits = (f.field.is.0, subst (λ (k : ℕ). k < 256 ^ 2) (sym h.field.is.0) g.field.is.0);
  inside = omega (arith, h.field.is.0, h.field.is.1.ends, inside);
}

-- ---- an option that is encoded is the first of the rest

pub prefix : {m : List ℕ} {p q : ℕ} {x : List ℕ} → At m p x q → x ++ drop (length x) (drop p m) ≡ drop p m
prefix {m} {p} {q} {x} a = ap (λ (o : List ℕ). o ++ drop (length x) (drop p m)) (sym a.same) ∙ take-append-drop (length x) (drop p m)

-- the longer of two beginnings goes on after the shorter
goes_on : (x s u v : List ℕ) → x ++ u ≡ s ++ v → length x ≤ length s → x ++ drop (length x) s ≡ s
goes_on x s u v e short = ap (λ (o : List ℕ). o ++ drop (length x) s)
    (sym (take_at x u (length x) refl) ∙ ap (take (length x)) e ∙ take-append-le (length x) s v short) ∙ take-append-drop (length x) s

-- an option that is encoded holds a value, and the rest is left
abbrev pub GoesOn : List ℕ → ℕ → Numbered (List ℕ) → ℕ → ℕ → Type 0
GoesOn m n x j end = (value : OptionValue) × OptionHeld x.0 x.1 value × OptionsLeft m n j end

pub first_left : {m : List ℕ} {n i j end : ℕ} {x : Numbered (List ℕ)} → At m i (tlv x) j → IsTlv x → j ≤ end → OptionsLeft m n i end → GoesOn m n x j end
first_left {m} {n} {i} {j} {end} {x} a f inside h = first h.read h.values h.at h.fit h.held where
  first : (read : List (Numbered (List ℕ))) (values : List (Numbered OptionValue)) → At m i (tlvs read ++ h.stub) end → AreTlvs read
      → AllHeld OptionHeld read values → GoesOn m n x j end
  first [] values b g held = absurd (⊎_elim
      (λ (e : h.stub ≡ []). let k : length h.stub ≡ 0 = ap length e in omega (arith, b.ends, k, a.ends, length-tlv x))
      (λ (c : IsTruncated n h.stub).
      let on = goes_on (tlv x) h.stub _ _ (prefix a ∙ sym (prefix b)) (omega (arith, a.ends, b.ends)) in
      truncated_tlv n x (drop (length (tlv x)) h.stub) f (subst (IsTruncated n) (sym on) c))
      h.ends)
  first (y ∷ ys) [] b g held = absurd held
  first (y ∷ ys) (v ∷ vs) b g held =
      let whole : (tlv y ++ tlvs ys) ++ h.stub ≡ tlv y ++ (tlvs ys ++ h.stub) = append_assoc (tlv y) (tlvs ys) h.stub in
      let b' : At m i (tlv y ++ (tlvs ys ++ h.stub)) end = subst (λ (o : List ℕ). At m i o end) whole b in
      let front : At m i (tlv y) (i + length (tlv y)) = at_front (tlv y) (tlvs ys ++ h.stub) b' in
      let rest : At m (i + length (tlv y)) (tlvs ys ++ h.stub) end = at_rest (tlv y) (tlvs ys ++ h.stub) b' in
      let same : y ≡ x = (first_tlv y x _ _ g.0 f (prefix front ∙ sym (prefix a))).0 in
      let there : i + length (tlv y) ≡ j = ap (λ (z : Numbered (List ℕ)). i + length (tlv z)) same ∙ sym a.ends in
      let codes : v.0 ≡ x.0 = sym held.0 ∙ ap (λ (z : Numbered (List ℕ)). z.0) same in (
        v.1,
        subst (λ (k : ℕ). OptionHeld k x.1 v.1) codes (subst (λ (o : List ℕ). OptionHeld v.0 o v.1) (ap (λ (z : Numbered (List ℕ)). z.1) same) held.1),
        record {
          read = ys;
          values = vs;
          stub = h.stub;
          at = subst (λ (q : ℕ). At m q (tlvs ys ++ h.stub) end) there rest;
          fit = g.1;
          held = held.2;
          ends = h.ends;
        },
      )

pub tlvs_more : (xs : List (Numbered (List ℕ))) (x : Numbered (List ℕ)) → tlvs xs ++ tlv x ≡ tlvs (xs ++ x ∷ [])
tlvs_more xs x = sym (flat_map-append tlv xs (x ∷ []) ∙ ap (λ (t : List ℕ). tlvs xs ++ t) (append-nil (tlv x)))

-- ---- options that are read up to the end of a record

-- what was read of the options up to the end, and what is left of any way to fill the record
pub record ReadsOptions (old : Reading) (n end : ℕ) (done : List (Numbered OptionValue)) (d : Reading) : Type 0 where
  pub message : d.message ≡ old.message
  pub behind : old.index ≤ d.index
  pub inside : d.index ≤ end
  pub took : CompleteOptions old.message old.index done d.index
  pub rest : OptionsLeft old.message n old.index end → OptionsLeft old.message n d.index end

pub held_more : (xs : List (Numbered (List ℕ))) (a : List (Numbered OptionValue)) (x : Numbered (List ℕ)) (v : OptionValue) → AllHeld OptionHeld xs a
    → OptionHeld x.0 x.1 v → AllHeld OptionHeld (xs ++ x ∷ []) (a ++ (x.0, v) ∷ [])
held_more [] [] x v f h = (refl, h, tt)
held_more (y ∷ ys) (a ∷ as') x v f h = (f.0, f.1, held_more ys as' x v f.2 h)
held_more xs a x v f h = absurd f

pub options_more : {old d b : Reading} {n end : ℕ} {done : List (Numbered OptionValue)} {x : Numbered (List ℕ)} (v : OptionValue)
    → ReadsOptions old n end done d
    → TookTlv d end x b → OptionHeld x.0 x.1 v → ReadsOptions old n end (done ++ (x.0, v) ∷ []) b
options_more {old} {d} {b} {n} {end} {done} {x} v r t held =
    let at : At old.message d.index (tlv x) b.index = subst (λ (m : List ℕ). At m d.index (tlv x) b.index) r.message t.at in
    record {
      message = t.message ∙ r.message;
      behind = omega (arith, r.behind, at.ends);
      inside = t.inside;
      took = record {
        read = r.took.read ++ x ∷ [];
        at = subst (λ (o : List ℕ). At old.message old.index o b.index) (tlvs_more r.took.read x)
            (at_then r.took.at at);
        fit = all_append IsTlv r.took.read (x ∷ []) r.took.fit (t.fits, tt);
        held = held_more r.took.read done x v r.took.held held;
      };
      rest = λ h. (first_left at t.fits t.inside (r.rest h)).2;
    }

-- a field of options leaves all of it at its start
pub field_left : {m : List ℕ} {p q : ℕ} {v : List (Numbered OptionValue)} → Field m p Options v q → OptionsLeft m (q - p) p q
field_left {m} {p} {q} {v} f = of f.is where
  of : CompleteOptions m p v q ⊎ ((v ≡ []) × TruncatedOptions m (q - p) p q) → OptionsLeft m (q - p) p q
  of (inl w) = record {
    read = w.read;
    values = v;
    stub = [];
    at = subst (λ (o : List ℕ). At m p o q) (sym (append-nil (tlvs w.read))) w.at;
    fit =
        w.fit;
    held = w.held;
    ends = inl refl;
  }
  of (inr c) = record { read = c.1.read; values = c.1.dropped; stub = c.1.stub; at = c.1.at; fit = c.1.fit; held = c.1.held; ends = inr c.1.cut }

-- ---- how options are taken

pub options_none : (old : Reading) (n end : ℕ) → old.index ≤ length old.message → old.index ≤ end → ReadsOptions old n end [] old
options_none old n end within inside = record {
  message = refl;
  behind = omega arith;
  inside = inside;
  took = record { read = []; at = record { ends = omega arith; within = within; same = refl }; fit = tt; held = tt };
  rest = λ h. h;
}

any_options : (rule : Rule) → IsUnasked rule Options
any_options rules.Letters = tt
any_options r = tt

-- a field of options of n octets that ends with the RDATA is what is left at its beginning
whole_left : (start n : ℕ) {old : Reading} {q : ℕ} {v : List (Numbered OptionValue)} → start ≤ old.index → old.index ≤ start + n → q ≡ start + n
    → Field old.message old.index Options v q → OptionsLeft old.message (n - (old.index - start)) old.index (start + n)
whole_left start n {old} {q} {v} before fits there f =
    let size : q - old.index ≡ n - (old.index - start) = omega (arith, there, before, fits) in
    subst (λ (k : ℕ). OptionsLeft old.message k old.index (start + n)) size
    (subst (λ (k : ℕ). OptionsLeft old.message (q - old.index) old.index k) there (field_left f))

-- the RDATA ends inside an option
pub options_cut : {rule : Rule} {start n : ℕ} {old d b : Reading} {done : List (Numbered OptionValue)} → start ≤ old.index
    → ReadsOptions old (n - (old.index - start)) (start + n) done d → TookCut d (n - (old.index - start)) (start + n) b
    → Skips rule Options start n (Ok tt) old b
options_cut {rule} {start} {n} {old} {d} {b} {done} before r t =
    let end = start + n in
    let at : At old.message old.index (tlvs r.took.read ++ t.stub) end = at_then r.took.at (subst (λ (m : List ℕ). At m d.index t.stub end) r.message t.at) in
    let size : n - (old.index - start) ≡ end - old.index = omega (arith, before, r.behind, r.inside) in
    let cut : TruncatedOptions old.message (end - old.index) old.index end = record {
      read = r.took.read;
      dropped = done;
      stub = t.stub;
      at = at;
      fit = r.took.fit;
      held = r.took.held;
      cut = subst (λ (k : ℕ). IsTruncated k t.stub) size t.cut;
    } in
    let field : Field old.message old.index Options [] end = record { is = inr (refl, cut) } in
    record {
      is = record {
        value = [];
        took = record { message = t.message ∙ r.message; field = subst (λ (q : ℕ). Field old.message old.index Options [] q) (sym t.there) field };
        asked = unasked rule Options [] (any_options rule);
        one = λ v q f e. e ∙ sym t.there;
        ends = t.there;
      };
    }

-- an option is rejected, so nothing is left in any way
options_refused : {rule : Rule} {start n : ℕ} {e : DecodeError} {old d b : Reading} {done : List (Numbered OptionValue)} → start ≤ old.index
    → d.index < start + n
    → ReadsOptions old (n - (old.index - start)) (start + n) done d → StaysBehind d b → NoneLeft d.message (n - (old.index - start)) d.index (start + n)
    → IsNextError old.index (n - (old.index - start)) d e b → Skips rule Options start n (Err e) old b
options_refused {rule} {start} {n} {e} {old} {d} {b} {done} before lt r behind none why =
    let size = n - (old.index - start) in
    let fits : old.index ≤ start + n = omega (arith, r.behind, r.inside) in
    record {
      is = record {
        behind = record { message = behind.message ∙ r.message; index = omega (arith, r.behind, behind.index) };
        none = record {
          none = λ v q f a there.
              none.none (subst (λ (m : List ℕ). OptionsLeft m size d.index (start + n)) (sym r.message) (r.rest (whole_left start n before fits there f)));
        };
        fault = inr (
          fits,
          record {
            between = d;
            before = record { message = r.message; values = done; took = r.took; before = omega (arith, lt, before, fits) };
            next = why;
          },
        );
      };
    }

end_is : (start n : ℕ) (old : Reading) → start ≤ old.index → old.index ≤ start + n → old.index + (n - (old.index - start)) ≡ start + n
end_is start n old before fits = omega arith

pub option_refused : {rule : Rule} {start n from size : ℕ} {e : DecodeError} {old d b : Reading} {done : List (Numbered OptionValue)} → start ≤ old.index
    → from ≡ old.index → size ≡ n - (old.index - start) → d.index < start + n → ReadsOptions old (n - (old.index - start)) (start + n) done d
    → RefusedTlv from size d e b → Skips rule Options start n (Err e) old b
option_refused {rule} {start} {n} {from} {size} {e} {old} {d} {b} {done} before same is lt r h =
    let fits : old.index ≤ start + n = omega (arith, r.behind, r.inside) in
    let k = n - (old.index - start) in
    let end : old.index + k ≡ start + n = end_is start n old before fits in
    let t : RefusedTlv old.index k d e b = subst (λ (i : ℕ). RefusedTlv old.index i d e b) is (subst (λ (i : ℕ). RefusedTlv i size d e b) same h) in
    let none : NoneLeft d.message k d.index (start + n) = subst (λ (q : ℕ). NoneLeft d.message k d.index q) end
    (tlv_none old.index k r.behind (omega (arith, end, lt)) t) in
    options_refused before lt r t.behind none (inl t.why)

-- a client subnet is rejected
pub subnet_refused : {rule : Rule} {start n from size code : ℕ} {e : DecodeError} {body : List ℕ} {old d b : Reading} {done : List (Numbered OptionValue)}
    → start ≤ old.index → from ≡ old.index → size ≡ n - (old.index - start) → d.index < start + n
    → ReadsOptions old (n - (old.index - start)) (start + n) done d → TookTlv d (from + size) (code, body) b → code ≡ 8 → IsSubnetError body e
    → Skips rule Options start n (Err e) old b
subnet_refused {rule} {start} {n} {from} {size} {code} {e} {body} {old} {d} {b} {done} before same is lt r h eight wrong =
    let fits : old.index ≤ start + n = omega (arith, r.behind, r.inside) in
    let k = n - (old.index - start) in
    let end : old.index + k ≡ start + n = end_is start n old before fits in
    let f : TookTlv d (old.index + k) (code, body) b = subst (λ (i : ℕ). TookTlv d (old.index + i) (code, body) b) is
    (subst (λ (i : ℕ). TookTlv d (i + size) (code, body) b) same h) in
    let g : TookTlv d (old.index + k) (8, body) b = subst (λ (i : ℕ). TookTlv d (old.index + k) (i, body) b) eight f in
    let t : TookTlv d (start + n) (8, body) b = subst (λ (q : ℕ). TookTlv d q (8, body) b) end g in
    let none : NoneLeft d.message k d.index (start + n) = record {
      none = λ left.
          let x = first_left t.at t.fits t.inside left in (subnet_none body e wrong).none x.0 x.1;
    } in
    options_refused before lt r (record { message = t.message; index = omega (arith, t.at.ends) }) none (inr (record
    { body = body; took = g; refused = wrong }))

-- an option more was taken
pub option_taken : (start n : ℕ) {from size code : ℕ} {body : List ℕ} {old d b : Reading} {done : List (Numbered OptionValue)} → start ≤ old.index
    → from ≡ old.index → size ≡ n - (old.index - start) → ReadsOptions old (n - (old.index - start)) (start + n) done d
    → TookTlv d (from + size) (code, body) b → (h : HasOption code body)
    → ReadsOptions old (n - (old.index - start)) (start + n) (done ++ (code, h.value) ∷ []) b
option_taken start n {from} {size} {code} {body} {old} {d} {b} {done} before same is r t h =
    let fits : old.index ≤ start + n = omega (arith, r.behind, r.inside) in
    let end : from + size ≡ start + n = omega (arith, same, is, before, fits) in
    options_more h.value r (subst (λ (q : ℕ). TookTlv d q (code, body) b) end t) h.held

-- the truncated one, by the same numbers
pub cut_taken : {rule : Rule} {start n from size : ℕ} {old d b : Reading} {done : List (Numbered OptionValue)} → start ≤ old.index
    → from ≡ old.index → size ≡ n - (old.index - start) → ReadsOptions old (n - (old.index - start)) (start + n) done d
    → TookCut d size (from + size) b → Skips rule Options start n (Ok tt) old b
cut_taken {rule} {start} {n} {from} {size} {old} {d} {b} {done} before same is r t =
    let fits : old.index ≤ start + n = omega (arith, r.behind, r.inside) in
    let end : from + size ≡ start + n = omega (arith, same, is, before, fits) in
    options_cut before r (subst (λ (k : ℕ). TookCut d k (start + n) b) is (subst (λ (q : ℕ). TookCut d size q b) end t))

-- ---- whole options that fill octets

-- so many were gone over
pub record OptionsRead (octets : List ℕ) (count offset : ℕ) : Type 0 where
  pub inside : offset ≤ length octets
  pub values : List (Numbered OptionValue)
  pub complete : CompleteOptions octets 0 values offset
  pub number : count ≡ length complete.read
  pub few : count ≤ offset

pub none_read : (octets : List ℕ) → OptionsRead octets 0 0
none_read octets = record {
  inside = omega arith;
  values = [];
  complete = record { read = []; at = record { ends = omega arith; within = omega arith; same = refl }; fit = tt; held = tt };
  number = refl;
  few = omega arith;
}

-- the octets of the value of an option
pub body_is : {octets : List ℕ} {offset end : ℕ} (t : TlvThere octets offset end) → slice octets (offset + 4) end ≡ t.body
body_is {octets} {offset} {end} t =
    let size = bytes_high_first 2 (length t.body) in
    let there : At octets (offset + 2 + 2) t.body end = at_rest size t.body (at_rest (bytes_high_first 2 t.key) (size ++ t.body) t.is.at) in
    let four : offset + 2 + 2 ≡ offset + 4 = omega arith in
    between_is (subst (λ (p : ℕ). At octets p t.body end) four there)

pub one_read : {octets : List ℕ} {count offset end : ℕ} → OptionsRead octets count offset → (offset + 4 ≤ end) × (end ≤ length octets)
    → (t : TlvThere octets offset end) → HasOption t.key t.body → OptionsRead octets (count + 1) end
one_read {octets} {count} {offset} {end} o room t h = record {
  inside = room.1;
  values = o.values ++ (t.key, h.value) ∷ [];
  complete = record {
    read = o.complete.read ++ (t.key, t.body) ∷ [];
    at = subst (λ (s : List ℕ). At octets 0 s end) (tlvs_more o.complete.read (t.key, t.body)) (at_then o.complete.at t.is.at);
    fit = all_append IsTlv o.complete.read ((t.key, t.body) ∷ []) o.complete.fit (t.is.fits, tt);
    held = held_more o.complete.read o.values (t.key, t.body) h.value o.complete.held h.held;
  };
  number = omega (arith, o.number, length-append o.complete.read ((t.key, t.body) ∷ []));
  few = omega (arith, o.few, room);
}

pub all_read : {octets : List ℕ} {count offset : ℕ} → OptionsRead octets count offset → length octets ≤ offset → HasOptions octets
all_read {octets} {count} {offset} o end =
    let all : offset ≡ length octets = omega (arith, o.inside, end) in
    record { values = o.values; complete = subst (λ (q : ℕ). CompleteOptions octets 0 o.values q) all o.complete }

pub all_counted : {octets : List ℕ} {count offset : ℕ} → OptionsRead octets count offset → length octets ≤ offset → CompleteBy octets count
all_counted {octets} {count} {offset} o end =
    let all : offset ≡ length octets = omega (arith, o.inside, end) in
    record {
      parts = record {
        read = o.complete.read;
        at = subst (λ (q : ℕ). At octets 0 (tlvs o.complete.read) q) all o.complete.at;
        fit = o.complete.fit;
      };
      number = o.number;
    }

-- they are taken if they fill the RDATA
pub options_fill : (start n : ℕ) {m : List ℕ} {at : ℕ} → at ≤ start + n → start + n ≤ length m → HasOptions (slice m at (start + n)) → (rule : Rule)
    → Skips rule Options start n (Ok tt) (record { message = m; index = at }) (record { message = m; index = start + n })
options_fill start n {m} {at} le inside h rule =
    let s = slice m at (start + n) in
    let c = h.complete in
    let whole : tlvs c.read ≡ s = sym c.at.same ∙ take_all (length (tlvs c.read)) s (omega (arith, c.at.ends)) in
    let there : CompleteOptions m at h.values (start + n) =
    record { read = c.read; at = subst (λ (x : List ℕ). At m at x (start + n)) (sym whole) (slice_at m at (start + n) le inside); fit = c.fit; held = c.held } in
    record {
      is = record {
        value = h.values;
        took = record { message = refl; field = record { is = inl there } };
        asked = unasked rule Options h.values (any_options rule);
        one = λ v q f e. e;
        ends = refl;
      };
    }
