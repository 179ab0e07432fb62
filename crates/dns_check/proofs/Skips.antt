-- The steps by which fields are gone over.
use Rattle.std.proofs.Common.{◌≡◌, ℕ, ◌+◌, ◌-◌, ◌*◌, ◌/◌, ◌^◌, ◌≤◌, ◌<◌, ◌⊎◌, inl, inr, List, ◌≢◌, bit_and, length, refl, sym, ap, ◌∙◌, arith, subst}
use Rattle.std.proofs.Common.{Result, Ok, Err, false}
use Rattle.std.specs.{Char.is_ascii_alphanumeric, List.list_all, Int.bytes_high_first}
use Rattle.dns_types.specs.declared.error.DecodeError.{DecodeError}
use Rattle.dns_types.specs.declared.error.DecodeError.TheVariants as decode
use Rattle.dns_fields.specs.declared.Kind.{Kind}
use Rattle.dns_fields.specs.declared.Kind.TheVariants.{Number, Octets, Name, CharacterString, Rest}
use Rattle.dns_fields.specs.{Fields.Value, Fields.Field, Fields.EndsItself, Octets.AreOctets, Octets.At}
use Rattle.dns_fields.proofs.{Numbers.length-bytes, FieldLaws.field_inside, FieldLaws.field_same, FieldLaws.field_end, OctetLaws.AreOctets-at}
use Rattle.dns_names_wire.specs.{State.Reading, Terms.TookField, Terms.LacksField, Terms.LacksOctets, Terms.LacksText, Terms.RefusedField, Terms.UnlessMemory}
use Rattle.dns_names_wire.proofs.FieldReads.{stays}
use Rattle.dns_rows.specs.declared.row.{Rule.Rule}
use Rattle.dns_rows.specs.declared.row.Rule.TheVariants as rules
use Rattle.dns_rows.specs.Rules.{AreLetters, AreKnownFlags}
use Rattle.dns_names_wire.specs.Terms.{TookSome}
use Rattle.dns_check.specs.Parts.{IsUnasked, Asks, Ends, IsCovered, Skipped, NoPart, StringFault, LacksNumber, NumberFault, EndFault, RestFault, Skips}
use Rattle.dns_check.specs.Parts.{step_of}
use Rattle.dns_check.proofs.{Numbers.number_of, Asked.unasked, Bitmaps.set_of}
use Rattle.dns_check.specs.Blocks.{AreBlocks, NoBlocks}
use Rattle.dns_fields.specs.Bitmaps.{BitmapAt}
use Rattle.dns_fields.proofs.NameOffsets.{At-same_end}
use Rattle.dns_fields.specs.declared.Kind.TheVariants.{Parameters, Bitmap}

-- a field that says itself where it ends was taken
pub skipped_itself : {rule : Rule} {k : Kind} {v : Value k} {end : ℕ} {old new : Reading} → EndsItself k → TookField old k v new → Asks rule k v
    → Ends k rule end v new.index → Skipped rule k end old new
skipped_itself itself t a e = record { value = _; took = t; asked = a; one = λ w q f r. field_end itself f t.field; ends = e }

pub none_by : {rule : Rule} {k : Kind} {end : ℕ} {old : Reading} → LacksField old k → NoPart rule k end old
none_by l = record { none = λ v q f a r. l.none v q f }

-- ---- numbers

pub number_taken : {old new : Reading} {w : ℕ} {s : List ℕ} → AreOctets old.message → TookField old (Octets w) s new → TookSome old (Number w) new
number_taken {old} {new} {w} {s} octets t =
    let n = number_of s (AreOctets-at old.message old.index s new.index octets t.field.is.1) in
    let len : length s ≡ w = t.field.is.0 in
    record {
      value = n.number;
      took = record {
        message = t.message;
        field = record {
          is = (
            subst (λ (k : ℕ). n.number < 256 ^ k) len n.small,
            subst (λ (x : List ℕ). At old.message old.index x new.index) (sym n.same ∙ ap (λ (k : ℕ). bytes_high_first k n.number) len) t.field.is.1,
          );
        };
      };
    }

pub lacks_number : {old : Reading} {w : ℕ} → LacksOctets old w → LacksField old (Number w)
lacks_number {old} {w} l = record { none = λ v q f. omega (arith, l, f.is.1.ends, f.is.1.within, length-bytes w v) }

pub lacks_octets : {old : Reading} {w : ℕ} → LacksOctets old w → LacksField old (Octets w)
lacks_octets {old} {w} l = record { none = λ v q f. omega (arith, l, f.is.1.ends, f.is.1.within, f.is.0) }

number_fault : (rule : Rule) (w : ℕ) (old new : Reading) (e : DecodeError) → LacksNumber w old e new → NumberFault rule w old e new
number_fault rules.KnownFlags w old new e l = inl l
number_fault r w old new e l = l

pub number_skips : {rule : Rule} {w start n : ℕ} {s : List ℕ} {old new : Reading} → TookField old (Octets w) s new → AreOctets old.message
    → IsUnasked rule (Number w) → Skips rule (Number w) start n (Ok tt) old new
number_skips {rule} {w} t octets u = let x = number_taken octets t in record { is = skipped_itself tt x.took (unasked rule (Number w) x.value u) tt }

pub number_refused : {rule : Rule} {w start n : ℕ} {e : DecodeError} {old new : Reading} → LacksOctets old w → e ≡ decode.InsufficientBytes → new ≡ old
    → Skips rule (Number w) start n (Err e) old new
number_refused {rule} {w} {e = e} {old = old} {new = new} l why same = record {
  is = record {
    behind = rw same (stays old);
    none = none_by (lacks_number l);
    fault = number_fault rule w old new e (why, l, same);
  };
}

-- flags of two octets

pub flags_skip : {start n v : ℕ} {old new : Reading} → TookField old (Number 2) v new → AreKnownFlags v → Skips rules.KnownFlags (Number 2) start n (Ok tt) old new
flags_skip t known = record { is = skipped_itself tt t (known, tt) tt }

pub flags_refused : {start n : ℕ} {e : DecodeError} {old new : Reading} → LacksOctets old 2 → e ≡ decode.InsufficientBytes → new ≡ old
    → Skips rules.KnownFlags (Number 2) start n (Err e) old new
flags_refused l why same = number_refused l why same

pub flags_wrong : {start n v : ℕ} {old new : Reading} → TookField old (Number 2) v new → bit_and v 252 ≢ 0
    → Skips rules.KnownFlags (Number 2) start n (Err (decode.UnrecognizedCsyncFlags v)) old new
flags_wrong {start} {n} {v} {old} {new} t bad = record {
  is = record {
    behind = record { message = t.message; index = (field_inside t.field).0 };
    none = record {
      none = λ w q f a r.
          bad (subst AreKnownFlags (field_same (subst (λ (j : ℕ). Field old.message old.index (Number 2) w j) (field_end
          {k = Number 2} tt f t.field) f) t.field) a.0);
    };
    fault = inr (record { flags = v; error = refl; took = t; unknown = bad });
  };
}

-- ---- octets

any_octets : (rule : Rule) (w : ℕ) → IsUnasked rule (Octets w)
any_octets rules.Letters w = tt
any_octets r w = tt

any_name : (rule : Rule) → IsUnasked rule Name
any_name rules.Letters = tt
any_name r = tt

pub octets_skip : {rule : Rule} {w start n : ℕ} {s : List ℕ} {old new : Reading} → TookField old (Octets w) s new → Skips rule (Octets w) start n (Ok tt) old new
octets_skip {rule} {w} t = record { is = skipped_itself tt t (unasked rule (Octets w) _ (any_octets rule w)) tt }

pub octets_refused : {rule : Rule} {w start n step : ℕ} {e : DecodeError} {old new : Reading} → LacksOctets old w → e ≡ decode.InsufficientBytes
    → new.message ≡ old.message → new.index ≡ old.index + (length old.message - old.index) / step * step → step ≡ step_of rule
    → Skips rule (Octets w) start n (Err e) old new
octets_refused {rule} {old = old} {new = new} l why m i same =
    let x : new.index ≡ old.index + (length old.message - old.index) / step_of rule * step_of rule = rw (← same) i in
    record {
      is = record {
        behind = record { message = m; index = omega (arith, i) };
        none = none_by (lacks_octets l);
        fault = (why, l, x);
      };
    }

-- ---- names

pub name_skips : {rule : Rule} {start n : ℕ} {old new : Reading} → TookSome old Name new → Skips rule Name start n (Ok tt) old new
name_skips {rule} t = record { is = skipped_itself tt t.took (unasked rule Name _ (any_name rule)) tt }

pub name_refused : {rule : Rule} {start n : ℕ} {e : DecodeError} {old new : Reading} → LacksField old Name → e ≡ decode.NameInvalid → new ≡ old
    → Skips rule Name start n (Err e) old new
name_refused {old = old} l why same = record { is = record { behind = rw same (stays old); none = none_by l; fault = (why, l, same) } }

-- ---- strings

string_fault : (rule : Rule) (start n : ℕ) (old new : Reading) (e : DecodeError) → IsUnasked rule CharacterString → e ≡ decode.InsufficientBytes
    → LacksText old new
    → StringFault rule start n old e new
string_fault rules.Letters start n old new e p why l = absurd p
string_fault rules.Tag start n old new e p why l = absurd p
string_fault r start n old new e p why l = (why, l)

pub lacks_of : {e : DecodeError} {old new : Reading} {k : Kind} → e ≡ decode.InsufficientBytes → RefusedField e old k new → LacksField old k
lacks_of {e} {old} {new} {k} why r = let P : DecodeError → Type 0 = λ x. UnlessMemory x (LacksField old k) in subst P why r.none

pub any_end : (rule : Rule) (end : ℕ) (s : List ℕ) (q : ℕ) → IsUnasked rule CharacterString → Ends CharacterString rule end s q
any_end rules.Tag end s q u = absurd u
any_end r end s q u = tt

pub string_skips : {rule : Rule} {start n : ℕ} {s : List ℕ} {old new : Reading} → TookField old CharacterString s new → IsUnasked rule CharacterString
    → Skips rule CharacterString start n (Ok tt) old new
string_skips {rule} t p = record { is = skipped_itself tt t (unasked rule CharacterString _ p) (any_end rule _ _ _ p) }

pub string_refused : {rule : Rule} {start n : ℕ} {e : DecodeError} {old new : Reading} → RefusedField e old CharacterString new → e ≡ decode.InsufficientBytes
    → LacksText old new
    → IsUnasked rule CharacterString → Skips rule CharacterString start n (Err e) old new
string_refused {rule} {start} {n} {e} {old} {new} r why l p =
    record { is = record { behind = r.behind; none = none_by (lacks_of why r); fault = string_fault rule start n old new e p why l } }

pub letters_skip : {start n : ℕ} {s : List ℕ} {old new : Reading} → TookField old CharacterString s new → AreLetters s → Skips rules.Letters CharacterString start n (Ok tt) old new
letters_skip t a = record { is = skipped_itself tt t (a, tt) tt }

pub letters_refused : {start n : ℕ} {e : DecodeError} {old new : Reading} → RefusedField e old CharacterString new → e ≡ decode.InsufficientBytes
    → LacksText old new
    → Skips rules.Letters CharacterString start n (Err e) old new
letters_refused {e = e} {old} {new} r why l = record { is = record { behind = r.behind; none = none_by (lacks_of why r); fault = inl (why, l) } }

-- the letters are wrong
pub letters_wrong : {start n : ℕ} {s : List ℕ} {old new : Reading} → TookField old CharacterString s new → list_all is_ascii_alphanumeric s ≡ false
    → Skips rules.Letters CharacterString start n (Err decode.NaptrFlagsInvalid) old new
letters_wrong {start} {n} {s} {old} {new} t bad =
    let un : AreLetters s → ⊥ = λ h. absurd cc in
    record {
      is = record {
        behind = record { message = t.message; index = (field_inside t.field).0 };
        none = record {
          none = λ v q f a r. un (subst AreLetters (field_same (subst (λ (j : ℕ). Field old.message old.index CharacterString v j) (field_end
              {k = CharacterString} tt f t.field) f) t.field) a.0);
        };
        fault = inr (refl, record { string = s; took = t; bad = un });
      };
    }

-- ---- the rest

rest_fault : (rule : Rule) (start n : ℕ) (old : Reading) (e : DecodeError) → EndFault start n old e → RestFault rule start n old e
rest_fault rules.Some start n old e f = inl f
rest_fault r start n old e f = f

rest_asked : (rule : Rule) (s : List ℕ) → (rule ≡ rules.Some → 1 ≤ length s) → Asks rule Rest s
rest_asked rules.Some s h = ((λ e. absurd (omega (arith, h refl, ap length e))), tt)
rest_asked r s h = tt

pub rest_skips : {rule : Rule} {start n : ℕ} {s : List ℕ} {old new : Reading} → TookField old (Octets (n - (old.index - start))) s new → start ≤ old.index
    → old.index - start ≤ n → (rule ≡ rules.Some → old.index - start < n) → Skips rule Rest start n (Ok tt) old new
rest_skips {rule} {start} {n} {s} {old} {new} t before fits some =
    let there : new.index ≡ start + n = omega (arith, t.field.is.1.ends, t.field.is.0) in
    record {
      is = record {
        value = s;
        took = record { message = t.message; field = record { is = t.field.is.1 } };
        asked = rest_asked rule s (λ e. omega (arith, some e, t.field.is.0));
        one = λ v q f r. r ∙ sym there;
        ends = there;
      };
    }

no_rest : {rule : Rule} {end : ℕ} {old : Reading} → (end < old.index) ⊎ (length old.message < end) → NoPart rule Rest end old
no_rest (inl past) = record { none = λ v q f a r. omega (arith, r, f.is.ends) }
no_rest (inr cut) = record { none = λ v q f a r. omega (arith, r, f.is.within) }

pub rest_refused : {rule : Rule} {start n : ℕ} {e : DecodeError} {old new : Reading} → LacksOctets old (n - (old.index - start)) → e ≡ decode.InsufficientBytes
    → new ≡ old → start ≤ old.index → old.index - start ≤ n → Skips rule Rest start n (Err e) old new
rest_refused {rule} {start} {n} {e} {old = old} l why same before fits =
    record {
      is = record {
        behind = rw same (stays old);
        none = no_rest (inr (omega (arith, l)));
        fault = (
          same,
          rest_fault rule start n old e (inr
              (why, l)),
        );
      };
    }

pub rest_passed : {rule : Rule} {start n read : ℕ} {old : Reading} → read ≡ old.index - start → n < read → start ≤ old.index
    → Skips rule Rest start n (Err (decode.IncorrectRDataLengthRead read n)) old old
rest_passed {rule} {start} {n} {read} {old} is past before =
    rw is (record {
      is = record {
        behind = stays old;
        none = no_rest (inl (omega arith));
        fault = (refl, rest_fault rule start n old (decode.IncorrectRDataLengthRead (old.index - start) n) (inl (refl, omega arith)));
      };
    })

-- ---- bitmaps

any_bitmap : (rule : Rule) → IsUnasked rule Bitmap
any_bitmap rules.Letters = tt
any_bitmap r = tt

-- octets up to the end, and where they end
end_taken : {start n : ℕ} {s : List ℕ} {old new : Reading} → TookField old (Octets (n - (old.index - start))) s new → start ≤ old.index
    → old.index - start ≤ n → new.index ≡ start + n
end_taken t before fits = omega (arith, t.field.is.1.ends, t.field.is.0)

pub bitmap_skips : {rule : Rule} {start n : ℕ} {s : List ℕ} {old new : Reading} → TookField old (Octets (n - (old.index - start))) s new → start ≤ old.index
    → old.index - start ≤ n → AreBlocks s → Skips rule Bitmap start n (Ok tt) old new
bitmap_skips {rule} {start} {n} {s} {old} {new} t before fits b =
    let set = set_of b.blocks b.fit in
    let there = end_taken t before fits in
    record {
      is = record {
        value = set.types;
        took = record {
          message = t.message;
          field = record {
            is = record {
              blocks = b.blocks;
              at = subst (λ (x : List ℕ). At old.message old.index x new.index) b.spelled t.field.is.1;
              fit = b.fit;
              set = set.set;
              types = set.same;
            };
          };
        };
        asked = unasked rule Bitmap set.types (any_bitmap rule);
        one = λ v q f r. r ∙ sym there;
        ends = there;
      };
    }

pub bitmap_wrong : {rule : Rule} {start n : ℕ} {s : List ℕ} {e : DecodeError} {old new : Reading} → TookField old (Octets (n - (old.index - start))) s new
    → start ≤ old.index → old.index - start ≤ n → NoBlocks s → e ≡ decode.BitmapInvalid → Skips rule Bitmap start n (Err e) old new
bitmap_wrong {rule} {start} {n} {s} {e} {old} {new} t before fits b why =
    let there = end_taken t before fits in
    let none : (v : List ℕ) → BitmapAt old.message old.index v (start + n) → ⊥ = λ v f.
    b.none f.blocks f.fit (At-same_end (subst (λ (q : ℕ). At old.message old.index s q) there t.field.is.1) f.at) in
    record {
      is = record {
        behind = record { message = t.message; index = (field_inside t.field).0 };
        none = record { none = λ v q f a r. none v (subst (λ (x : ℕ). BitmapAt old.message old.index v x) r f.is) };
        fault = inr (record {
          error = why;
          from = omega (arith, before, fits);
          within = omega (arith, there, (field_inside t.field).1);
          none = none;
          message = t.message;
          index = there;
        });
      };
    }

no_bitmap : {rule : Rule} {end : ℕ} {old : Reading} → (end < old.index) ⊎ (length old.message < end) → NoPart rule Bitmap end old
no_bitmap (inl past) = record { none = λ v q f a r. omega (arith, r, (field_inside f).0) }
no_bitmap (inr cut) = record { none = λ v q f a r. omega (arith, r, (field_inside f).1) }

pub bitmap_refused : {rule : Rule} {start n : ℕ} {e : DecodeError} {old new : Reading} → LacksOctets old (n - (old.index - start))
    → e ≡ decode.InsufficientBytes
    → new ≡ old → start ≤ old.index → old.index - start ≤ n → Skips rule Bitmap start n (Err e) old new
bitmap_refused {rule} {start} {n} {e} {old = old} l why same before fits =
    record { is = record { behind = rw same (stays old); none = no_bitmap (inr (omega (arith, l))); fault = inl (same, inr (why, l)) } }

pub bitmap_passed : {rule : Rule} {start n read : ℕ} {old : Reading} → read ≡ old.index - start → n < read → start ≤ old.index
    → Skips rule Bitmap start n (Err (decode.IncorrectRDataLengthRead read n)) old old
bitmap_passed {rule} {start} {n} {read} {old} is past before =
    rw is (record {
      is = record {
        behind = stays old;
        none = no_bitmap (inl (omega arith));
        fault = inl (refl, inl (refl, omega arith));
      };
    })

-- ---- any kind

pub skips_as : {rule : Rule} {k l : Kind} {start n : ℕ} {r : Result (Unit {0}) DecodeError} {old new : Reading} → Skips rule l start n r old new → k ≡ l
    → Skips rule k start n r old new
skips_as {rule} {start = start} {n} {r} {old} {new} s e = subst (λ (x : Kind). Skips rule x start n r old new) (sym e) s

pub skips_rule : {rule other : Rule} {k l : Kind} {start n : ℕ} {r : Result (Unit {0}) DecodeError} {old new : Reading} → Skips other l start n r old new
    → rule ≡ other → k ≡ l
    → Skips rule k start n r old new
skips_rule {rule} {other} {k} {l} {start} {n} {r} {old} {new} s e f =
    skips_as (subst (λ (x : Rule). Skips x l start n r old new) (sym e) s) f

-- flags have two octets
pub flags_as : {rule : Rule} {k : Kind} {w start n : ℕ} {r : Result (Unit {0}) DecodeError} {old new : Reading}
    → Skips rules.KnownFlags (Number 2) start n r old new
    → rule ≡ rules.KnownFlags → k ≡ Number w → IsCovered k rule → Skips rule k start n r old new
flags_as {rule} {k} {w} {start} {n} {r} {old} {new} s e f c =
    let two : w ≡ 2 = subst (λ (x : Kind). IsCovered x rules.KnownFlags) f (subst (λ (x : Rule). IsCovered k x) e c) in
    skips_rule s e (f ∙ ap Number two)

-- parameters are asked for paths
paths_covered : (rule : Rule) → IsCovered Parameters rule → rule ≡ rules.Paths
paths_covered rules.Paths c = refl
paths_covered r c = absurd c

pub parameters_as : {rule : Rule} {k : Kind} {start n : ℕ} {r : Result (Unit {0}) DecodeError} {old new : Reading}
    → Skips rules.Paths Parameters start n r old new
    → k ≡ Parameters → IsCovered k rule → Skips rule k start n r old new
parameters_as {rule} s f c = skips_rule s (paths_covered rule (subst (λ (x : Kind). IsCovered x rule) f c)) f
