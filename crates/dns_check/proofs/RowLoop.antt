-- How a row is gone over.
use Rattle.std.proofs.Common.{◌≡◌, ℕ, suc, ◌+◌, ◌≤◌, ◌<◌, inl, inr, List, [], ◌∷◌, length, drop, get_or, drop-cons, refl, sym, ap, ◌∙◌, arith, add-one, subst}
use Rattle.std.proofs.Common.{Ok, Err}
use Rattle.std.proofs.lemmas.List.{drop_all}
use Rattle.dns_types.specs.declared.error.DecodeError.{DecodeError}
use Rattle.dns_types.specs.declared.error.DecodeError.TheVariants as decode
use Rattle.dns_fields.specs.declared.Kind.{Kind}
use Rattle.dns_fields.specs.declared.Kind.TheVariants.{Number, Octets, Name, CharacterString}
use Rattle.dns_fields.specs.Fields.{Value, Values, Field, Stands, EndsItself}
use Rattle.dns_fields.proofs.FieldLaws.{field_inside}
use Rattle.dns_names_wire.specs.{State.Reading, Terms.StaysBehind}
use Rattle.dns_names_wire.proofs.FieldReads.{stands_inside}
use Rattle.dns_rows.specs.declared.row.Part.{Part}
use Rattle.dns_check.specs.Parts.{Reaches, Ends, Skipped, Refused, Skips}
use Rattle.dns_rows.specs.{Table.kinds_of, Rules.MeetsRow}
use Rattle.dns_check.specs.Rows.{AreCovered, IsRow, HasRow, RowFault, RowReached, TookRow, RefusedRow, asked_length, fewest}
use Rattle.dns_check.proofs.Asked.{asks_join, asks_split, row_fewest}

-- of the fields that are left the last one tells where the row ends; if none is left, it ends here
abbrev Reaching : (row left : List Part) → Values (kinds_of row) → Values (kinds_of left) → (end q : ℕ) → Type 0
Reaching row [] vs ws end q = RowReached row end vs q
Reaching row (p ∷ left) vs ws end q = RowReached (p ∷ left) end ws q → RowReached row end vs q

reaching_first : (row : List Part) (vs : Values (kinds_of row)) (end q : ℕ) → Reaching row row vs vs end q
reaching_first [] vs end q = tt
reaching_first (p ∷ left) vs end q = λ h. h

reaching_next : (row : List Part) (p : Part) (left : List Part) (m : List ℕ) (vs : Values (kinds_of row)) (v : Value p.kind) (ws : Values (kinds_of left)) (end at q : ℕ)
    → Reaching row (p ∷ left) vs (v, ws) end q → Ends p.kind p.rule end v at → Stands m at (kinds_of left) ws q → Reaching row left vs ws end q
reaching_next row p [] m vs v ws end at q h e s = h (subst (λ (i : ℕ). Ends p.kind p.rule end v i) s e)
reaching_next row p (l ∷ left) m vs v ws end at q h e s = h

-- the row, if what is left of it ends at an offset
pub record Gives (row left : List Part) (m : List ℕ) (at end q : ℕ) (ws : Values (kinds_of left)) : Type 0 where
  pub has : HasRow m at row q
  pub reached : Reaching row left has.values ws end q

-- the fields before those that are left were taken
pub record RowSo (row left : List Part) (n : ℕ) (old now : Reading) : Type 0 where
  pub behind : StaysBehind old now
  pub ordered : IsRow left
  pub covered : AreCovered left
  pub gives : (q : ℕ) (h : HasRow old.message now.index left q) → Gives row left old.message old.index (old.index + n) q h.values
  pub only : HasRow old.message old.index row (old.index + n) → HasRow old.message now.index left (old.index + n)
  pub fault : (e : DecodeError) (new : Reading) → RowFault left old.index n now e new → RowFault row old.index n old e new

pub none_so : (row : List Part) (n : ℕ) (old : Reading) → IsRow row → AreCovered row → RowSo row row n old old
none_so row n old ordered covered = record {
  behind = record { message = refl; index = omega arith };
  ordered = ordered;
  covered = covered;
  gives = λ q h. record { has = h; reached = reaching_first row h.values (old.index + n) q };
  only = λ h. h;
  fault = λ e new f. f;
}

pub behind_row : (p : Part) (left : List Part) → IsRow (p ∷ left) → IsRow left
behind_row p [] h = tt
behind_row p (l ∷ left) h = h.1

ends_reach : (k : Kind) (end q : ℕ) → EndsItself k → q ≤ end → Reaches k end q
ends_reach (Number w) end q h l = l
ends_reach (Octets n) end q h l = l
ends_reach Name end q h l = l
ends_reach CharacterString end q h l = l
ends_reach k end q h l = absurd h

end_reaches : (k : Kind) (end q : ℕ) → q ≡ end → Reaches k end q
end_reaches (Number w) end q h = omega arith
end_reaches (Octets n) end q h = omega arith
end_reaches Name end q h = omega arith
end_reaches CharacterString end q h = omega arith
end_reaches k end q h = h

-- a field behind which others stand ends itself, and the last one with the data
pub field_reaches : (m : List ℕ) (p : Part) (left : List Part) (q end : ℕ) (vs : Values (kinds_of left)) → IsRow (p ∷ left) → Stands m q (kinds_of left) vs end
    → Reaches p.kind end q
field_reaches m p [] q end vs h s = end_reaches p.kind end q s
field_reaches m p (l ∷ left) q end vs h s = ends_reach p.kind end q h.0 (stands_inside m q (kinds_of (l ∷ left)) vs end s)

-- one field more was taken
pub field_taken : (row : List Part) (p : Part) (left : List Part) (n : ℕ) (old now new : Reading) → RowSo row (p ∷ left) n old now
    → Skipped p.rule p.kind (old.index + n) now new → RowSo row left n old new
field_taken row p left n old now new so a =
    let same : now.message ≡ old.message = so.behind.message in
    let here : Field old.message now.index p.kind a.value new.index = subst (λ (m : List ℕ). Field m now.index p.kind a.value new.index) same a.took.field in
    record {
      behind = record { message = a.took.message ∙ same; index = omega (arith, so.behind.index, (field_inside here).0) };
      ordered = behind_row p left so.ordered;
      covered = so.covered.1;
      gives = λ q h.
          let g = so.gives q
          (record { values = (a.value, h.values); stands = (new.index, here, h.stands); meets = asks_join p.rule p.kind a.value (MeetsRow left h.values) a.asked h.meets }) in
          record {
            has = g.has;
            reached = reaching_next row p left old.message g.has.values a.value h.values (old.index + n) new.index q g.reached a.ends h.stands;
          };
      only = λ h.
          let k = so.only h in
          let q = k.stands.0 in
          let f : Field now.message now.index p.kind k.values.0 q = subst (λ (m : List ℕ). Field m now.index p.kind k.values.0 q) (sym same) k.stands.1 in
          let there : q ≡ new.index = a.one k.values.0 q f (field_reaches old.message p left q (old.index + n) k.values.1 so.ordered k.stands.2) in
          record {
            values = k.values.1;
            stands = subst (λ (x : ℕ). Stands old.message x (kinds_of left) k.values.1 (old.index + n)) there k.stands.2;
            meets = (asks_split p.rule p.kind k.values.0 (MeetsRow left k.values.1) k.meets).1;
          };
      fault = λ e next f. so.fault e next (inr (a.value, new, a.took, a.asked, a.ends, f));
    }

-- a field is refused
field_refused : (row : List Part) (p : Part) (left : List Part) (n : ℕ) (e : DecodeError) (old now new : Reading) → RowSo row (p ∷ left) n old now
    → asked_length row ≤ n → Refused p.rule p.kind old.index n now e new → RefusedRow row n old e new
field_refused row p left n e old now new so long r = record {
  behind = record { message = r.behind.message ∙ so.behind.message; index = omega (arith, so.behind.index, r.behind.index) };
  none = record {
    none = λ h.
        let k = so.only h in
        let q = k.stands.0 in
        let f : Field now.message now.index p.kind k.values.0 q = subst (λ (m : List ℕ). Field m now.index p.kind k.values.0 q)
        (sym so.behind.message) k.stands.1 in
        r.none.none k.values.0 q f (asks_split p.rule p.kind k.values.0 (MeetsRow left k.values.1) k.meets).0 (field_reaches old.message p left q
        (old.index + n) k.values.1 so.ordered k.stands.2);
  };
  error = inr (long, so.fault e new (inl r.fault));
}

-- all were taken
row_taken : (row : List Part) (n : ℕ) (old now : Reading) → RowSo row [] n old now → TookRow row n old now
row_taken row n old now so =
    let g = so.gives now.index (record { values = tt; stands = refl; meets = tt }) in
    record {
      behind = so.behind;
      fields = g.has;
      reached = g.reached;
      here = λ e. (so.gives (old.index + n) (record { values = tt; stands = e; meets = tt })).has;
      elsewhere = λ ne. record { none = λ h. ne (so.only h).stands };
    }

-- ---- by the index in the row

pub record AtPart (row : List Part) (at n : ℕ) (old now : Reading) : Type 0 where
  pub so : RowSo row (drop at row) n old now

pub at_first : {row : List Part} (n : ℕ) {old : Reading} → IsRow row → AreCovered row → AtPart row 0 n old old
at_first {row} n {old} ordered covered = record { so = none_so row n old ordered covered }

here_part : (row : List Part) (at n : ℕ) (old now : Reading) (d : Part) → at < length row → AtPart row at n old now
    → RowSo row (get_or row at d ∷ drop (suc at) row) n old now
here_part row at n old now d l so = subst (λ (left : List Part). RowSo row left n old now) (drop-cons row at d l) so.so

pub at_next : {row : List Part} {at start n : ℕ} {old now new : Reading} (d : Part) → AtPart row at n old now → at < length row → start ≡ old.index
    → Skips (get_or row at d).rule (get_or row at d).kind start n (Ok tt) now new → AtPart row (at + 1) n old new
at_next {row} {at} {start} {n} {old} {now} {new} d so l e s =
    let t : Skips (get_or row at d).rule (get_or row at d).kind old.index n (Ok tt) now new = rw (← e) s in
    record { so = rw add-one (field_taken row (get_or row at d) (drop (suc at) row) n old now new (here_part row at n old now d l so) t.is) }

pub part_refused : {row : List Part} {at start n : ℕ} {e : DecodeError} {old now new : Reading} (d : Part) → AtPart row at n old now → at < length row
    → start ≡ old.index → asked_length row ≤ n → Skips (get_or row at d).rule (get_or row at d).kind start n (Err e) now new → RefusedRow row n old e new
part_refused {row} {at} {start} {n} {e} {old} {now} {new} d so l is long s =
    let t : Skips (get_or row at d).rule (get_or row at d).kind old.index n (Err e) now new = rw (← is) s in
    field_refused row (get_or row at d) (drop (suc at) row) n e old now new (here_part row at n old now d l so) long t.is

pub at_last : {row : List Part} {at n : ℕ} {old now : Reading} → AtPart row at n old now → length row ≤ at → TookRow row n old now
at_last {row} {at} {n} {old} {now} so l = row_taken row n old now (subst (λ (left : List Part). RowSo row left n old now) (drop_all at row l) so.so)

-- RDLENGTH is less than the row asks for
pub row_short : {row : List Part} {n asked : ℕ} {old : Reading} → asked ≡ asked_length row → n < asked → asked_length row ≤ fewest row
    → RefusedRow row n old (decode.IncorrectRDataLengthRead n asked) old
row_short {row} {n} {asked} {old} is short least = record {
  behind = record { message = refl; index = omega arith };
  none = record { none = λ h. omega (arith, row_fewest old.message old.index row (old.index + n) h) };
  error = inl (record { error = ap (decode.IncorrectRDataLengthRead n) is; short = omega arith; unchanged = refl });
}
