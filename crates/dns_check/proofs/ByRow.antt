-- Records that are read by their rows.
use Rattle.std.proofs.Common.{Bool, ◌≡◌, ◌≢◌, ℕ, ◌+◌, inl, inr, List, [], ◌∷◌, true, false, refl, arith, subst, Result, Ok, Err}
use Rattle.dns_types.specs.declared.error.DecodeError.{DecodeError}
use Rattle.dns_types.specs.declared.error.DecodeError.TheVariants as decode
use Rattle.dns_fields.specs.declared.Kind.{Kind}
use Rattle.dns_fields.specs.declared.Kind.TheVariants.{Number, Octets, Name, CharacterString, CharacterStrings, Rest, Options, Parameters, Bitmap}
use Rattle.dns_fields.specs.{Fields.EndsItself, Fields.Value, Fields.Values}
use Rattle.dns_names_wire.specs.{State.Reading, Facts.Facts, Terms.Lacks, Terms.Refused, Terms.ReadsBy, Facts.RecordStands, Terms.NoRegion, Terms.RefusedRegion, Terms.ReadsIf, Terms.ReadsTo}
use Rattle.dns_names_wire.specs.{Terms.IsLong, Terms.AllEnd, Terms.StaysBehind, Terms.StringsReach, Terms.UnlessMemory, Terms.moved}
use Rattle.dns_names_wire.proofs.{RegionReads.Given, RegionReads.fields_region, RegionReads.filled_region, FieldReads.unless_map}
use Rattle.dns_rows.specs.{declared.row.Part.Part, declared.row.Rule.Rule, Table.kinds_of, Rules.MeetsRow}
use Rattle.dns_rows.specs.declared.row.Rule.TheVariants as rules
use Rattle.dns_check.proofs.RowTests.{both}
use Rattle.dns_check.specs.{Parts.Ends, Parts.KindFault, Rows.RowError, Rows.RowFault, Rows.NoRow, Rows.RowReached, Rows.RefusedRow}
use Rattle.dns_check.specs.ByRow.{IsAlone, NoneTaken, ReadsRow, RecordRefuses, all_alone, ends_alone}

pub unless_given : {P : Type 0} (e : DecodeError) → P → UnlessMemory e P
unless_given decode.Memory p = tt
unless_given e p = p

-- ---- a row that ends with the RDATA ends where its last field must

strings_end : (end : ℕ) (strings : List (List ℕ)) → StringsReach end strings end
strings_end end strings = record { reach = omega arith; last = λ front s e. omega arith }

ends_at : (k : Kind) (r : Rule) (end : ℕ) (v : Value k) → Ends k r end v end
ends_at (Number w) r end v = tt
ends_at (Octets w) r end v = tt
ends_at Name r end v = tt
ends_at CharacterString rules.Tag end v = omega arith
ends_at CharacterString r end v = tt
ends_at CharacterStrings r end v = strings_end end v
ends_at Rest r end v = refl
ends_at Options r end v = refl
ends_at Parameters r end v = (omega arith, omega arith)
ends_at Bitmap r end v = refl

reached_end : (row : List Part) (end : ℕ) (vs : Values (kinds_of row)) → RowReached row end vs end
reached_end [] end vs = tt
reached_end (p ∷ []) end vs = ends_at p.kind p.rule end vs.0
reached_end (p ∷ (l ∷ row)) end vs = reached_end (l ∷ row) end vs.1

-- ---- no value

pub none_region : (row : List Part) (n : ℕ) (old : Reading) → NoneTaken row n old → NoRegion old.message old.index n (kinds_of row) (MeetsRow row)
none_region row n old h = record { none = λ vs w. h.none vs (old.index + n) w.stands w.holds (reached_end row (old.index + n) vs) }

pub no_row_region : (row : List Part) (n : ℕ) (m : List ℕ) (p : ℕ) → NoRow m p row (p + n) → NoRegion m p n (kinds_of row) (MeetsRow row)
no_row_region row n m p h = record { none = λ vs w. h.none (record { values = vs; stands = w.stands; meets = w.holds }) }

-- ---- readers that answer whether there is a value

alone_end : (k : Kind) (r : Rule) → ends_alone k r ≡ true → EndsItself k
alone_end (Number w) r h = tt
alone_end (Octets w) r h = tt
alone_end Name r h = tt
alone_end CharacterString r h = tt
alone_end k r h = absurd cc

alone_ends : (row : List Part) → all_alone row ≡ true → AllEnd (kinds_of row)
alone_ends [] h = tt
alone_ends (p ∷ row) h = let b = both (ends_alone p.kind p.rule) (all_alone row) h in (alone_end p.kind p.rule b.0, alone_ends row b.1)

-- of fields that all say where they end
pub straight_row : {T : Type 0} (f : Facts T) (r : Result T DecodeError) (old new : Reading) (n : ℕ) → IsAlone f.row → Given old n
    → ReadsIf (kinds_of f.row) (λ vs e. MeetsRow f.row vs) f.fields r old new → ReadsRow f n r old new
straight_row f (Ok x) old new n a g h = fields_region (kinds_of f.row) (MeetsRow f.row) f.fields (Ok x) old new n a.long (alone_ends f.row a.alone) g h
straight_row f (Err e) old new n a g h =
    (h.behind, unless_map e _ _ (λ (l : Lacks old (kinds_of f.row) (λ vs e. MeetsRow f.row vs)). inl (record { none = λ vs q s m r. l.none vs q s m })) h.none)

-- the last field is one that ends with the RDATA
abbrev pub ends_whole : Kind → Bool
ends_whole Rest = true
ends_whole Options = true
ends_whole Bitmap = true
ends_whole k = false

abbrev pub last_whole : List Part → Bool
last_whole [] = false
last_whole (p ∷ []) = ends_whole p.kind
last_whole (p ∷ (l ∷ row)) = last_whole (l ∷ row)

whole_end : (k : Kind) (r : Rule) (v : Value k) (end q : ℕ) → ends_whole k ≡ true → Ends k r end v q → q ≡ end
whole_end Rest r v end q h e = e
whole_end Options r v end q h e = e
whole_end Bitmap r v end q h e = e
whole_end k r v end q h e = absurd cc

reached_whole : (row : List Part) (vs : Values (kinds_of row)) (end q : ℕ) → last_whole row ≡ true → RowReached row end vs q → q ≡ end
reached_whole [] vs end q h r = absurd cc
reached_whole (p ∷ []) vs end q h r = whole_end p.kind p.rule vs.0 end q h r
reached_whole (p ∷ (l ∷ row)) vs end q h r = reached_whole (l ∷ row) vs.1 end q h r

-- of fields that are read to the length, the last of which ends with the RDATA
pub exact_row : {T : Type 0} (f : Facts T) (r : Result T DecodeError) (old new : Reading) (n : ℕ) → IsLong (kinds_of f.row) → last_whole f.row ≡ true → Given old n
    → ReadsTo (kinds_of f.row) (MeetsRow f.row) n f.fields r old new → ReadsRow f n r old new
exact_row f (Ok x) old new n long whole g h = filled_region (kinds_of f.row) (MeetsRow f.row) f.fields (Ok x) old new n long g h
exact_row f (Err e) old new n long whole g h = (
  h.behind,
  unless_map e _ _ (λ (l : Lacks old (kinds_of f.row) (λ vs q. (q ≡ old.index + n) × MeetsRow f.row vs)). inl (record {
    none = λ vs q s m r. l.none vs q s (reached_whole f.row vs (old.index + n) q whole r, m);
  })) h.none,
)

-- why RDATA is rejected, and that no value is there
pub refused_row : (row : List Part) (n : ℕ) (e : DecodeError) (old new : Reading) → RefusedRow row n old e new
    → RefusedRegion e old n (kinds_of row) (MeetsRow row) new
refused_row row n e old new h = record { behind = h.behind; none = unless_given e (no_row_region row n old.message old.index h.none) }

-- a reader that finds nothing
pub refused_none : (row : List Part) (n : ℕ) (e : DecodeError) (old : Reading) → UnlessMemory e (NoneTaken row n old)
    → UnlessMemory e (NoRegion old.message old.index n (kinds_of row) (MeetsRow row))
refused_none row n e old h = unless_map e _ _ (none_region row n old) h

-- the decoder stays in the message, and does not go back
pub reads_behind : {T : Type 0} (f : Facts T) (n : ℕ) (r : Result T DecodeError) (old new : Reading) → ReadsRow f n r old new → StaysBehind old new
reads_behind f n (Ok x) old new h = h.behind
reads_behind f n (Err e) old new h = h.0

moved_start : {old d : Reading} {start : ℕ} → StaysBehind old d → start ≡ old.index → moved d start ≡ old
moved_start {old} {d} {start} h i = rw (h.message, i) refl

-- the row's error from where a reader began
pub refused_at : (row : List Part) {own : List Part} {n start : ℕ} {e : DecodeError} {old d new : Reading} → own ≡ row → start ≡ old.index → StaysBehind old d
    → RefusedRow own n (moved d start) e new → RefusedRow row n old e new
refused_at row {own} {n} {start} {e} {old} {d} {new} same i behind h =
    subst (λ (r : List Part). RefusedRow r n old e new) same (subst (λ (x : Reading). RefusedRow own n x e new) (moved_start behind i) h)

-- ---- rows that do not need RDLENGTH

fault_any : (k : Kind) (r : Rule) (start n l : ℕ) (old : Reading) (e : DecodeError) (new : Reading) → ends_alone k r ≡ true → KindFault r k start n old e new
    → KindFault r k start l old e new
fault_any (Number w) r start n l old e new h f = f
fault_any (Octets w) r start n l old e new h f = f
fault_any Name r start n l old e new h f = f
fault_any CharacterString rules.Tag start n l old e new h f = absurd cc
fault_any CharacterString r start n l old e new h f = f
fault_any k r start n l old e new h f = absurd cc

ends_any : (k : Kind) (r : Rule) (v : Value k) (end last q : ℕ) → ends_alone k r ≡ true → Ends k r end v q → Ends k r last v q
ends_any (Number w) r v end last q h x = x
ends_any (Octets w) r v end last q h x = x
ends_any Name r v end last q h x = x
ends_any CharacterString rules.Tag v end last q h x = absurd cc
ends_any CharacterString r v end last q h x = x
ends_any k r v end last q h x = absurd cc

faults_any : (row : List Part) (start n l : ℕ) (old : Reading) (e : DecodeError) (new : Reading) → all_alone row ≡ true → RowFault row start n old e new
    → RowFault row start l old e new
faults_any [] start n l old e new h f = f
faults_any (p ∷ row) start n l old e new h (inl f) = inl (fault_any p.kind p.rule start n l old e new (both (ends_alone p.kind p.rule) (all_alone row) h).0 f)
faults_any (p ∷ row) start n l old e new h (inr (v, between, took, asked, ends, f)) = inr (
  v,
  between,
  took,
  asked,
  ends_any p.kind p.rule v (start + n) (start + l) between.index (both (ends_alone p.kind p.rule) (all_alone row) h).0 ends,
  faults_any row start n l between e new (both (ends_alone p.kind p.rule) (all_alone row) h).1 f,
)

pub error_any : (row : List Part) (n l : ℕ) (old : Reading) (e : DecodeError) (new : Reading) → IsAlone row → RowError row n old e new → RowError row l old e new
error_any row n l old e new alone (inl h) = absurd (omega (arith, h.short, alone.asked))
error_any row n l old e new alone (inr h) = inr (omega (arith, alone.asked), faults_any row old.index n l old e new alone.alone h.1)

-- what holds unless memory ran out, where it did not
pub unless_told : {P : Type 0} (e : DecodeError) → UnlessMemory e P → e ≢ decode.Memory → P
unless_told decode.Memory h ne = absurd (ne refl)
unless_told e h ne = h

-- why a record is rejected that is read without an RDLENGTH, and that none is there
pub refuses_alone : {T : Type 0} (f : Facts T) (n : ℕ) (e own : DecodeError) (old new stopped : Reading) → IsAlone f.row → own ≢ decode.Memory
    → Refused own old (kinds_of f.row) (λ vs q. MeetsRow f.row vs) stopped → RefusedRow f.row n old e new
    → ReadsBy (RecordStands f) (Err e) old new × RecordRefuses f old e new
refuses_alone f n e own old new stopped alone ne r h =
    let none : Lacks old (kinds_of f.row) (λ vs q. MeetsRow f.row vs) = unless_told own r.none ne in (
      (h.behind, unless_given e (λ x q s. none.none (f.fields x) q s.0 s.1)),
      ((λ k. unless_given e (error_any f.row n k old e new alone h.error)), record { behind = h.behind; none = unless_given e none }),
    )
