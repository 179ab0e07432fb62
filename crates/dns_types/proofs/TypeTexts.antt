-- A text is read as one type at most: a name is no TYPE with a number, and each type has a name of its own.
use Rattle.std.proofs.Common.{MatchOption, codes, decimal, refl, sym, ◌∙◌, ap, subst, inl, inr, lit<, arith}
use Rattle.std.proofs.lemmas.Fmt.{decimal_is_IsNumeral, length-decimal-le}
use Rattle.std.proofs.Common.{◌≡◌, ℕ, ◌<◌, ◌^◌, ◌==◌, Bool, true, false, ◌&&◌, cond, List, [], ◌∷◌, ◌++◌, drop, find, Option, Some, None, Result, Ok, Err}
use Rattle.std.specs.{Cmp.Lexicographic.pointwise, Cmp.Lexicographic.pointwise_decides, Str.Parse.digits_value, Cmp.unsigned_Decides, Option.ok_or}
use Rattle.dns_types.specs.declared.{error.DecodeError.TheVariants.UnknownRecordTypeStr, record_type.RecordType.TheVariants.Unknown}
use Rattle.dns_types.specs.{declared.record_type.RecordType.RecordType, declared.error.DecodeError.DecodeError, RecordTypes.ReadsPrinted}
use Rattle.dns_types.specs.RecordTypes.{number_of, is_named, named_types, record_type_of, type_text, has_name, IsTypeName, IsNumberText, IsTypeText, ReadsType}
use Rattle.dns_types.proofs.RecordTypeLaws.{number_of-record_type_of}

-- what a first match is
found : {X : Type 0} (p : X → Bool) (xs : List X) (x : X) → find p xs ≡ Some x → p x ≡ true
found p [] x e = let bad : ⊥ = cc in absurd bad
found p (y ∷ xs) x e =
    let later = found p xs x in
    grind (arith, later)

name_text : (text : List ℕ) (t : RecordType) → has_name text t ≡ true → IsTypeName text t
name_text text t e = by_named (is_named t) refl e
  where
    by_named : (b : Bool) → is_named t ≡ b → b && pointwise ◌==◌ (type_text t) text ≡ true → IsTypeName text t
    by_named true n e = record { named = n; printed = sym ((pointwise_decides unsigned_Decides (type_text t) text).0 e) }
    by_named false n e = let bad : ⊥ = cc in absurd bad

-- each name leads back to its type
name_found : (t : RecordType) → is_named t ≡ true → find (has_name (type_text t)) named_types ≡ Some t
name_found (Unknown n) e = let bad : ⊥ = cc in absurd bad
name_found t e = refl

number_of_text : {text : List ℕ} {t u : RecordType} → IsNumberText text t → IsNumberText text u → u ≡ t
number_of_text {text} {t} {u} a b =
    let e : codes "TYPE" ++ a.digits ≡ codes "TYPE" ++ b.digits = sym a.spelled ∙ b.spelled in
    let d : a.digits ≡ b.digits = ap (drop 4) e in
    b.value ∙ ap (λ ds. record_type_of (digits_value 10 ds)) (sym d) ∙ sym a.value

-- a text that is a name is the first match's
name_match : (text : List ℕ) (u : RecordType) → IsTypeName text u → find (has_name text) named_types ≡ Some u
name_match text u n = rw n.printed (name_found u n.named)

-- no name begins with TYPE
number_match : (text : List ℕ) (u : RecordType) → IsNumberText text u → find (has_name text) named_types ≡ None
number_match text u n = rw n.spelled refl

pub reads_name : (text : List ℕ) (t : RecordType) → find (has_name text) named_types ≡ Some t → ReadsType text (Ok t)
reads_name text t e = (inl (name_text text t (found (has_name text) named_types t e)), one)
  where
    one : (u : RecordType) → IsTypeText text u → u ≡ t
    one u (inl n) = let m = name_match text u n in cc
    one u (inr n) = let m = number_match text u n in cc

-- what TYPE and a number decide, where no name did
pub reads_number : (text : List ℕ) (o : Option RecordType) → find (has_name text) named_types ≡ None
    → MatchOption o ((t : RecordType) → ¬ (IsNumberText text t)) (λ t. IsNumberText text t) → ReadsType text (ok_or o UnknownRecordTypeStr)
reads_number text (Some t) e n = (inr n, one)
  where
    one : (u : RecordType) → IsTypeText text u → u ≡ t
    one u (inl m) = let f = name_match text u m in cc
    one u (inr m) = number_of_text n m
reads_number text None e n = (refl, none)
  where
    none : (u : RecordType) → ¬ (IsTypeText text u)
    none u (inl m) = let f = name_match text u m in cc
    none u (inr m) = n u m

-- what the type of a number prints is a text of that type
printed_text : (n : ℕ) (t : RecordType) → n < 2 ^ 16 → t ≡ record_type_of n → IsTypeText (type_text t) t
printed_text n (Unknown m) small e =
    let same : m ≡ n = ap number_of e ∙ number_of-record_type_of n in
    let below : m < 2 ^ 16 = omega arith in
    let wide : m < 2 ^ 64 = omega arith in
    let written = decimal_is_IsNumeral m wide in
    let read : digits_value 10 (decimal m) ≡ n = written.1 ∙ same in
    inr (record {
      digits = decimal m;
      spelled = refl;
      numeral = written.0;
      few = length-decimal-le 5 m (lit< tt) (omega arith) wide;
      fits = rw written.1 below;
      value = rw read e;
    })
printed_text n t small e = inl (record { named = refl; printed = refl })

-- a text that is a type's is read as it
pub reads_text : (text : List ℕ) (r : Result RecordType DecodeError) (t : RecordType) → ReadsType text r → IsTypeText text t → r ≡ Ok t
reads_text text (Ok u) t reads is = ap Ok (sym (reads.1 t is))
reads_text text (Err e) t reads is = absurd (reads.1 t is)

pub reads_printed : (text : List ℕ) (r : Result RecordType DecodeError) → ReadsType text r → ReadsPrinted text r
reads_printed text r reads n small e =
    reads_text text r (record_type_of n) reads
    (subst (λ s. IsTypeText s (record_type_of n)) (sym e) (printed_text n (record_type_of n) small refl))
