-- The laws of all record data, by induction on the list of kinds.
use Rattle.std.proofs.Common.{◌≡◌, ℕ, ◌≤◌, List, [], ◌∷◌, ◌++◌, length, refl, sym, ap, ◌∙◌, arith, subst, append_assoc}
use Rattle.std.proofs.lemmas.List.{length-append, append-nil}
use Rattle.dns_fields.specs.{declared.RDataEncoding.RDataEncoding, declared.RDataEncoding.TheVariants.Other}
use Rattle.dns_fields.specs.Fields.{Value, Values, Field, Stands, Wrote, Same, AllFit, AllLawful, canonical, field_octets, AllFull}
use Rattle.dns_fields.specs.declared.Kind.{Kind}
use Rattle.dns_fields.specs.Laws.{IsShape, StandsLaw, OneEnd, CanonicalLaw, CanonicalReads}
use Rattle.dns_fields.proofs.FieldLaws.{field_append, field_same, field_end, field_fits, field_lawful, wrote_field, wrote_tail, wrote_fits}
use Rattle.dns_fields.proofs.FieldLaws.{octets_wrote, octets_same, same_sym, same_then, field_full}

-- at most one list of values fills a window
pub stands_same : (m : List ℕ) (p : ℕ) (s : List Kind) (a b : Values s) (e : ℕ) → IsShape s → Stands m p s a e → Stands m p s b e → a ≡ b
stands_same m p [] a b e shape f g = refl
stands_same m p (k ∷ []) a b e shape f g =
    let x : Field m p k a.0 e = rw (← f.2) f.1 in
    let y : Field m p k b.0 e = rw (← g.2) g.1 in
    let first : a.0 ≡ b.0 = field_same x y in
    ap (λ (v : Value k). (v, tt)) first
stands_same m p (k ∷ l ∷ kinds) a b e shape f g =
    let there : f.0 ≡ g.0 = field_end shape.0 f.1 g.1 in
    let x : Field m p k a.0 g.0 = rw (← there) f.1 in
    let first : a.0 ≡ b.0 = field_same x g.1 in
    let rest : a.1 ≡ b.1 = stands_same m g.0 (l ∷ kinds) a.1 b.1 e shape.1 (rw (← there) f.2) g.2 in
    ap (λ (v : Value k). (v, a.1)) first ∙ ap (λ (vs : Values (l ∷ kinds)). (b.0, vs)) rest

pub stands_fit : (m : List ℕ) (p : ℕ) (s : List Kind) (a : Values s) (e : ℕ) → Stands m p s a e → AllFit s a
stands_fit m p [] a e f = tt
stands_fit m p (k ∷ kinds) a e f = (field_fits f.1, stands_fit m f.0 kinds a.1 e f.2)

pub stands_lawful : (m : List ℕ) (p : ℕ) (s : List Kind) (a : Values s) (e : ℕ) → Stands m p s a e → AllLawful s a
stands_lawful m p [] a e f = tt
stands_lawful m p (k ∷ kinds) a e f = (field_lawful f.1, stands_lawful m f.0 kinds a.1 e f.2)

pub wrote_behind : (mode : RDataEncoding) (m : List ℕ) (s : List Kind) (a : Values s) (m' : List ℕ) → Wrote mode m s a m'
    → (t : List ℕ) × (m' ≡ m ++ t) × (length t ≤ length (canonical s a))
wrote_behind mode m [] a m' f = ([], f ∙ sym (append-nil m), omega arith)
wrote_behind mode m (k ∷ kinds) a m' f =
    let x = wrote_tail f.1 in
    let y = wrote_behind mode f.0 kinds a.1 m' f.2 in
    let joined : m' ≡ m ++ (x.0 ++ y.0) = y.1 ∙ ap (λ (z : List ℕ). z ++ y.0) x.1 ∙ append_assoc m x.0 y.0 in
    (x.0 ++ y.0, joined, let a' = x.2 in let b' = y.2 in omega (arith, a', b', length-append x.0 y.0, length-append (field_octets k a.0) (canonical kinds a.1)))

-- what was written reads there as the same values, behind any octets
pub wrote_stands : (mode : RDataEncoding) (m : List ℕ) (s : List Kind) (a : Values s) (m' : List ℕ) → AllLawful s a → Wrote mode m s a m'
    → (b : Values s) × Same s a b × Stands m' (length m) s b (length m')
wrote_stands mode m [] a m' l f = (tt, tt, ap length (sym f))
wrote_stands mode m (k ∷ kinds) a m' l f =
    let x = wrote_field l.0 f.1 in
    let y = wrote_stands mode f.0 kinds a.1 m' l.1 f.2 in
    let t = wrote_behind mode f.0 kinds a.1 m' f.2 in
    let first : Field m' (length m) k x.0 (length f.0) = rw t.1 (field_append t.0 x.2) in
    ((x.0, y.0), (x.1, y.1), (length f.0, first, y.2))

-- the canonical octets are one of the ways to write equal values
pub record AllWritten (mode : RDataEncoding) (m : List ℕ) (s : List Kind) (a : Values s) (m' : List ℕ) : Type 0 where
  pub values : Values s
  pub same : Same s a values
  pub lawful : AllLawful s values
  pub wrote : Wrote mode m s values m'

pub canonical_wrote : (mode : RDataEncoding) (m : List ℕ) (s : List Kind) (a : Values s) → AllFit s a → AllLawful s a
    → AllWritten mode m s a (m ++ canonical s a)
canonical_wrote mode m [] a h l = record { values = tt; same = tt; lawful = tt; wrote = append-nil m }
canonical_wrote mode m (k ∷ kinds) a h l =
    let x = octets_wrote mode m k a.0 h.0 l.0 in
    let y = canonical_wrote mode (m ++ field_octets k a.0) kinds a.1 h.1 l.1 in
    record {
      values = (x.value, y.values);
      same = (x.same, y.same);
      lawful = (x.lawful, y.lawful);
      wrote =
          (m ++ field_octets k a.0, x.wrote, rw (← append_assoc) y.wrote);
    }

pub canonical_same : (s : List Kind) (a b : Values s) → Same s a b → canonical s a ≡ canonical s b
canonical_same [] a b h = refl
canonical_same (k ∷ kinds) a b h = let e = octets_same h.0 in let f = canonical_same kinds a.1 b.1 h.1 in rw (e, f) refl

pub values_sym : (s : List Kind) (a b : Values s) → Same s a b → Same s b a
values_sym [] a b h = tt
values_sym (k ∷ kinds) a b h = (same_sym h.0, values_sym kinds a.1 b.1 h.1)

pub values_then : (s : List Kind) (a b c : Values s) → Same s a b → Same s b c → Same s a c
values_then [] a b c h g = tt
values_then (k ∷ kinds) a b c h g = (same_then h.0 g.0, values_then kinds a.1 b.1 c.1 h.1 g.1)

-- the canonical octets, whole, read as the same values
pub canonical_stands : CanonicalReads
canonical_stands s a h l =
    let w = canonical_wrote Other [] s a h l in
    let x = wrote_stands Other [] s w.values (canonical s a) w.lawful w.wrote in
    (x.0, values_then s a w.values x.0 w.same x.1, x.2)

-- equal canonical octets are of the same values
pub canonical_injective : (s : List Kind) (a b : Values s) → IsShape s → AllFit s a → AllLawful s a → AllFit s b → AllLawful s b
    → canonical s a ≡ canonical s b → Same s a b
canonical_injective s a b shape h l g n e =
    let x = canonical_stands s a h l in
    let y = canonical_stands s b g n in
    let there : Stands (canonical s a) 0 s y.0 (length (canonical s a)) = rw e y.2 in
    let one : x.0 ≡ y.0 = stands_same (canonical s a) 0 s x.0 y.0 (length (canonical s a)) shape x.2 there in
    values_then s a x.0 b x.1 (subst (λ (v : Values s). Same s v b) (sym one) (values_sym s b y.0 y.1))

pub stands_law : StandsLaw
stands_law m p s a e shape f = (stands_fit m p s a e f, stands_lawful m p s a e f, λ b g. stands_same m p s a b e shape f g)

pub one_end : OneEnd
one_end m p k a b e f h g = field_end h g

pub canonical_law : CanonicalLaw
canonical_law s a b shape h l g n = (canonical_injective s a b shape h l g n, canonical_same s a b)

pub stands_full : (m : List ℕ) (p : ℕ) (s : List Kind) (a : Values s) (e : ℕ) → Stands m p s a e → AllFull s a
stands_full m p [] a e f = tt
stands_full m p (k ∷ kinds) a e f = (field_full f.1, stands_full m f.0 kinds a.1 e f.2)

-- what was written fits its fields
pub wrote_all_fit : (mode : RDataEncoding) (m : List ℕ) (s : List Kind) (a : Values s) (m' : List ℕ) → Wrote mode m s a m' → AllFit s a
wrote_all_fit mode m [] a m' f = tt
wrote_all_fit mode m (k ∷ kinds) a m' f = (wrote_fits f.1, wrote_all_fit mode f.0 kinds a.1 m' f.2)
