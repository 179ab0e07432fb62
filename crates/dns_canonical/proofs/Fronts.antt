-- Canonical octets are ordered field by field.
use Rattle.std.proofs.Common.{◌≡◌, ◌≢◌, ℕ, ◌+◌, ◌-◌, ◌<◌, ◌≤◌, ◌^◌, List, [], ◌∷◌, ◌++◌, length, take, drop, map, refl, sym, ap, ◌∙◌, arith, append_assoc}
use Rattle.std.proofs.lemmas.List.{append-nil, drop-drop, length-drop, length-map, take-append-drop, take-take}
use Rattle.std.specs.declared.cmp.Ordering.TheVariants.{Less, Equal, Greater}
use Rattle.std.specs.{Ordering.nat_cmp, Ordering.ordering_then, FinMap.nat_cmp-IsAntisymmetric, declared.cmp.Ordering.Ordering, Cmp.Lexicographic.slice_cmp}
use Rattle.std.specs.{Char.to_ascii_lowercase, Int.bytes_high_first, Cmp.nat_cmp_is}
use Rattle.dns_fields.specs.{Fields.field_octets, Fields.canonical, Labels.AreLabels, Labels.lowered}
use Rattle.dns_fields.specs.Fields.{Value, Values}
use Rattle.dns_fields.specs.declared.Kind.{Kind, TheVariants.Number, TheVariants.Octets, TheVariants.Name, TheVariants.CharacterString}
use Rattle.dns_fields.specs.declared.Kind.{TheVariants.CharacterStrings, TheVariants.Rest, TheVariants.Options, TheVariants.Parameters, TheVariants.Bitmap}
use Rattle.dns_fields.proofs.Numbers.{number_cmp, length-bytes}
use Rattle.dns_canonical.specs.Fronts.{canonical_cmp, field_cmp, fields_cmp, EndsAlike, AllEndAlike}
use Rattle.dns_canonical.proofs.{Comparing.cmp_shared, Comparing.then_assoc, Comparing.then_equal, Comparing.then_kept, Comparing.apart, Sharing.same_further}

-- what comes behind matters only where the first are equal
pub behind : (o s t u : Ordering) → (o ≡ Equal → s ≡ ordering_then t u) → ordering_then o s ≡ ordering_then (ordering_then o t) u
behind Less s t u h = refl
behind Equal s t u h = h refl
behind Greater s t u h = refl

-- as many octets in front of others
pub front_then : (p q x y : List ℕ) → length p ≡ length q → slice_cmp nat_cmp (p ++ x) (q ++ y) ≡ ordering_then (slice_cmp nat_cmp p q) (slice_cmp nat_cmp x y)
front_then [] [] x y h = refl
front_then [] (b ∷ q) x y h = absurd (omega arith)
front_then (a ∷ p) [] x y h = absurd (omega arith)
front_then (a ∷ p) (b ∷ q) x y h =
    behind (nat_cmp a b) (slice_cmp nat_cmp (p ++ x) (q ++ y)) (slice_cmp nat_cmp p q) (slice_cmp nat_cmp x y) (λ _. front_then p q x y (omega arith))

-- an octet that tells how many come next
pub sized_then : (n m : ℕ) (p q x y : List ℕ) → (n ≡ m → length p ≡ length q)
    → slice_cmp nat_cmp (n ∷ (p ++ x)) (m ∷ (q ++ y)) ≡ ordering_then (slice_cmp nat_cmp (n ∷ p) (m ∷ q)) (slice_cmp nat_cmp x y)
sized_then n m p q x y h =
    behind (nat_cmp n m) (slice_cmp nat_cmp (p ++ x) (q ++ y)) (slice_cmp nat_cmp p q) (slice_cmp nat_cmp x y) (λ e. front_then p q x y (h (nat_cmp-IsAntisymmetric n m e)))

labels_then : (a b : List (List ℕ)) (x y : List ℕ) → AreLabels a → AreLabels b
    → slice_cmp nat_cmp (lowered a ++ x) (lowered b ++ y) ≡ ordering_then (slice_cmp nat_cmp (lowered a) (lowered b)) (slice_cmp nat_cmp x y)
labels_then [] [] x y h k = refl
labels_then [] (m ∷ b) x y h k = first (length m) (map to_ascii_lowercase m ++ lowered b) k.0.0
  where
    first : (n : ℕ) (q : List ℕ) → 1 ≤ n → slice_cmp nat_cmp (0 ∷ x) (n ∷ (q ++ y)) ≡ ordering_then (slice_cmp nat_cmp (0 ∷ []) (n ∷ q)) (slice_cmp nat_cmp x y)
    first n q h = sized_then 0 n [] q x y (λ e. absurd (omega (arith, e, h)))
labels_then (l ∷ a) [] x y h k = first (length l) (map to_ascii_lowercase l ++ lowered a) h.0.0
  where
    first : (n : ℕ) (p : List ℕ) → 1 ≤ n → slice_cmp nat_cmp (n ∷ (p ++ x)) (0 ∷ y) ≡ ordering_then (slice_cmp nat_cmp (n ∷ p) (0 ∷ [])) (slice_cmp nat_cmp x y)
    first n p h = sized_then n 0 p [] x y (λ e. absurd (omega (arith, e, h)))
labels_then (l ∷ a) (m ∷ b) x y h k =
    let f = map to_ascii_lowercase in
    let whole : slice_cmp nat_cmp (lowered (l ∷ a) ++ x) (lowered (m ∷ b) ++ y)
    ≡ ordering_then (slice_cmp nat_cmp (length l ∷ f l) (length m ∷ f m)) (slice_cmp nat_cmp (lowered a ++ x) (lowered b ++ y)) =
    rw (append_assoc (f l) (lowered a) x, append_assoc (f m) (lowered b) y)
    (sized_then (length l) (length m) (f l) (f m) (lowered a ++ x) (lowered b ++ y) (λ e. length-map l to_ascii_lowercase ∙ e ∙ sym (length-map m to_ascii_lowercase))) in
    whole
    ∙ ap (λ (o : Ordering). ordering_then (slice_cmp nat_cmp (length l ∷ f l) (length m ∷ f m)) o) (labels_then a b x y h.1 k.1)
    ∙ sym (then_assoc (slice_cmp nat_cmp (length l ∷ f l) (length m ∷ f m)) (slice_cmp nat_cmp (lowered a) (lowered b)) (slice_cmp nat_cmp x y))
    ∙ ap (λ (o : Ordering). ordering_then o (slice_cmp nat_cmp x y)) (sym (sized_then (length l) (length m) (f l) (f m) (lowered a) (lowered b) (λ e. length-map l to_ascii_lowercase ∙ e ∙ sym (length-map m to_ascii_lowercase))))

-- ---- of fields

ends_alone : (p q : List ℕ) → slice_cmp nat_cmp (p ++ []) (q ++ []) ≡ ordering_then (slice_cmp nat_cmp p q) Equal
ends_alone p q = rw (append-nil p, append-nil q) (sym (then_equal (slice_cmp nat_cmp p q)))

field_then : (k : Kind) (a b : Value k) (kinds : List Kind) (x y : Values kinds) → EndsAlike k a b kinds
    → canonical_cmp (k ∷ kinds) (a, x) (b, y) ≡ ordering_then (field_cmp k a b) (canonical_cmp kinds x y)
unfolding field_octets
field_then (Number w) a b kinds x y h =
    front_then (bytes_high_first w a) (bytes_high_first w b) (canonical kinds x) (canonical kinds y) (length-bytes w a ∙ sym (length-bytes w b))
field_then (Octets n) a b kinds x y h = front_then a b (canonical kinds x) (canonical kinds y) h
field_then Name a b kinds x y h = labels_then a.labels b.labels (canonical kinds x) (canonical kinds y) h.0 h.1
field_then CharacterString a b kinds x y h = sized_then (length a) (length b) a b (canonical kinds x) (canonical kinds y) (λ e. e)
field_then CharacterStrings a b [] x y h = ends_alone (field_octets CharacterStrings a) (field_octets CharacterStrings b)
field_then Rest a b [] x y h = ends_alone a b
field_then Options a b [] x y h = ends_alone (field_octets Options a) (field_octets Options b)
field_then Parameters a b [] x y h = ends_alone (field_octets Parameters a) (field_octets Parameters b)
field_then Bitmap a b [] x y h = ends_alone (field_octets Bitmap a) (field_octets Bitmap b)
field_then k a b (j ∷ kinds) x y h = absurd h

fields_behind : (o : Ordering) (kinds : List Kind) (a b : Values kinds) → AllEndAlike kinds a b
    → fields_cmp o kinds a b ≡ ordering_then o (canonical_cmp kinds a b)
fields_behind o [] a b h = sym (then_equal o)
fields_behind o (k ∷ kinds) a b h =
    fields_behind (ordering_then o (field_cmp k a.0 b.0)) kinds a.1 b.1 h.1
    ∙ then_assoc o (field_cmp k a.0 b.0) (canonical_cmp kinds a.1 b.1)
    ∙ ap (λ (t : Ordering). ordering_then o t) (sym (field_then k a.0 b.0 kinds a.1 b.1 h.0))

-- compared field by field, they are compared by their canonical octets
pub fields_decide : (kinds : List Kind) (a b : Values kinds) → AllEndAlike kinds a b → fields_cmp Equal kinds a b ≡ canonical_cmp kinds a b
fields_decide kinds a b h = fields_behind Equal kinds a b h

pub ordered : (kinds : List Kind) (a b : Values kinds) {o : Ordering} → o ≡ fields_cmp Equal kinds a b → AllEndAlike kinds a b → o ≡ canonical_cmp kinds a b
ordered kinds a b e h = e ∙ fields_decide kinds a b h

-- one field alone
pub alone : (k : Kind) (a b : Value k) → field_cmp k a b ≡ canonical_cmp (k ∷ []) (a, tt) (b, tt)
alone k a b = sym (ends_alone (field_octets k a) (field_octets k b) ∙ then_equal (field_cmp k a b))

-- ---- octets compared by eight at a time

-- behind octets that are the same
pub cmp_behind : (n : ℕ) (a b : List ℕ) → take n a ≡ take n b → slice_cmp nat_cmp a b ≡ slice_cmp nat_cmp (drop n a) (drop n b)
cmp_behind n a b e = cmp_shared {n = length (take n a)} record {
  shared = take n a;
  count = refl;
  left = sym (take-append-drop n a);
  right = sym (take-append-drop n b) ∙ ap (λ (t : List ℕ). t ++ drop n b) (sym e);
}

pub halves : (n : ℕ) (a b : List ℕ) → length (take n a) ≡ length (take n b)
    → slice_cmp nat_cmp a b ≡ ordering_then (slice_cmp nat_cmp (take n a) (take n b)) (slice_cmp nat_cmp (drop n a) (drop n b))
halves n a b e =
    ap (λ (t : List ℕ). slice_cmp nat_cmp t b) (sym (take-append-drop n a))
    ∙ ap (λ (t : List ℕ). slice_cmp nat_cmp (take n a ++ drop n a) t) (sym (take-append-drop n b))
    ∙ front_then (take n a) (take n b) (drop n a) (drop n b) e

-- where the octets from n to m of both are those of two numbers, these are compared, and then what is behind them
tokens_then : (w n m x y : ℕ) (a b : List ℕ) → n ≤ m → m - n ≡ w → take n a ≡ take n b → x < 256 ^ w → y < 256 ^ w
    → bytes_high_first w x ≡ take (m - n) (drop n a) → bytes_high_first w y ≡ take (m - n) (drop n b)
    → slice_cmp nat_cmp a b ≡ ordering_then (nat_cmp x y) (slice_cmp nat_cmp (drop m a) (drop m b))
tokens_then w n m x y a b h few same p q e f =
    let lens : length (take (m - n) (drop n a)) ≡ length (take (m - n) (drop n b)) =
    ap length (sym e) ∙ length-bytes w x ∙ sym (length-bytes w y) ∙ ap length f in
    let first : slice_cmp nat_cmp (take (m - n) (drop n a)) (take (m - n) (drop n b)) ≡ nat_cmp x y = rw (← e, ← f) (number_cmp w x y p q) in
    let past : n + (m - n) ≡ m = omega arith in
    cmp_behind n a b same
    ∙ halves (m - n) (drop n a) (drop n b) lens
    ∙ ap (λ (o : Ordering). ordering_then o (slice_cmp nat_cmp (drop (m - n) (drop n a)) (drop (m - n) (drop n b)))) first
    ∙ ap (ordering_then (nat_cmp x y)) (rw (drop-drop (m - n) n a, drop-drop (m - n) n b, past) refl)

-- they decide if they differ
pub tokens_differ : (w n m x y : ℕ) (a b : List ℕ) → n ≤ m → m - n ≡ w → take n a ≡ take n b → x < 256 ^ w → y < 256 ^ w
    → bytes_high_first w x ≡ take (m - n) (drop n a) → bytes_high_first w y ≡ take (m - n) (drop n b) → x ≢ y → nat_cmp x y ≡ slice_cmp nat_cmp a b
tokens_differ w n m x y a b h few same p q e f apt =
    then_kept (nat_cmp x y) (slice_cmp nat_cmp (drop m a) (drop m b)) (apart x y apt) ∙ sym (tokens_then w n m x y a b h few same p q e f)

-- and if they do not, what comes behind them
pub tokens_same : (w n m x y : ℕ) (a b : List ℕ) → n ≤ m → take n a ≡ take n b
    → bytes_high_first w x ≡ take (m - n) (drop n a) → bytes_high_first w y ≡ take (m - n) (drop n b) → x ≡ y → take m a ≡ take m b
tokens_same w n m x y a b h same e f t = same_further n m a b h same (sym e ∙ ap (bytes_high_first w) t ∙ f)

-- what begins the same begins the same with fewer
pub fewer_same : (n m : ℕ) (a b : List ℕ) → n ≤ m → take m a ≡ take m b → take n a ≡ take n b
fewer_same n m a b h same = sym (take-take n m a h) ∙ ap (take n) same ∙ take-take n m b h

ends_cmp : (s t : List ℕ) (m n k : ℕ) → n ≡ m + length s → k ≡ m + length t → (m < n → k ≤ m) → nat_cmp n k ≡ slice_cmp nat_cmp s t
ends_cmp [] [] m n k e f h = sym (nat_cmp_is n k Equal (omega (arith, e, f)))
ends_cmp [] (y ∷ t) m n k e f h = sym (nat_cmp_is n k Less (omega (arith, e, f)))
ends_cmp (x ∷ s) [] m n k e f h = sym (nat_cmp_is n k Greater (omega (arith, e, f)))
ends_cmp (x ∷ s) (y ∷ t) m n k e f h = absurd (omega (arith, f, h (omega (arith, e))))

-- where one ends behind them, they decide and then the lengths
pub last_tokens : (w n m x y : ℕ) (a b : List ℕ) → n ≤ m → m - n ≡ w → take n a ≡ take n b → x < 256 ^ w → y < 256 ^ w
    → bytes_high_first w x ≡ take (m - n) (drop n a) → bytes_high_first w y ≡ take (m - n) (drop n b)
    → m ≤ length a → m ≤ length b → (m < length a → length b ≤ m) → ordering_then (nat_cmp x y) (nat_cmp (length a) (length b)) ≡ slice_cmp nat_cmp a b
last_tokens w n m x y a b h few same p q e f la lb end =
    ap (ordering_then (nat_cmp x y)) (ends_cmp (drop m a) (drop m b) m (length a) (length b) (omega (arith, length-drop m a)) (omega (arith, length-drop m b)) end)
    ∙ sym (tokens_then w n m x y a b h few same p q e f)

-- a string's length comes first
pub text_then : (o : Ordering) (a b : List ℕ)
    → ordering_then o (slice_cmp nat_cmp (field_octets CharacterString a) (field_octets CharacterString b))
    ≡ ordering_then (ordering_then o (nat_cmp (length a) (length b))) (slice_cmp nat_cmp a b)
unfolding field_octets
text_then o a b = sym (then_assoc o (nat_cmp (length a) (length b)) (slice_cmp nat_cmp a b))

-- a number's octets are ordered as the number
pub number_then : (w a b : ℕ) → a < 256 ^ w → b < 256 ^ w → slice_cmp nat_cmp (field_octets (Number w) a) (field_octets (Number w) b) ≡ nat_cmp a b
unfolding field_octets
number_then w a b p q = number_cmp w a b p q

-- what was compared before may be given otherwise
pub also : {r : Ordering} (p o t : Ordering) → r ≡ ordering_then p t → p ≡ o → r ≡ ordering_then o t
also {r} p o t e f = e ∙ ap (λ (q : Ordering). ordering_then q t) f
