-- Options or parameters that are yielded one after the other.
use Rattle.std.proofs.Common.{◌≡◌, ℕ, zero, suc, ◌+◌, ◌-◌, ◌^◌, ◌<◌, ◌≤◌, inl, inr}
use Rattle.std.proofs.Common.{List, [], ◌∷◌, ◌++◌, length, take, drop, get_or, append_assoc, refl, sym, ap, ◌∙◌, arith, subst}
use Rattle.std.proofs.lemmas.List.{length-append, length-take, take_at, drop_at, take-append-drop, take_rest, get_or-append-add, append-nil}
use Rattle.std.proofs.lemmas.Bool.{le-leb}
use Rattle.std.proofs.lemmas.Bool.Decides.{leb_tells}
use Rattle.std.proofs.lemmas.Nat.{be_bytes_2, from_be_bytes-to_be_bytes_2}
use Rattle.std.specs.Int.{bytes_high_first, byte_at, from_be_bytes, w16}
use Rattle.dns_fields.specs.{Octets.At, Tlvs.Numbered, Tlvs.tlv, Tlvs.tlvs, Tlvs.IsTlv, Tlvs.AreTlvs}
use Rattle.dns_fields.proofs.Tlvs.{tlv_before, length-tlv}
use Rattle.dns_check.specs.{Parameters.IsTlvAt, Tlvs.TlvThere, Tlvs.AreComplete}
use Rattle.dns_view.specs.TlvList.{tlvs_after, NoTlv}

abbrev pub two : ℕ → ℕ → ℕ
two a b = from_be_bytes w16 (a ∷ b ∷ [])

behind : (n : ℕ) (s : List ℕ) → tlvs_after n s ≡ tlvs_after zero (drop n s)
behind zero s = refl
behind (suc n) [] = refl
behind (suc n) (c ∷ s) = behind n s

whole : (a b c d : ℕ) (s : List ℕ) → two c d ≤ length s
    → tlvs_after zero (a ∷ (b ∷ (c ∷ (d ∷ s)))) ≡ (two a b, take (two c d) s) ∷ tlvs_after zero (drop (two c d) s)
whole a b c d s h =
    let n = two c d in
    rw (le-leb (two c d) (length s) h) (ap (λ (t : List (Numbered (List ℕ))). (two a b, take (two c d) s) ∷ t) (behind (two c d) s))

spread : (n l : ℕ) (s : List ℕ) → bytes_high_first 2 n ++ (bytes_high_first 2 l ++ s) ≡ byte_at 1 n ∷ (byte_at 0 n ∷ (byte_at 1 l ∷ (byte_at 0 l ∷ s)))
spread n l s = refl

pub two_of : (n : ℕ) → n < 256 ^ 2 → two (byte_at 1 n) (byte_at 0 n) ≡ n
two_of n h = from_be_bytes-to_be_bytes_2 n (omega (arith, h))

pub first_one : (x : Numbered (List ℕ)) (rest : List ℕ) → IsTlv x → tlvs_after zero (tlv x ++ rest) ≡ x ∷ tlvs_after zero rest
first_one x rest f =
    let n = two_of x.0 f.0 in
    let l = two_of (length x.1) f.1 in
    let both = length-append x.1 rest in
    let size : two (byte_at 1 (length x.1)) (byte_at 0 (length x.1)) ≤ length (x.1 ++ rest) = omega (arith, l, both) in
    ap (tlvs_after zero) (tlv_before x rest ∙ spread x.0 (length x.1) (x.1 ++ rest))
    ∙ whole (byte_at 1 x.0) (byte_at 0 x.0) (byte_at 1 (length x.1)) (byte_at 0 (length x.1)) (x.1 ++ rest) size
    ∙ ap (λ (k : ℕ). (k, take (two (byte_at 1 (length x.1)) (byte_at 0 (length x.1))) (x.1 ++ rest))
    ∷ tlvs_after zero (drop (two (byte_at 1 (length x.1)) (byte_at 0 (length x.1))) (x.1 ++ rest))) n
    ∙ ap (λ (k : ℕ). (x.0, take k (x.1 ++ rest)) ∷ tlvs_after zero (drop k (x.1 ++ rest))) l
    ∙ ap (λ (o : List ℕ). (x.0, o) ∷ tlvs_after zero (drop (length x.1) (x.1 ++ rest))) (take_at x.1 rest (length x.1) refl)
    ∙ ap (λ (o : List ℕ). x ∷ tlvs_after zero o) (drop_at x.1 rest (length x.1) refl)

-- ---- octets with none in front

pub octets_of : (a b : ℕ) → a < 256 → b < 256 → bytes_high_first 2 (two a b) ≡ a ∷ b ∷ []
octets_of a b h k = be_bytes_2 (a ∷ b ∷ []) (two a b) refl bound refl where
  bound : (i : ℕ) → get_or (a ∷ b ∷ []) i 0 < 256
  bound zero = h
  bound (suc zero) = k
  bound (suc (suc i)) = omega arith

split : (a b c d : ℕ) (s : List ℕ) → a < 256 → b < 256 → c < 256 → d < 256 → two c d ≤ length s
    → a ∷ (b ∷ (c ∷ (d ∷ s))) ≡ tlv (two a b, take (two c d) s) ++ drop (two c d) s
split a b c d s ha hb hc hd h =
    let n : length (take (two c d) s) ≡ two c d = omega (arith, length-take (two c d) s) in
    let body = take (two c d) s in
    ap (λ (o : List ℕ). a ∷ (b ∷ (c ∷ (d ∷ o)))) (sym (take-append-drop (two c d) s))
    ∙ ap (λ (o : List ℕ). o ++ (c ∷ (d ∷ (body ++ drop (two c d) s)))) (sym (octets_of a b ha hb))
    ∙ ap (λ (o : List ℕ). bytes_high_first 2 (two a b) ++ (o ++ (body ++ drop (two c d) s))) (sym (octets_of c d hc hd))
    ∙ ap (λ (k : ℕ). bytes_high_first 2 (two a b) ++ (bytes_high_first 2 k ++ (body ++ drop (two c d) s))) (sym n)
    ∙ sym (tlv_before (two a b, body) (drop (two c d) s))

pub none_whole : (s : List ℕ) → ((i : ℕ) → get_or s i 0 < 256) → NoTlv s → tlvs_after zero s ≡ []
none_whole [] small n = refl
none_whole (a ∷ []) small n = refl
none_whole (a ∷ (b ∷ [])) small n = refl
none_whole (a ∷ (b ∷ (c ∷ []))) small n = refl
none_whole (a ∷ (b ∷ (c ∷ (d ∷ s)))) small n =
    let ha : a < 256 = small 0 in
    let hb : b < 256 = small 1 in
    let hc : c < 256 = small 2 in
    let hd : d < 256 = small 3 in
    let size = length-take (two c d) s in
    elim (leb_tells (two c d) (length s)) [
      | inl h ↦ absurd (n.none (two a b, take (two c d) s) (drop (two c d) s) (omega (arith, ha, hb), omega (arith, hc, hd, size))
          (split a b c d s ha hb hc hd h.1))
      | inr h ↦ rw h.0 refl
    ]

pub tlvs_are : (xs : List (Numbered (List ℕ))) (rest : List ℕ) → ((i : ℕ) → get_or rest i 0 < 256) → AreTlvs xs → NoTlv rest
    → tlvs_after zero (tlvs xs ++ rest) ≡ xs
tlvs_are [] rest small f n = none_whole rest small n
tlvs_are (x ∷ xs) rest small f n =
    ap (tlvs_after zero) (append_assoc (tlv x) (tlvs xs) rest) ∙ first_one x (tlvs xs ++ rest) f.0
    ∙ ap (λ (t : List (Numbered (List ℕ))). x ∷ t) (tlvs_are xs rest small f.1 n)

pub all_of : (s : List ℕ) → ((i : ℕ) → get_or s i 0 < 256) → (xs : List (Numbered (List ℕ))) (rest : List ℕ) → AreTlvs xs → s ≡ tlvs xs ++ rest → NoTlv rest
    → tlvs_after zero s ≡ xs
all_of s small xs rest f e n =
    let bound : (i : ℕ) → get_or rest i 0 < 256 = λ i. subst (λ (k : ℕ). k < 256) (ap (λ (o : List ℕ). get_or o (length (tlvs xs) + i) 0) e
    ∙ get_or-append-add (tlvs xs) rest i 0) (small (length (tlvs xs) + i)) in
    ap (tlvs_after zero) e ∙ tlvs_are xs rest bound f n

pub no_octets : NoTlv []
no_octets = record { none = λ x rest f e. absurd (omega (arith, ap length e, length-append (tlv x) rest, length-tlv x)) }

-- ---- one is taken

pub in_front : {s : List ℕ} {end : ℕ} (t : TlvThere s 0 end) → s ≡ tlv (t.key, t.body) ++ drop end s
in_front {s} {end} t =
    let x = tlv (t.key, t.body) in
    let n : length x ≡ end = omega (arith, t.is.at.ends) in
    sym (take-append-drop end s) ∙ ap (λ (o : List ℕ). o ++ drop end s) (ap (λ (k : ℕ). take k s) (sym n) ∙ t.is.at.same)

pub next_tlv : {s : List ℕ} {end : ℕ} (t : TlvThere s 0 end)
    → tlvs_after zero s ≡ (two (get_or s 0 0) (get_or s 1 0), take (end - 4) (drop 4 s)) ∷ tlvs_after zero (take (length s - end) (drop end s))
next_tlv {s} {end} t =
    let rest = drop end s in
    let l = length-tlv (t.key, t.body) in
    let first : two (get_or s 0 0) (get_or s 1 0) ≡ t.key = ap (λ (o : List ℕ). two (get_or o 0 0) (get_or o 1 0)) (in_front t
    ∙ tlv_before (t.key, t.body) rest) ∙ two_of t.key t.is.fits.0 in
    let after : drop 4 s ≡ t.body ++ rest = ap (drop 4) (in_front t ∙ tlv_before (t.key, t.body) rest) in
    let size : length t.body ≡ end - 4 = omega (arith, t.is.at.ends, l) in
    let body : take (end - 4) (drop 4 s) ≡ t.body = ap (take (end - 4)) after ∙ take_at t.body rest (end - 4) size in
    ap (tlvs_after zero) (in_front t) ∙ first_one (t.key, t.body) rest t.is.fits
    ∙ ap (λ (k : ℕ). (k, t.body) ∷ tlvs_after zero rest) (sym first)
    ∙ ap (λ (o : List ℕ). (two (get_or s 0 0) (get_or s 1 0), o) ∷ tlvs_after zero rest) (sym body)
    ∙ ap (λ (o : List ℕ). (two (get_or s 0 0) (get_or s 1 0), take (end - 4) (drop 4 s)) ∷ tlvs_after zero o) (sym (take_rest s end))

pub last_tlv : (s : List ℕ) → ((i : ℕ) → get_or s i 0 < 256) → ((key : ℕ) (body : List ℕ) (to : ℕ) → IsTlvAt s 0 key body to → ⊥)
    → tlvs_after zero s ≡ []
last_tlv s small none = none_whole s small (record {
  none = λ x rest f e. none x.0 x.1 (length (tlv x)) (record {
    at = record {
      ends = omega arith;
      within = omega (arith, ap length e, length-append (tlv x) rest);
      same = ap (take (length (tlv x))) e ∙ take_at (tlv x) rest (length (tlv x)) refl;
    };
    fits = f;
  });
})

-- ---- options

pub complete_of : (xs : List (Numbered (List ℕ))) (s : List ℕ) → AreTlvs xs → s ≡ tlvs xs → AreComplete s
complete_of xs s f e =
    let whole : At s 0 (tlvs xs) (length s) = record {
      ends = omega (arith, ap length e);
      within = omega arith;
      same = ap (take (length (tlvs xs))) (e ∙ sym (append-nil (tlvs xs))) ∙ take_at (tlvs xs) [] (length (tlvs xs)) refl;
    } in
    record { read = xs; at = whole; fit = f }
