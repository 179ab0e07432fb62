-- Octets that are copied into a buffer.
use Rattle.std.proofs.{Common.arith, Common.append_assoc, Common.length-append, Common.length-take-le, lemmas.Bool.cases_lt, Math.Seq.take-add, Math.ListN.set}
use Rattle.std.proofs.lemmas.List.{take-append-le, take-map, drop-map}
use Rattle.std.proofs.Common.{◌≡◌, ◌≢◌, ℕ, ◌+◌, ◌-◌, ◌<◌, ◌≤◌, inl, inr, min, suc, List, [], ◌∷◌, ◌++◌, length, take, drop, map, refl, sym, ap, ◌∙◌, subst}
use Rattle.std.proofs.lemmas.List.{append-nil, drop-drop, drop_all, drop_at, drop-append-le, length-drop, length-map, take_all, take_at, take_rest}
use Rattle.std.specs.Char.{to_ascii_lowercase}
use Rattle.dns_labels.specs.Comparing.{lowered_octets}
use Rattle.dns_canonical.specs.Runs.{HasCopied, Copies}

-- a buffer keeps its length
same_length : (n : ℕ) (front buffer filled : List ℕ) → length front ≡ n → n ≤ length buffer → filled ≡ front ++ drop n buffer → length filled ≡ length buffer
same_length n front buffer filled l h e = omega (arith, ap length e, length-append front (drop n buffer), length-drop n buffer, l, h)

length_taken : (n : ℕ) (xs : List ℕ) → n ≤ length xs → length (map to_ascii_lowercase (take n xs)) ≡ n
length_taken n xs h = length-map (take n xs) to_ascii_lowercase ∙ length-take-le n xs h

-- ---- names

-- labels that fill the buffer, so that the 0 behind them is left
pub name_fills : (n : ℕ) (octets buffer filled : List ℕ) → n ≡ min (length octets) (length buffer)
    → filled ≡ map to_ascii_lowercase (take n octets) ++ drop n buffer → n ≡ length filled
    → Copies n (lowered_octets octets) (lowered_octets (take (length octets - n) (drop n octets))) buffer filled
name_fills n octets buffer filled count front full =
    let within : n ≤ length octets = omega (arith, count) in
    let all : n ≡ length buffer = omega (arith, full, count, same_length n (map to_ascii_lowercase (take n octets)) buffer filled (length_taken n octets within) (omega (arith, count)) front) in
    let lows = map to_ascii_lowercase octets in
    let within_lows : n ≤ length lows = omega (arith, within, length-map octets to_ascii_lowercase) in
    record {
      count = omega (arith, all, within_lows, length-append lows (0 ∷ []));
      copied = record {
        within = omega (arith, within_lows, length-append lows (0 ∷ []));
        room = omega (arith, all);
        front = front ∙ ap (λ (l : List ℕ). l ++ drop n buffer) (sym (take-map to_ascii_lowercase n octets) ∙ sym (take-append-le n lows (0 ∷ []) within_lows));
        rest = ap lowered_octets (take_rest octets n) ∙ ap (λ (l : List ℕ). l ++ 0 ∷ []) (sym (drop-map to_ascii_lowercase n octets)) ∙ sym (drop-append-le n lows (0 ∷ []) within_lows);
      };
    }

-- an octet right behind the front of a buffer
set_behind : (front buffer : List ℕ) (x : ℕ) → length front < length buffer
    → set (front ++ drop (length front) buffer) (length front) x ≡ (front ++ x ∷ []) ++ drop (suc (length front)) buffer
set_behind [] [] x h = absurd (omega arith)
set_behind [] (y ∷ buffer) x h = refl
set_behind (z ∷ front) [] x h = absurd (omega arith)
set_behind (z ∷ front) (y ∷ buffer) x h = ap (λ (l : List ℕ). z ∷ l) (set_behind front buffer x (omega arith))

-- labels that the buffer holds, and the 0 behind them
pub name_ends : (n : ℕ) (octets buffer filled : List ℕ) → n ≡ min (length octets) (length buffer)
    → filled ≡ map to_ascii_lowercase (take n octets) ++ drop n buffer → n ≢ length filled
    → Copies (n + 1) (lowered_octets octets) (take (length octets - n) (drop n octets)) buffer (set filled n 0)
name_ends n octets buffer filled count front more =
    let within : n ≤ length octets = omega (arith, count) in
    let lows = map to_ascii_lowercase octets in
    let same = same_length n (map to_ascii_lowercase (take n octets)) buffer filled (length_taken n octets within) (omega (arith, count)) front in
    let all : n ≡ length octets = omega (arith, count, more, same) in
    let size : length lows ≡ n = length-map octets to_ascii_lowercase ∙ sym all in
    let room : length lows < length buffer = omega (arith, size, count, more, same) in
    let whole : length (lowered_octets octets) ≡ n + 1 = omega (arith, size, length-append lows (0 ∷ [])) in
    let lies : filled ≡ lows ++ drop (length lows) buffer =
    front ∙ ap (λ (l : List ℕ). map to_ascii_lowercase l ++ drop n buffer) (take_all n octets (omega (arith, all))) ∙ ap (λ (k : ℕ). lows ++ drop k buffer) (sym size) in
    let behind : suc (length lows) ≡ n + 1 = omega (arith, size) in
    let placed : set filled n 0 ≡ lowered_octets octets ++ drop (n + 1) buffer =
    ap (λ (l : List ℕ). set l n 0) lies ∙ ap (λ (k : ℕ). set (lows ++ drop (length lows) buffer) k 0) (sym size) ∙ set_behind lows buffer 0 room
    ∙ ap (λ (k : ℕ). lowered_octets octets ++ drop k buffer) behind in
    record {
      count = omega (arith, whole, room, size);
      copied = record {
        within = omega (arith, whole);
        room = omega (arith, room, size);
        front = placed ∙ ap (λ (l : List ℕ). l ++ drop (n + 1) buffer) (sym (take_all (n + 1) (lowered_octets octets) (omega (arith, whole))));
        rest = take_rest octets n ∙ drop_all n octets (omega (arith, all)) ∙ sym (drop_all (n + 1) (lowered_octets octets) (omega (arith, whole)));
      };
    }

-- ---- one part after the other

taken_so_far : (n : ℕ) (z y b f : List ℕ) → HasCopied n z y b f → (take n f ≡ take n z) × (drop n f ≡ drop n b) × (length f ≡ length b)
taken_so_far n z y b f c =
    let size = length-take-le n z c.within in (
      ap (take n) c.front ∙ take_at (take n z) (drop n b) n size,
      ap (drop n) c.front ∙ drop_at (take n z) (drop n b) n size,
      same_length n (take n z) b f size c.room c.front,
    )

-- octets that are copied behind others
pub copied_more : (n m : ℕ) (z y x b f g : List ℕ) → HasCopied n z y b f → HasCopied m y x (take (length f - n) (drop n f)) g
    → HasCopied (n + m) z x b (take n f ++ (g ++ drop (length f - n) (drop n f)))
copied_more n m z y x b f g c d =
    let is = taken_so_far n z y b f c in
    let part : take (length f - n) (drop n f) ≡ drop n b = take_rest f n ∙ is.1 in
    let end : drop (length f - n) (drop n f) ≡ [] = drop_all (length f - n) (drop n f) (omega (arith, length-drop n f)) in
    let e : HasCopied m y x (drop n b) g = subst (λ (l : List ℕ). HasCopied m y x l g) part d in
    let front : take n z ++ g ≡ take (n + m) z ++ drop (n + m) b =
    ap (λ (l : List ℕ). take n z ++ l) (e.front ∙ ap (λ (l : List ℕ). take m l ++ drop m (drop n b)) c.rest) ∙ sym (append_assoc (take n z) (take m (drop n z)) (drop m (drop n b)))
    ∙ ap (λ (l : List ℕ). l ++ drop m (drop n b)) (sym (take-add n m z)) ∙ ap (λ (l : List ℕ). take (n + m) z ++ l) (drop-drop m n b) in
    let size : length y ≡ length z - n = ap length c.rest ∙ length-drop n z in
    let whole : HasCopied (n + m) z x b (take n z ++ g) = record {
      within = omega (arith, e.within, size, c.within);
      room = omega (arith, e.room, length-drop n b, c.room);
      front = front;
      rest = e.rest ∙ ap (drop m) c.rest ∙ drop-drop m n z;
    } in
    rw (is.0, end, append-nil g) whole

-- what is behind is left
pub copied_front : (m : ℕ) (r q l b g : List ℕ) → HasCopied m r q b g → HasCopied m (r ++ l) (q ++ l) b g
copied_front m r q l b g c = record {
  within = omega (arith, c.within, length-append r l);
  room = c.room;
  front = c.front ∙ ap (λ (x : List ℕ). x ++ drop m b) (sym (take-append-le m r l c.within));
  rest = ap (λ (x : List ℕ). x ++ l) c.rest ∙ sym (drop-append-le m r l c.within);
}

-- a part and a further one, which is begun once the first is copied whole
pub copies_both : (n m : ℕ) (a b t u f g : List ℕ) → n ≡ min (length a) (length b) → f ≡ take n a ++ drop n b → Copies m t u (take (length f - n) (drop n f)) g
    → Copies (n + m) (a ++ t) (drop n a ++ u) b (take n f ++ (g ++ drop (length f - n) (drop n f)))
copies_both n m a b t u f g count front c =
    let first : HasCopied n (a ++ t) (drop n a ++ t) b f =
    copied_front n a (drop n a) t b f (record { within = omega (arith, count); room = omega (arith, count); front = front; rest = refl }) in
    let is = taken_so_far n (a ++ t) (drop n a ++ t) b f first in
    let part = take (length f - n) (drop n f) in
    let size : length part ≡ length b - n = ap length (take_rest f n) ∙ length-drop n f ∙ ap (λ (k : ℕ). k - n) is.2 in
    let second : HasCopied m (drop n a ++ t) (drop n a ++ u) part g = elim (cases_lt (length b) (length a)) [
      | inr e ↦ let all : drop n a ≡ [] = drop_all n a (omega (arith, count, e)) in rw all c.copied
      | inl e ↦
          let none : m ≡ 0 = omega (arith, c.count, size, count, e) in
          let same : u ≡ t = c.copied.rest ∙ ap (λ (k : ℕ). drop k t) none in
          let still : g ≡ part = c.copied.front ∙ ap (λ (k : ℕ). take k t ++ drop k part) none in
          rw (none, same, still) (record { within = omega arith; room = omega arith; front = refl; rest = refl })
    ] in
    record {
      count = omega (arith, count, c.count, size, length-append a t);
      copied = copied_more n m (a ++ t) (drop n a ++ t) (drop n a ++ u) b f g first second;
    }

-- ---- what a loop over parts has copied

-- the buffer is full, or nothing is left
pub copied_full : (n : ℕ) (z y b f : List ℕ) → HasCopied n z y b f → n ≡ length f → Copies n z y b f
copied_full n z y b f c e = record { count = omega (arith, e, (taken_so_far n z y b f c).2, c.within); copied = c }

pub copied_end : (n : ℕ) (z y b f : List ℕ) → HasCopied n z y b f → y ≡ [] → Copies n z y b f
copied_end n z y b f c e =
    let none : length z - n ≡ 0 = sym (ap length c.rest ∙ length-drop n z) ∙ ap length e in
    record { count = omega (arith, none, c.within, c.room); copied = c }

-- a part of which the buffer holds all
pub copies_whole : (m : ℕ) (r q b g : List ℕ) → Copies m r q b g → m < length b → q ≡ []
copies_whole m r q b g c h = c.copied.rest ∙ drop_all m r (omega (arith, c.count, h))

-- a part and what follows it
pub copied_step : (n m : ℕ) (z r q l b f g : List ℕ) → HasCopied n z (r ++ l) b f → Copies m r q (take (length f - n) (drop n f)) g
    → HasCopied (n + m) z (q ++ l) b (take n f ++ (g ++ drop (length f - n) (drop n f)))
copied_step n m z r q l b f g c d = copied_more n m z (r ++ l) (q ++ l) b f g c (copied_front m r q l (take (length f - n) (drop n f)) g d.copied)

-- of a part nothing is left if the buffer is not full
pub none_left : (n m : ℕ) (z y x r q b f g h : List ℕ) → HasCopied n z y b f → Copies m r q (take (length f - n) (drop n f)) g → HasCopied (n + m) z x b h
    → n + m ≢ length h → q ≡ []
none_left n m z y x r q b f g h c d e more =
    let part = take (length f - n) (drop n f) in
    let size : length part ≡ length f - n = ap length (take_rest f n) ∙ length-drop n f in
    copies_whole m r q part g d (omega (arith, size, (taken_so_far n z y b f c).2, (taken_so_far (n + m) z x b h e).2, d.copied.room, more, c.room))
