-- Uncompressed names one after the other, and the lengths of a host identity.
use Rattle.std.proofs.Common.{◌≡◌, ℕ, suc, ◌+◌, ◌-◌, ◌*◌, ◌/◌, ◌%◌, ◌≤◌, ◌<◌, List, [], ◌∷◌, ◌++◌, length, take, drop, get_or, Option, Some, None, sym, ap, ◌∙◌, arith, subst}
use Rattle.std.proofs.Common.{length-append, take-append-drop, append_assoc}
use Rattle.std.proofs.lemmas.List.{length-take-le, length-drop, drop_at, drop-drop}
use Rattle.dns_fields.specs.Labels.{wire}
use Rattle.dns_fields.proofs.{Unique.zero_stop, Unique.pointer_stop, Unique.apart, Runs.same_run}
use Rattle.dns_labels.specs.Reading.{IsRun}
use Rattle.dns_names_wire.specs.NameEnds.{SkipsRun}
use Rattle.dns_registry.specs.FieldRules.{IsPlainName, name_octets, ArePlainNames, IsHostIdentity}
use Rattle.dns_registry.specs.HostSteps.{FirstName, NoName}
use Rattle.dns_registry.proofs.Chains.{HasSome, IsOne}

pub some_octets : HasSome name_octets IsPlainName
some_octets labels fits = omega (arith, length-append (wire labels) (0 ∷ []))

zero_after : (labels : List (List ℕ)) (rest : List ℕ) → name_octets labels ++ rest ≡ wire labels ++ (0 ∷ rest)
zero_after labels rest = append_assoc (wire labels) (0 ∷ []) rest

pub one_name : IsOne name_octets IsPlainName
one_name x y a b f g e =
    let s = same_run x y a b 0 0 f.are g.are zero_stop zero_stop (sym (zero_after x a) ∙ e ∙ zero_after y b) in
    ap (drop 1) s.1

pub first_name : {octets : List ℕ} {end after : ℕ} → SkipsRun octets 0 None end 0 after → end ≤ length octets → FirstName octets end
first_name {octets} {end} {after} r within =
    let front = r.front in
    let n : length (wire front) + 1 ≡ end = omega (arith, r.run.ends) in
    let split : octets ≡ name_octets front ++ r.run.behind = r.run.stands ∙ sym (zero_after front r.run.behind) in
    let size : length (name_octets front) ≡ end = omega (arith, n, length-append (wire front) (0 ∷ [])) in
    let behind : drop end octets ≡ r.run.behind = ap (drop end) split ∙ drop_at (name_octets front) r.run.behind end size in
    record {
      labels = front;
      fits = record { are = r.run.are; fits = omega (arith, r.counted, r.room) };
      spelled = split ∙ ap (λ (s : List ℕ). name_octets front ++ s) (sym behind);
      some = omega (arith, n);
      within = within;
    }

pub pointer_first : {octets : List ℕ} {end after target : ℕ} → SkipsRun octets 0 (Some target) end 0 after → NoName octets
pointer_first {octets} {end} {after} {target} r = record {
  none = λ labels rest fits e.
      apart target (same_run labels r.front rest (target % 256 ∷ r.run.behind) 0 (192 + target / 256) fits.are r.run.are zero_stop (pointer_stop target)
      (sym (zero_after labels rest) ∙ sym e ∙ r.run.stands)).1;
}

pub no_run : {octets : List ℕ} → ((front : List (List ℕ)) (stop : Option ℕ) (end : ℕ) → IsRun octets 0 front stop end → 0 + length (wire front) ≤ 254 → ⊥)
    → NoName octets
no_run {octets} none = record {
  none = λ labels rest fits e.
      none labels None (length (wire labels) + 1) (record {
        are = fits.are;
        behind = rest;
        stands = e ∙ zero_after labels rest;
        target = tt;
        ends = omega arith;
      }) (omega (arith, fits.fits));
}

-- ---- the lengths

abbrev pub hit_of : List ℕ → ℕ
hit_of octets = get_or octets 0 0

abbrev pub key_of : List ℕ → ℕ
key_of octets = get_or octets 2 0 * 256 + get_or octets 3 0

abbrev pub servers_of : List ℕ → List ℕ
servers_of octets = drop (4 + (hit_of octets + key_of octets)) octets

pub is_identity : (octets : List ℕ) → ((i : ℕ) → get_or octets i 0 < 256) → 4 ≤ length octets → 1 ≤ hit_of octets → 1 ≤ key_of octets
    → hit_of octets + key_of octets ≤ length octets - 4 → ArePlainNames (servers_of octets) → IsHostIdentity octets
is_identity [] small long some_hit some_key fits names = absurd (omega (arith, long))
is_identity (a ∷ []) small long some_hit some_key fits names = absurd (omega (arith, long))
is_identity (a ∷ b ∷ []) small long some_hit some_key fits names = absurd (omega (arith, long))
is_identity (a ∷ b ∷ c ∷ []) small long some_hit some_key fits names = absurd (omega (arith, long))
is_identity (a ∷ b ∷ c ∷ d ∷ xs) small long some_hit some_key fits names =
    let k = c * 256 + d in
    let last = small 3 in
    let hit : length (take a xs) ≡ a = length-take-le a xs (omega (arith, fits)) in
    let key : length (take k (drop a xs)) ≡ k = length-take-le k (drop a xs) (omega (arith, fits, length-drop a xs)) in
    let high : k / 256 ≡ c = omega (arith, last) in
    let low : k % 256 ≡ d = omega (arith, last) in
    let behind : 4 + (a + k) ≡ suc (suc (suc (suc (a + k)))) = omega arith in
    let split : xs ≡ take a xs ++ (take k (drop a xs) ++ drop k (drop a xs)) =
    sym (take-append-drop a xs) ∙ ap (λ (s : List ℕ). take a xs ++ s) (sym (take-append-drop k (drop a xs))) in
    let there : drop (4 + (a + k)) (a ∷ b ∷ c ∷ d ∷ xs) ≡ drop k (drop a xs) =
    ap (λ (n : ℕ). drop n (a ∷ b ∷ c ∷ d ∷ xs)) behind ∙ ap (λ (n : ℕ). drop n xs) (omega arith) ∙ sym (drop-drop k a xs) in
    record {
      algorithm = b;
      hit = take a xs;
      key = take k (drop a xs);
      servers = drop k (drop a xs);
      spelled = rw (hit, key, high, low) (ap (λ (s : List ℕ). a ∷ b ∷ c ∷ d ∷ s) split);
      some_hit = omega (arith, hit, some_hit);
      some_key = omega (arith, key, some_key);
      names = subst ArePlainNames there names;
    }

module _ (octets : List ℕ) (h : IsHostIdentity octets) where
  pub hit_is : hit_of octets ≡ length h.hit
  hit_is = ap (λ (s : List ℕ). get_or s 0 0) h.spelled

  pub key_is : key_of octets ≡ length h.key
  key_is =
      let high : get_or octets 2 0 ≡ length h.key / 256 = ap (λ (s : List ℕ). get_or s 2 0) h.spelled in
      let low : get_or octets 3 0 ≡ length h.key % 256 = ap (λ (s : List ℕ). get_or s 3 0) h.spelled in
      omega (arith, high, low)

  pub length_is : length octets ≡ 4 + (length h.hit + length h.key) + length h.servers
  length_is = omega (arith, ap length h.spelled, length-append h.hit (h.key ++ h.servers), length-append h.key h.servers)

  pub servers_are : servers_of octets ≡ h.servers
  servers_are =
      let n : 4 + (hit_of octets + key_of octets) ≡ suc (suc (suc (suc (length h.hit + length h.key)))) = omega (arith, hit_is, key_is) in
      ap (λ (k : ℕ). drop k octets) n ∙ ap (drop (suc (suc (suc (suc (length h.hit + length h.key)))))) h.spelled
      ∙ ap (drop (length h.hit + length h.key)) (sym (append_assoc h.hit h.key h.servers))
      ∙ drop_at (h.hit ++ h.key) h.servers (length h.hit + length h.key) (length-append h.hit h.key)
