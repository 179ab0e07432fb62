-- Where the prefix of a net's text begins.
use Rattle.std.proofs.Common.{◌≡◌, ◌≢◌, ℕ, ◌<◌, ◌≤◌, ◌+◌, List, [], ◌∷◌, ◌++◌, length, take, drop, get_or, refl, arith, ap, sym, ◌∙◌, subst, ◌^◌}
use Rattle.std.proofs.{lemmas.List.Elements.recursion_from_All, lemmas.List.Elements.All-from_get_or, NetLemmas.Theorems.IsIpText_unique}
use Rattle.std.proofs.lemmas.{Str.Pattern.NoCharPasses-char, Str.Pattern.drop_at_char, List.take-append-drop, Str.Parse.digit_at}
use Rattle.std.specs.{declared.net.ip_addr.IpAddr.TheVariants.V4, declared.net.ip_addr.IpAddr.TheVariants.V6, Net.Grammar.Parses, Net.Grammar.IsIpText}
use Rattle.std.specs.{declared.option.Option.TheVariants.Some, declared.option.Option.TheVariants.None, Prelude.MatchOption, Prelude.IfSome, Prelude.IfNone}
use Rattle.std.specs.{declared.net.ip_addr.IpAddr.IpAddr, declared.option.Option.Option, Str.Pattern.RFindsChar, List.AllByRecursion, Option.ok_or}
use Rattle.dns_types.specs.declared.error.AddrParseError.{AddrParseError}
use Rattle.dns_rdata_options.specs.{NetText.IsNetText, NetText.IsPrefixText, IpNet.address_bits}
use denote.Ref.{Bor}

-- the octet c is not in s
abbrev pub Lacks : ℕ → List ℕ → Type 0
Lacks c s = AllByRecursion (λ x. x ≢ c) s

lacks_each : (c : ℕ) (s : List ℕ) → ((i : ℕ) → i < length s → get_or s i 0 ≢ c) → Lacks c s
lacks_each c s h = recursion_from_All (λ x. x ≢ c) s (All-from_get_or (λ x. x ≢ c) s 0 h)

not_behind : (c : ℕ) (ys us vs : List ℕ) → Lacks c ys → ys ≡ us ++ (c ∷ vs) → ⊥
not_behind c ys us vs n e = found us (subst (Lacks c) e n) where
  found : (us : List ℕ) → Lacks c (us ++ (c ∷ vs)) → ⊥
  found [] h = h.0 refl
  found (u ∷ us) h = found us h.1

-- a text has one last c
last_one : (c : ℕ) (xs ys us vs : List ℕ) → xs ++ (c ∷ ys) ≡ us ++ (c ∷ vs) → Lacks c ys → Lacks c vs → (xs ≡ us) × (ys ≡ vs)
last_one c [] ys [] vs e n m = (refl, cc)
last_one c [] ys (u ∷ us) vs e n m = let tail : ys ≡ us ++ (c ∷ vs) = cc in absurd (not_behind c ys us vs n tail)
last_one c (x ∷ xs) ys [] vs e n m = let tail : vs ≡ xs ++ (c ∷ ys) = cc in absurd (not_behind c vs xs ys m tail)
last_one c (x ∷ xs) ys (u ∷ us) vs e n m =
    let tail : xs ++ (c ∷ ys) ≡ us ++ (c ∷ vs) = cc in
    let later = last_one c xs ys us vs tail n m in
    let head : x ≡ u = cc in
    (cc, later.1)

pub record SplitsLast (c : ℕ) (text front back : List ℕ) : Type 0 where
  pub cut : text ≡ front ++ (c ∷ back)
  pub last : Lacks c back

-- what `rsplit_once` returns at an ASCII character
pub rsplit_parts : (c : ℕ) (text : List ℕ) (r : Option (Bor (List ℕ) × Bor (List ℕ)))
    → MatchOption r (RFindsChar c text None) (λ x. (i : ℕ) × (j : ℕ) × RFindsChar c text (Some (i, j)) × (x.0.now ≡ take i text) × (x.1.now ≡ drop j text)
    × (i ≤ j) × (length x.0.now ≡ i) × (length x.1.now + j ≡ length text))
    → c < 128 → MatchOption r (Lacks c text) (λ x. SplitsLast c text x.0.now x.1.now)
rsplit_parts c text None h low = lacks_each c text (λ i l. NoCharPasses-char c text i h low l)
rsplit_parts c text (Some x) (i, j, finds, front, back, _, _, _) low =
    let at : drop i text ≡ c ∷ drop j text = drop_at_char c text i j finds.1 low in record {
      cut = sym (take-append-drop i text) ∙ rw (at, front, back) refl;
      last = lacks_each c x.1.now (λ k l. rw back (NoCharPasses-char c (drop j text) k finds.0 low (rw back at l)));
    }

digits_lack : (digits : List ℕ) (n : ℕ) → IsPrefixText digits n → Lacks 47 digits
digits_lack digits n p = lacks_each 47 digits (λ i l e. let digit = digit_at digits i p.numeral.1 l in omega arith)

-- no `/`, no net
pub no_slash : (text : List ℕ) (net : IpAddr × ℕ) → Lacks 47 text → IsNetText text net → ⊥
no_slash text net lacks is = not_behind 47 text is.address is.digits lacks is.spelled

-- a net's prefix follows the last `/`, and its address in front of it
pub net_parts : {text front back : List ℕ} (net : IpAddr × ℕ) → SplitsLast 47 text front back → IsNetText text net
    → IsIpText front net.0 × IsPrefixText back net.1
net_parts {text} {front} {back} net s is =
    let same = last_one 47 is.address is.digits front back (sym is.spelled ∙ s.cut) (digits_lack is.digits net.1 is.prefix) s.last in
    (subst (λ (t : List ℕ). IsIpText t net.0) same.0 is.address_text, subst (λ (t : List ℕ). IsPrefixText t net.1) same.1 is.prefix)

most_bits : (ip : IpAddr) → address_bits ip < 2 ^ 8
most_bits (V4 ip) = omega arith
most_bits (V6 ip) = omega arith

-- there is no prefix
pub no_prefix : {text front back : List ℕ} (net : IpAddr × ℕ) → SplitsLast 47 text front back → ((n : ℕ) → n < 2 ^ 8 → ¬ (IsPrefixText back n))
    → IsNetText text net → ⊥
no_prefix net s none is =
    let bits = most_bits net.0 in
    let most : net.1 ≤ address_bits net.0 = is.most in
    none net.1 (omega arith) (net_parts net s is).1

-- an address with a prefix is a net where the prefix has no more bits than the address
pub net_read : {text front back : List ℕ} (ip : IpAddr) (n : ℕ) (o : Option (IpAddr × ℕ)) (e : AddrParseError) → SplitsLast 47 text front back
    → IsIpText front ip
    → IsPrefixText back n → IfSome o (λ net. (net ≡ (ip, n)) × (n ≤ address_bits ip)) → IfNone o (address_bits ip < n) → Parses IsNetText text (ok_or o e)
net_read {text} {front} {back} ip n (Some net) e s is prefix some none =
    subst (λ (x : IpAddr × ℕ). IsNetText text x) (sym some.0)
    (record { address = front; digits = back; spelled = s.cut; address_text = is; prefix = prefix; most = some.1 })
net_read {text} {front} {back} ip n None e s is prefix some none = λ net other.
    let parts = net_parts net s other in
    let same_n : net.1 ≡ n = parts.1.value ∙ sym prefix.value in
    let bits : address_bits net.0 ≡ address_bits ip = ap address_bits (IsIpText_unique front net.0 ip parts.0 is) in
    let most : net.1 ≤ address_bits net.0 = other.most in
    absurd (omega arith)
