-- Printed tokens, cut at their blanks, are read back.
use Rattle.std.proofs.Common.{◌≡◌, ◌≢◌, ℕ, zero, suc, ◌*◌, ◌^◌, ◌<◌, ◌≤◌, true, false, eqb, nat_le, List, [], ◌∷◌, ◌++◌, length, get_or, decimal}
use Rattle.std.proofs.Common.{codes, Option, Some, None, Bool, cond, ◌||◌, ◌&&◌, All, take, drop, refl, ap, sym, subst, ◌∙◌, arith, append_assoc}
use Rattle.std.specs.{List.flat_map, Net.Text.ipv4_text, Net.Text.ipv6_text, Net.Text.hex_groups_text}
use Rattle.std.specs.{declared.net.ipv4_addr.Ipv4Addr.Ipv4Addr, declared.net.ipv6_addr.Ipv6Addr.Ipv6Addr}
use Rattle.std.specs.Net.Addr.{IsIpv4Addr, IsIpv6Addr, ipv4_octets, ipv6_octets, ipv6_segments, octets_of}
use Rattle.std.specs.Prelude.{bytes_eq}
use Rattle.std.proofs.{Math.Pow.pow_mono, lemmas.Bool.Decides.nat_tests, lemmas.List.append-nil, lemmas.List.Elements.All-head, lemmas.List.Elements.All-tail}
use Rattle.std.proofs.{lemmas.Fmt.decimal_is_IsNumeral, lemmas.Str.Parse.without_leading_plus_none, lemmas.Str.Parse.digit_at}
use Rattle.std.proofs.NetLemmas.Alphabet.{IsDigitOrDot, IsHexOrColon, All-ipv4_text, All-hex_groups_text}
use Rattle.std.proofs.NetLemmas.Texts.{IsDotted-ipv4_text, IsColonHex-ipv6_text, AllSegments, AllSegments-drop}
use Rattle.dns_fields.specs.{Labels.DomainName, declared.Kind.Kind, declared.Kind.TheVariants.Number, declared.Kind.TheVariants.Name, Fields.Value}
use Rattle.dns_fields.specs.{Fields.Values}
use Rattle.dns_labels.specs.Text.{printed, label_text, joined_text, name_text}
use Rattle.dns_labels.proofs.NameTexts.{name_reads}
use Rattle.dns_tokens.specs.Ttl.Periods.{unitless}
use Rattle.dns_names_wire.specs.NameValues.{completed}
use Rattle.dns_tokens.specs.Forms.{Form, TokenRow, token, ignored, nothing, number, ttl, name, ipv4, ipv6}
use Rattle.dns_tokens.specs.Printed.{cut_from, cut, IsPrintedName}
use Rattle.dns_tokens.specs.Straight.{straight_tokens, ArePrinted, field_texts, spaced_from, spaced}

-- ---- tokens without blanks

-- no blank and no control character
abbrev pub IsSolid : List ℕ → Type 0
IsSolid [] = Unit {0}
IsSolid (c ∷ cs) = (33 ≤ c) × IsSolid cs

pub solid_append : (a b : List ℕ) → IsSolid a → IsSolid b → IsSolid (a ++ b)
solid_append [] b h k = k
solid_append (c ∷ a) b h k = (h.0, solid_append a b h.1 k)

pub solid_by_index : (ws : List ℕ) → ((k : ℕ) → k < length ws → 33 ≤ get_or ws k 0) → IsSolid ws
solid_by_index [] h = tt
solid_by_index (c ∷ cs) h = (h 0 (omega arith), solid_by_index cs (λ k lt. h (suc k) (omega arith)))

solid_all : (P : ℕ → Type 0) → ((c : ℕ) → P c → 33 ≤ c) → (ws : List ℕ) → All P ws → IsSolid ws
solid_all P f [] h = tt
solid_all P f (c ∷ cs) h = (f c (All-head P c cs h), solid_all P f cs (All-tail P c cs h))

cut_token : (front first rest : List ℕ) → IsSolid first → cut_from front (first ++ 32 ∷ rest) ≡ (front ++ first) ∷ cut rest
cut_token front [] rest h = ap (λ (l : List ℕ). l ∷ cut rest) (sym (append-nil front))
cut_token front (c ∷ cs) rest h =
    let high : 33 ≤ c = h.0 in
    let test : eqb c 32 ≡ false = grind (arith, nat_tests) in
    rw test (cut_token (front ++ c ∷ []) cs rest h.1 ∙ ap (λ (l : List ℕ). l ∷ cut rest) (append_assoc front (c ∷ []) cs))

cut_last : (front last : List ℕ) → IsSolid last → cut_from front last ≡ (front ++ last) ∷ []
cut_last front [] h = ap (λ (l : List ℕ). l ∷ []) (sym (append-nil front))
cut_last front (c ∷ cs) h =
    let high : 33 ≤ c = h.0 in
    let test : eqb c 32 ≡ false = grind (arith, nat_tests) in
    rw test (cut_last (front ++ c ∷ []) cs h.1 ∙ ap (λ (l : List ℕ). l ∷ []) (append_assoc front (c ∷ []) cs))

abbrev pub AllSolid : List (List ℕ) → Type 0
AllSolid [] = Unit {0}
AllSolid (first ∷ tokens) = IsSolid first × AllSolid tokens

spaced_behind : (front first : List ℕ) (tokens : List (List ℕ)) → spaced_from (front ++ first) tokens ≡ front ++ spaced_from first tokens
spaced_behind front first [] = refl
spaced_behind front first (next ∷ tokens) =
    let e : (front ++ first ++ codes " ") ++ next ≡ front ++ ((first ++ codes " ") ++ next) =
    ap (λ (l : List ℕ). l ++ next) (append_assoc front first (codes " ")) ∙ append_assoc front (first ++ codes " ") next in
    ap (λ (l : List ℕ). spaced_from l tokens) e ∙ spaced_behind front (first ++ codes " " ++ next) tokens

cut_spaced : (first : List ℕ) (tokens : List (List ℕ)) → IsSolid first → AllSolid tokens → cut (spaced_from first tokens) ≡ first ∷ tokens
cut_spaced first [] h all = cut_last [] first h
cut_spaced first (next ∷ tokens) h all =
    ap cut (spaced_behind (first ++ codes " ") next tokens ∙ append_assoc first (codes " ") (spaced_from next tokens))
    ∙ cut_token [] first (spaced_from next tokens) h
    ∙ ap (λ (l : List (List ℕ)). first ∷ l) (cut_spaced next tokens all.0 all.1)

-- ---- token rows

-- tokens without blanks that give the values
pub record GiveBack {kinds : List Kind} (token_row : TokenRow kinds) (vs : Values kinds) (tokens : List (List ℕ)) : Type 0 where
  pub stand : token_row.stand vs tokens
  pub solid : AllSolid tokens

pub back_ignored : GiveBack ignored tt []
back_ignored = record { stand = tt; solid = tt }

pub back_nothing : GiveBack nothing tt []
back_nothing = record { stand = refl; solid = tt }

-- a token without blanks that gives the value
pub record GivesBack {k : Kind} (form : Form k) (v : Value k) (spelled : List ℕ) : Type 0 where
  pub is : form.is v spelled
  pub solid : IsSolid spelled

pub back_token : {k : Kind} {kinds : List Kind} {form : Form k} {token_row : TokenRow kinds} {v : Value k} {vs : Values kinds} {spelled : List ℕ} {tokens : List (List ℕ)} → GivesBack form v spelled → GiveBack token_row vs tokens → GiveBack (token form token_row) (v, vs) (spelled ∷ tokens)
unfolding token
back_token h g = record { stand = (h.is, g.stand); solid = (h.solid, g.solid) }

-- a text of tokens, one blank between two, gives the values when it is cut
pub token_row_back : {kinds : List Kind} (token_row : TokenRow kinds) (vs : Values kinds) (first : List ℕ) (tokens : List (List ℕ)) (text : List ℕ)
    → text ≡ spaced_from first tokens → GiveBack token_row vs (first ∷ tokens) → token_row.stand vs (cut text)
token_row_back token_row vs first tokens text e g =
    subst (λ (l : List (List ℕ)). token_row.stand vs l) (sym (ap cut e ∙ cut_spaced first tokens g.solid.0 g.solid.1)) g.stand

-- ---- numbers

pub solid_decimal : (n : ℕ) → n < 2 ^ 64 → IsSolid (decimal n)
solid_decimal n small =
    let num = decimal_is_IsNumeral n small in
    solid_by_index (decimal n) (λ k lt. let digit = digit_at (decimal n) k num.0.1 lt in omega (arith, digit))

pub number_back : (w n : ℕ) → n < 2 ^ (8 * w) → n < 2 ^ 64 → GivesBack (number w) n (decimal n)
number_back w n fits small =
    let num = decimal_is_IsNumeral n small in
    let first : get_or (decimal n) 0 0 ≢ 43 = omega (arith, digit_at (decimal n) 0 num.0.1 num.0.0) in
    let same = without_leading_plus_none (decimal n) first in
    record { is = record { digits = rw same num.0; value = rw same (sym num.1); fits = fits }; solid = solid_decimal n small }

pub ttl_back : (most n : ℕ) → most ≤ 4294967295 → n ≤ most → GivesBack (ttl most) n (decimal n)
ttl_back most n low fits =
    let num = decimal_is_IsNumeral n (omega arith) in
    record { is = (record { sum = unitless num.0 (sym num.1); fits = omega arith }, fits); solid = solid_decimal n (omega arith) }

-- ---- names

solid_if : (b : Bool) (x y : List ℕ) → (b ≡ true → IsSolid x) → (b ≡ false → IsSolid y) → IsSolid (cond b x y)
solid_if true x y f g = f refl
solid_if false x y f g = g refl

solid_printed : (c : ℕ) → IsSolid (printed c)
solid_printed c = solid_if (eqb c 46 || eqb c 92) _ _
    (λ e. let high : 33 ≤ c = grind (arith, nat_tests) in (omega arith, (high, tt)))
    (λ _. solid_if (nat_le 33 c && nat_le c 126) _ _ (λ e. let high : 33 ≤ c = grind (arith, nat_tests) in (high, tt)) (λ _. (omega arith, (omega arith, (omega arith, (omega arith, tt))))))

solid_label : (label : List ℕ) → IsSolid (label_text label)
solid_label [] = tt
solid_label (c ∷ label) = solid_append (printed c) (label_text label) (solid_printed c) (solid_label label)

solid_others : (labels : List (List ℕ)) → IsSolid (flat_map (λ other. 46 ∷ label_text other) labels)
solid_others [] = tt
solid_others (label ∷ labels) =
    solid_append (46 ∷ label_text label) (flat_map (λ other. 46 ∷ label_text other) labels) (omega arith, solid_label label) (solid_others labels)

solid_joined : (labels : List (List ℕ)) → IsSolid (joined_text labels)
solid_joined [] = tt
solid_joined (label ∷ labels) = solid_append (label_text label) (flat_map (λ other. 46 ∷ label_text other) labels) (solid_label label) (solid_others labels)

solid_name : (x : DomainName) → x.fully_qualified ≡ true → IsSolid (name_text x)
solid_name x q = rw q (solid_append (joined_text x.labels) (46 ∷ []) (solid_joined x.labels) (omega arith, tt))

completes : (x : DomainName) (origin : Option DomainName) → x.fully_qualified ≡ true → x ≡ completed x origin
completes x None q = refl
completes x (Some origin) q = rw q refl

pub name_back : (x : DomainName) (origin : Option DomainName) → IsPrintedName x → GivesBack (name origin) x (name_text x)
name_back x origin h = record {
  is = record { read = x; is_text = name_reads x h.is_name h.octets; same = completes x origin h.qualified; is_name = h.is_name };
  solid = solid_name x h.qualified;
}

-- ---- addresses

solid_dotted : (octets : List ℕ) → ((k : ℕ) → get_or octets k 0 < 2 ^ 8) → IsSolid (ipv4_text octets)
solid_dotted octets fits = solid_all IsDigitOrDot (λ c h. omega (arith, h)) (ipv4_text octets) (All-ipv4_text octets fits)

pub ipv4_back : (a : Ipv4Addr) → IsIpv4Addr a → GivesBack ipv4 (ipv4_octets a) (ipv4_text (ipv4_octets a))
ipv4_back a h = record { is = (a, IsDotted-ipv4_text _ h.0 h.1, refl); solid = solid_dotted (ipv4_octets a) h.1 }

bounded : (segments : List ℕ) → ((k : ℕ) → get_or segments k 0 < 2 ^ 16) → (k : ℕ) → get_or (octets_of segments) k 0 < 2 ^ 8
bounded [] h k = omega arith
bounded (s ∷ segments) h zero = let fits = h 0 in omega (arith, fits)
bounded (s ∷ segments) h (suc zero) = omega arith
bounded (s ∷ segments) h (suc (suc k)) = bounded segments (λ j. h (suc j)) k

solid_ipv6 : (segments : List ℕ) → AllSegments segments → IsSolid (ipv6_text segments)
unfolding ipv6_text
solid_ipv6 segments fits = solid_if (bytes_eq (take 6 segments) (0 ∷ 0 ∷ 0 ∷ 0 ∷ 0 ∷ 65535 ∷ [])) (codes "::ffff:" ++ ipv4_text (octets_of (drop 6 segments))) (hex_groups_text segments)
    (λ _. solid_append (codes "::ffff:") (ipv4_text (octets_of (drop 6 segments)))
    (omega arith, (omega arith, (omega arith, (omega arith, (omega arith, (omega arith, (omega arith, tt)))))))
    (solid_dotted (octets_of (drop 6 segments)) (bounded (drop 6 segments) (AllSegments-drop 6 segments fits))))
    (λ _. solid_all IsHexOrColon (λ c h. omega (arith, h)) (hex_groups_text segments) (All-hex_groups_text segments fits))

pub ipv6_back : (a : Ipv6Addr) → IsIpv6Addr a → GivesBack ipv6 (ipv6_octets a) (ipv6_text (ipv6_segments a))
ipv6_back a h = record { is = (a, IsColonHex-ipv6_text _ h.0 h.1, refl); solid = solid_ipv6 (ipv6_segments a) h.1 }

-- ---- records of numbers and names

below : (w n k : ℕ) → n < 2 ^ w → w ≤ k → n < 2 ^ k
below w n k h le = let up : 2 ^ w ≤ 2 ^ k = pow_mono le in omega arith

fields_back : (origin : Option DomainName) (kinds : List Kind) (vs : Values kinds) → ArePrinted kinds vs
    → GiveBack (straight_tokens origin kinds) vs (field_texts kinds vs)
fields_back origin [] vs h = back_ignored
fields_back origin (Number w ∷ kinds) vs h =
    back_token (number_back w vs.0 (below _ vs.0 (8 * w) h.0 (omega arith)) (below _ vs.0 64 h.0 (omega arith))) (fields_back origin kinds vs.1 h.1)
fields_back origin (Name ∷ kinds) vs h = back_token (name_back vs.0 origin h.0) (fields_back origin kinds vs.1 h.1)
fields_back origin kinds vs h = absurd h

pub straight_back : (origin : Option DomainName) (kinds : List Kind) (vs : Values kinds) → ArePrinted kinds vs
    → (straight_tokens origin kinds).stand vs (cut (spaced (field_texts kinds vs)))
straight_back origin [] vs h = tt
straight_back origin (Number w ∷ kinds) vs h = token_row_back _ vs _ _ _ refl (fields_back origin (Number w ∷ kinds) vs h)
straight_back origin (Name ∷ kinds) vs h = token_row_back _ vs _ _ _ refl (fields_back origin (Name ∷ kinds) vs h)
straight_back origin kinds vs h = absurd h
