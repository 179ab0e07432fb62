-- The definitions, checked against octets that were worked out by hand.
use Rattle.std.proofs.Common.{◌≡◌, ◌≢◌, ℕ, zero, suc, ◌+◌, drop, ◌-◌, ◌%◌, ◌≤◌, ◌<◌, ◌^◌, ◌⊎◌, inl, inr, ⊎_elim, false, List}
use Rattle.std.proofs.Common.{[], ◌∷◌, ◌++◌, length, take, refl, sym, ap, ◌∙◌, arith, subst, append_assoc, append-nil, true, IsUtf8}
use Rattle.std.specs.{List.flat_map, List.AllByRecursion, Int.bytes_high_first, Str.IsAscii, Str.is_utf8, Str.chars}
use Rattle.std.proofs.lemmas.List.{length-append, take_all, take_at}
use Rattle.std.proofs.lemmas.Str.{IsUtf8-from_ascii, is_utf8-from_IsUtf8}
use Rattle.dns_fields.specs.{Octets.At, Labels.DomainName, Labels.FitsName, Names.LabelsStand, Names.LabelsStand.whole, Names.LabelsStand.pointed}
use Rattle.dns_fields.specs.Tlvs.{IsAddress, string, Numbered, tlv, tlvs, IsTlv, AreTlvs, OptionValue, Subnet, OpaqueOption, OptionHeld, AllHeld}
use Rattle.dns_fields.specs.Tlvs.{IsTruncated, ParameterValue, ParameterHeld, Rising, Port, Mandatory, Alpn, NoDefaultAlpn, Ipv4Hint, Ipv6Hint, Opaque}
use Rattle.dns_fields.specs.Fields.{Values, Field, Stands, canonical, field_octets, CompleteOptions}
use Rattle.dns_fields.specs.declared.Kind.{Kind, TheVariants.Number, TheVariants.Name, TheVariants.Options, TheVariants.Parameters}
use Rattle.dns_fields.specs.Fields.{ParametersAt}
use Rattle.dns_fields.specs.Examples.{Reads, HoldsNone, full, www_label, www_twice, example_label, com_label, xxx_label, twenty, address_of_six}
use Rattle.dns_fields.specs.Examples.{StringExamples, NameExamples, OptionExamples, ParameterExamples}
use Rattle.dns_fields.proofs.{Numbers.length-bytes, Runs.no_labels, NameLaws.name_same}
use Rattle.dns_fields.proofs.Tlvs.{number_first, heads_same, tlv_before, length-tlv, tlvs_same, complete_or_truncated}

-- ---- what the examples are made of

pub reads : {message : List ℕ} {start end : ℕ} {kinds : List Kind} {values : Values kinds} {octets : List ℕ} → Stands message start kinds values end
    → canonical kinds values ≡ octets → Reads message start end kinds values octets
reads stands same = record { stands = stands; canonical_octets = same }

-- something up to an offset, and what follows from there
pub next : {P Q : ℕ → Type 0} (q : ℕ) → P q → Q q → (q : ℕ) × P q × Q q
next q p r = (q, p, r)

-- octets stand there
pub at : {m x : List ℕ} {p q : ℕ} → q ≡ p + length x → q ≤ length m → take (length x) (drop p m) ≡ x → At m p x q
at ends within same = record { ends = ends; within = within; same = same }

-- octets that are the whole message, from either side
At-all : {m x : List ℕ} → x ≡ m → At m 0 x (length m)
At-all {m} {x} e = at (omega (arith, ap length e)) (omega arith) (take_all (length x) m (omega (arith, ap length e)) ∙ sym e)

pub At-whole : {m x : List ℕ} {q : ℕ} → At m 0 x q → q ≡ length m → x ≡ m
At-whole {m} {x} a e = let n = a.ends in sym a.same ∙ take_all (length x) m (omega arith)

pub number : {m : List ℕ} {p w n q : ℕ} → n < 256 ^ w → q ≡ p + length (bytes_high_first w n) → q ≤ length m
    → take (length (bytes_high_first w n)) (drop p m) ≡ bytes_high_first w n → Field m p (Number w) n q
number small ends within same = record { is = (small, at ends within same) }

name : {m : List ℕ} {p q : ℕ} {x : DomainName} → LabelsStand m p x.labels q → FitsName x.labels → x.fully_qualified ≡ true → Field m p Name x q
name stands fits qualified = record { is = record { stands = stands; fits = fits; qualified = qualified } }

-- ---- numbers, octets and strings

-- a string of two octets of which one is there
half_string : (ss : List (List ℕ)) → flat_map string ss ≡ 2 ∷ 0x61 ∷ [] → ⊥
half_string [] e = cc e
half_string (s ∷ ss) e =
    let f : length s ∷ (s ++ flat_map string ss) ≡ 2 ∷ 0x61 ∷ [] = e in
    let n : length s ≡ 2 = cc in
    let t : s ++ flat_map string ss ≡ 0x61 ∷ [] = cc in
    omega (arith, ap length t, length-append s (flat_map string ss))

pub string_examples : StringExamples
unfolding field_octets
string_examples = record {
  address_reads = reads (4, record { is = (refl, at refl (omega arith) refl) }, refl) refl;
  address_is_four =
      (λ v f. let at = f.1.is.1 in omega (arith, f.1.is.0, at.ends, f.2), λ v f. let at = f.1.is.1 in omega (arith, at.within, f.2));
  two_texts_read = reads
      (4, record { is = (omega arith, at refl (omega arith) refl) }, (7, record { is = (omega arith, at refl (omega arith) refl) }, refl)) refl;
  empty_strings_read = (
    reads (0, record { is = (tt, at refl (omega arith) refl) }, refl) refl,
    reads (1, record { is = ((omega arith, tt), at refl (omega arith) refl) }, refl) refl,
    refl,
  );
  truncated_string = λ v f. half_string v.0 (At-whole f.1.is.1 f.2);
  rest_reads = (
    reads (2, record { is = at refl (omega arith) refl }, refl) refl,
    reads (1, record { is = at refl (omega arith) refl }, refl) refl,
  );
}

-- ---- names

pointed_stands : Field www_twice 5 Name (full (www_label ∷ [])) 7
pointed_stands = name
    (pointed [] (www_label ∷ []) 0 5 [] tt refl (omega arith) (omega arith) (whole [] ((omega arith, omega arith), tt) refl refl) refl refl)
    (omega arith) refl

-- an octet that is no label's length, at the message's beginning
no_name : (first : ℕ) {labels : List (List ℕ)} {e : ℕ} → 64 ≤ first → LabelsStand (first ∷ 0x00 ∷ []) 0 labels e → ⊥
no_name first {labels} high (whole behind are s ends) =
    let k = no_labels labels (0x00 ∷ []) (0 ∷ behind) first are (λ _. high) s in
    let same : first ∷ 0x00 ∷ [] ≡ 0 ∷ behind = k.1 in
    let none : first ≡ 0 = cc in
    omega arith
no_name first high (pointed front rest target rest_end behind are s small earlier stands joined ends) = omega arith

letters_stand : (c : ℕ) → Stands (0x01 ∷ 0x00 ∷ 0x01 ∷ c ∷ 0x00 ∷ []) 0 (Number 2 ∷ Name ∷ []) (256, (full ((c ∷ []) ∷ []), tt)) 5
letters_stand c =
    (2, number (omega arith) refl (omega arith) refl, (5, name (whole [] ((omega arith, omega arith), tt) refl refl) (omega arith) refl, refl))

pub name_examples : NameExamples
unfolding field_octets
name_examples = record {
  pointed_name_reads = reads (7, pointed_stands, refl) refl;
  truncated_pointer = λ v f. let ends = (name_same f.1.is pointed_stands.is).1 in omega (arith, f.2);
  pointer_to_itself = λ v f. no_name 0xc0 (omega arith) f.1.is.stands;
  reserved_label = λ v f. no_name 0x40 (omega arith) f.1.is.stands;
  letters_read = (reads (letters_stand 0x4e) refl, reads (letters_stand 0x6e) refl, refl, refl);
  marks_apart = (refl, refl);
  start_of_authority_reads = reads
      (next 17 (name (whole (0x03 ∷ 0x78 ∷ 0x78 ∷ 0x78 ∷ 0xc0 ∷ 0x04 ∷ twenty)
      ((omega arith, omega arith), ((omega arith, omega arith), ((omega arith, omega arith), tt))) refl refl) (omega arith) refl)
      (next 23 (name (pointed (xxx_label ∷ []) (example_label ∷ com_label ∷ []) 4 17 twenty ((omega arith, omega arith), tt) refl (omega arith) (omega arith)
      (whole [] ((omega arith, omega arith), ((omega arith, omega arith), tt)) refl refl) refl refl) (omega arith) refl)
      (next 27 (number (omega arith) refl (omega arith) refl) (next 31 (number (omega arith) refl (omega arith) refl)
      (next 35 (number (omega arith) refl (omega arith) refl) (next 39 (number (omega arith) refl (omega arith) refl)
      (next 43 (number (omega arith) refl (omega arith) refl) refl))))))) refl;
}

-- ---- options

-- options that stand whole
whole_options : (m : List ℕ) (v : List (Numbered OptionValue)) (read : List (Numbered (List ℕ))) → tlvs read ≡ m → AreTlvs read
    → AllHeld OptionHeld read v → Stands m 0 (Options ∷ []) (v, tt) (length m)
whole_options m v read e fit held = (length m, record { is = inl (record { read = read; at = At-all e; fit = fit; held = held }) }, refl)

-- one option that stands whole
whole_option : (k : ℕ) (body : List ℕ) (v : OptionValue) → IsTlv (k, body) → OptionHeld k body v
    → Stands (tlv (k, body)) 0 (Options ∷ []) ((k, v) ∷ [], tt) (length (tlv (k, body)))
whole_option k body v fit held = whole_options (tlv (k, body)) ((k, v) ∷ []) ((k, body) ∷ []) (append-nil (tlv (k, body))) (fit, tt) (refl, held, tt)

-- options of which the last one is truncated
truncated_options : (m rest : List ℕ) (read : List (Numbered (List ℕ))) (dropped : List (Numbered OptionValue)) (stub : List ℕ) → tlvs read ++ stub ≡ m
    → AreTlvs read → AllHeld OptionHeld read dropped → IsTruncated (length m - 0) stub → Stands (m ++ rest) 0 (Options ∷ []) ([], tt) (length m)
truncated_options m rest read dropped stub e fit held cut =
    let there : At (m ++ rest) 0 (tlvs read ++ stub) (length m) =
    rw e (at (omega arith) (omega (arith, length-append m rest)) (take_at m rest (length m) refl)) in
    (length m, record { is = inr (refl, record { read = read; dropped = dropped; stub = stub; at = there; fit = fit; held = held; cut = cut }) }, refl)

abbrev stub : List ℕ
stub = 0x00 ∷ 0x0a ∷ 0x00 ∷ 0x05 ∷ 0x01 ∷ 0x02 ∷ []

stub_truncated : IsTruncated 6 stub
stub_truncated = (10, omega arith, inr (5, 0x01 ∷ 0x02 ∷ [], omega arith, omega arith, omega arith, refl))

-- octets of options are tlvs, and then nothing or a truncated option
option_parts : {m : List ℕ} {v : Values (Options ∷ [])} → Stands m 0 (Options ∷ []) v (length m)
    → (xs : List (Numbered (List ℕ))) × (s : List ℕ) × AreTlvs xs × ((s ≡ []) ⊎ IsTruncated (length m) s) × (tlvs xs ++ s ≡ m)
option_parts {m} {v} f = ⊎_elim
    (λ (w : CompleteOptions m 0 v.0 f.0). (w.read, [], w.fit, inl refl, append-nil (tlvs w.read) ∙ At-whole w.at f.2))
    (λ c. (c.1.read, c.1.stub, c.1.fit, inr (subst (λ n. IsTruncated n c.1.stub) (omega (arith, f.2)) c.1.cut), At-whole c.1.at f.2))
    f.1.is

-- a length of more than all octets
length_past : HoldsNone (0x00 ∷ 0x0a ∷ 0x00 ∷ 0x05 ∷ []) 0 4 (Options ∷ [])
length_past v f = let p = option_parts {v = v} f in none p.0 p.1 p.2 p.3 p.4 where
  none : (xs : List (Numbered (List ℕ))) (s : List ℕ) → AreTlvs xs → (s ≡ []) ⊎ IsTruncated 4 s → tlvs xs ++ s ≡ 0x00 ∷ 0x0a ∷ 0x00 ∷ 0x05 ∷ [] → ⊥
  none (x ∷ xs) s fit c e =
      let h = heads_same x.0 10 (length x.1) 5 (x.1 ++ (tlvs xs ++ s)) [] fit.0.0 (omega arith) fit.0.1 (omega arith)
      (sym (append_assoc (tlv x) (tlvs xs) s ∙ tlv_before x (tlvs xs ++ s)) ∙ e) in
      omega (arith, h.1, ap length h.2, length-append x.1 (tlvs xs ++ s))
  none [] s fit (inl empty) e = omega (arith, ap length empty, ap length e)
  none [] s fit (inr (code, small, inl head)) e = omega (arith, ap length head, ap length e, length-bytes 2 code)
  none [] s fit (inr (code, small, inr h)) e =
      let k = heads_same code 10 h.0 5 h.1 [] small (omega arith) h.2 (omega arith) (sym h.5 ∙ e) in
      omega (arith, k.1, h.3)

-- whole options are none or at least four octets, and a truncated one has two or at least four
odd : (m : List ℕ) → length m < 4 → length m % 2 ≡ 1 → HoldsNone m 0 (length m) (Options ∷ [])
odd m few uneven v f =
    let p = option_parts {v = v} f in
    omega (arith, long p.0, truncated_long p.1 p.3, ap length p.4, length-append (tlvs p.0) p.1, few, uneven)
  where
    long : (xs : List (Numbered (List ℕ))) → (length (tlvs xs) ≡ 0) ⊎ (4 ≤ length (tlvs xs))
    long [] = inl refl
    long (x ∷ xs) = inr (omega (arith, length-tlv x, length-append (tlv x) (tlvs xs)))

    truncated_long : (s : List ℕ) → (s ≡ []) ⊎ IsTruncated (length m) s → (length s ≡ 0) ⊎ ((length s ≡ 2) ⊎ (4 ≤ length s))
    truncated_long s (inl e) = inl (ap length e)
    truncated_long s (inr (code, small, inl e)) = inr (inl (ap length e ∙ length-bytes 2 code))
    truncated_long s (inr (code, small, inr h)) = inr (inr (omega (
      arith,
      ap length h.5,
      length-append (bytes_high_first 2 code) (bytes_high_first 2 h.0 ++ h.1),
      length-append (bytes_high_first 2 h.0) h.1,
      length-bytes 2 code,
      length-bytes 2 h.0,
    )))

abbrev cookie : List ℕ
cookie = 0x0b ∷ 0x64 ∷ 0xb4 ∷ 0xdc ∷ 0xd7 ∷ 0xb0 ∷ 0xcc ∷ 0x8f ∷ []

-- a tlv that holds no value is that of no list of one
first_held : {V : Type 0} (Held : ℕ → List ℕ → V → Type 0) (k : ℕ) (body : List ℕ) (v : List (Numbered V)) → ((w : V) → Held k body w → ⊥)
    → AllHeld Held ((k, body) ∷ []) v → ⊥
first_held Held k body [] none h = h
first_held Held k body (x ∷ xs) none h = none x.1 (subst (λ n. Held n body x.1) (sym h.0) h.1)

-- an option that fills the message and holds no value
no_option : (k : ℕ) (body : List ℕ) → IsTlv (k, body) → ((w : OptionValue) → OptionHeld k body w → ⊥)
    → HoldsNone (tlv (k, body)) 0 (length (tlv (k, body))) (Options ∷ [])
no_option k body fit none v f =
    let m = tlv (k, body) in
    let known : List (Numbered (List ℕ)) = (k, body) ∷ [] in
    let e : tlvs known ≡ m = append-nil m in
    ⊎_elim
    (λ (w : CompleteOptions m 0 v.0 f.0).
    let same : w.read ≡ known = tlvs_same w.read known w.fit (fit, tt) (At-whole w.at f.2 ∙ sym e) in
    first_held OptionHeld k body v.0 none (rw same at w.held))
    (λ c. complete_or_truncated (f.0 - 0) known c.1.read c.1.stub (fit, tt) c.1.fit c.1.cut (e ∙ sym (At-whole c.1.at f.2)))
    f.1.is

-- the family, the source prefix and the address of a subnet whose octets begin with these
subnet_begins : (family source scope : ℕ) (rest : List ℕ) (w : OptionValue) → family < 256 ^ 2
    → OptionHeld 8 (bytes_high_first 2 family ++ (source ∷ scope ∷ rest)) w → (address : List ℕ) × IsAddress family source address
subnet_begins family source scope rest (Subnet f s c a) l h =
    let small : f < 256 ^ 2 = ⊎_elim (λ x. omega (arith, x.0)) (λ x. omega (arith, x.0)) h.1.most in
    let n = number_first f family (s ∷ c ∷ (a ++ h.2)) (source ∷ scope ∷ rest) small l (sym h.3) in
    let t : s ∷ c ∷ (a ++ h.2) ≡ source ∷ scope ∷ rest = n.1 in
    let prefix : s ≡ source = cc in
    (a, rw (n.0, prefix) at h.1)
subnet_begins family source scope rest (OpaqueOption s) l h = absurd (h.0 refl)

pub option_examples : OptionExamples
unfolding field_octets
option_examples = record {
  truncated_option_reads = (
    reads (truncated_options (0x00 ∷ 0x0a ∷ []) [] [] [] (0x00 ∷ 0x0a ∷ []) refl tt tt (10, omega arith, inl refl)) refl,
    reads (truncated_options stub [] [] [] stub refl tt tt stub_truncated) refl,
    reads (truncated_options stub (0x03 ∷ 0x04 ∷ 0x05 ∷ []) [] [] stub refl tt tt stub_truncated) refl,
  );
  truncated_drops_all = (
    reads (truncated_options (0x00 ∷ 0x0f ∷ 0x00 ∷ 0x01 ∷ 0x05 ∷ 0x00 ∷ 0x0a ∷ []) [] ((15, 0x05 ∷ []) ∷ []) ((15, OpaqueOption (0x05 ∷ [])) ∷ []) (0x00 ∷ 0x0a ∷ []) refl
        ((omega arith, omega arith), tt) (refl, (λ e. omega arith, refl), tt) (10, omega arith, inl refl)) refl,
    reads (truncated_options (0x00 ∷ 0x0a ∷ 0x00 ∷ 0x09 ∷ 0x00 ∷ 0x0f ∷ 0x00 ∷ 0x01 ∷ 0x05 ∷ []) [] [] []
        (0x00 ∷ 0x0a ∷ 0x00 ∷ 0x09 ∷ 0x00 ∷ 0x0f ∷ 0x00 ∷ 0x01 ∷ 0x05 ∷ []) refl tt tt
        (10, omega arith, inr (9, 0x00 ∷ 0x0f ∷ 0x00 ∷ 0x01 ∷ 0x05 ∷ [], omega arith, omega arith, omega arith, refl))) refl,
  );
  broken_option = (length_past, odd (0x00 ∷ []) (omega arith) refl, odd (0x00 ∷ 0x0a ∷ 0x00 ∷ []) (omega arith) refl);
  options_in_order = (
    reads (whole_options (0x00 ∷ 0x0f ∷ 0x00 ∷ 0x01 ∷ 0x05 ∷ 0x00 ∷ 0x0a ∷ 0x00 ∷ 0x01 ∷ 0x05 ∷ [])
        ((15, OpaqueOption (0x05 ∷ [])) ∷ (10, OpaqueOption (0x05 ∷ [])) ∷ []) ((15, 0x05 ∷ []) ∷ (10, 0x05 ∷ []) ∷ []) refl
        ((omega arith, omega arith), ((omega arith, omega arith), tt)) (refl, (λ e. omega arith, refl), (refl, (λ e. omega arith, refl), tt))) refl,
    refl,
  );
  options_counted = (refl, refl);
  subnet_reads = reads (whole_options
      (0x00 ∷ 0x0a ∷ 0x00 ∷ 0x08 ∷ 0x0b ∷ 0x64 ∷ 0xb4 ∷ 0xdc ∷ 0xd7 ∷ 0xb0 ∷ 0xcc ∷ 0x8f ∷ 0x00 ∷ 0x08 ∷ 0x00 ∷ 0x04 ∷ 0x00 ∷ 0x01 ∷ 0x00 ∷ 0x00 ∷ 0x00 ∷
      0x0b ∷ 0x00 ∷ 0x00 ∷ [])
      ((10, OpaqueOption cookie) ∷ (8, Subnet 1 0 0 []) ∷ (11, OpaqueOption []) ∷ [])
      ((10, cookie) ∷ (8, 0x00 ∷ 0x01 ∷ 0x00 ∷ 0x00 ∷ []) ∷ (11, []) ∷ []) refl
      ((omega arith, omega arith), ((omega arith, omega arith), ((omega arith, omega arith), tt))) (
        refl,
        (λ e. omega arith, refl),
        (
          refl,
          (refl, record { long = refl; most = inl (refl, omega arith) }, [], refl),
          (refl, (λ e. omega arith, refl), tt),
        ),
      )) refl;
  subnet_of_six_reads = reads (whole_option 8 (0x00 ∷ 0x02 ∷ 0x18 ∷ 0x00 ∷ 0x20 ∷ 0x01 ∷ 0x0d ∷ []) (Subnet 2 24 0 (0x20 ∷ 0x01 ∷ 0x0d ∷ []))
      (omega arith, omega arith) (refl, record { long = refl; most = inr (refl, omega arith) }, [], refl)) refl;
  subnet_ends = reads (whole_option 8 (0x00 ∷ 0x01 ∷ 0x19 ∷ 0x00 ∷ 0xac ∷ 0x01 ∷ 0x01 ∷ 0xff ∷ 0xff ∷ []) (Subnet 1 25 0 (0xac ∷ 0x01 ∷ 0x01 ∷ 0xff ∷ []))
      (omega arith, omega arith) (refl, record { long = refl; most = inl (refl, omega arith) }, 0xff ∷ [], refl)) refl;
  server_identifier_reads = reads
      (whole_option 3 (0xc0 ∷ 0xff ∷ 0xee ∷ []) (OpaqueOption (0xc0 ∷ 0xff ∷ 0xee ∷ [])) (omega arith, omega arith) (λ e. omega arith, refl)) refl;
  broken_subnet = (
    no_option 8 (0x00 ∷ 0x03 ∷ 0x00 ∷ 0x00 ∷ []) (omega arith, omega arith)
        (λ w h. let b = subnet_begins 3 0 0 [] w (omega arith) h in ⊎_elim (λ a. omega (arith, a.0)) (λ a. omega (arith, a.0)) b.1.most),
    no_option 8 (0x00 ∷ 0x01 ∷ 0x21 ∷ 0x00 ∷ 0x01 ∷ 0x02 ∷ 0x03 ∷ 0x04 ∷ 0x05 ∷ []) (omega arith, omega arith)
        (λ w h.
        let b = subnet_begins 1 33 0 (0x01 ∷ 0x02 ∷ 0x03 ∷ 0x04 ∷ 0x05 ∷ []) w (omega arith) h in
        ⊎_elim (λ a. omega (arith, a.1, b.1.long)) (λ a. omega (arith, a.0)) b.1.most),
  );
}

-- ---- parameters

-- values in tlvs that are known to fill the message
known_held : {m : List ℕ} (known : List (Numbered (List ℕ))) → AreTlvs known → tlvs known ≡ m → (v : Values (Parameters ∷ []))
    → Stands m 0 (Parameters ∷ []) v (length m) → AllHeld ParameterHeld known v.0
known_held {m} known fit e v f =
    let g : ParametersAt m 0 v.0 f.0 = f.1.is in
    let same : g.read ≡ known = tlvs_same g.read known g.fit fit (At-whole g.at f.2 ∙ sym e) in
    rw same at g.held

-- a parameter that fills the message and holds no value
no_parameter : (k : ℕ) (body : List ℕ) → IsTlv (k, body) → ((w : ParameterValue) → ParameterHeld k body w → ⊥)
    → HoldsNone (tlv (k, body)) 0 (length (tlv (k, body))) (Parameters ∷ [])
no_parameter k body fit none v f =
    first_held ParameterHeld k body v.0 none (known_held ((k, body) ∷ []) (fit, tt) (append-nil (tlv (k, body))) v f)

-- one parameter that fills the message
one_parameter : (k : ℕ) (body : List ℕ) (v : ParameterValue) → IsTlv (k, body) → ParameterHeld k body v
    → Stands (tlv (k, body)) 0 (Parameters ∷ []) ((k, v) ∷ [], tt) (length (tlv (k, body)))
one_parameter k body v fit held =
    let m = tlv (k, body) in
    next (length m) (record {
      is = record { read = (k, body) ∷ []; at = At-all (append-nil m); fit = (fit, tt); held = (refl, held, tt); rising = (tt, tt) };
    }) refl

-- two parameters that fill the message, the second of a key that is not above the first
not_rising : (a b : Numbered (List ℕ)) → IsTlv a → IsTlv b → b.0 ≤ a.0 → HoldsNone (tlv a ++ tlv b) 0 (length (tlv a ++ tlv b)) (Parameters ∷ [])
not_rising a b p q low v f =
    none v.0 (known_held (a ∷ b ∷ []) (p, (q, tt)) (ap (λ t. tlv a ++ t) (append-nil (tlv b))) v f) f.1.is.rising
  where
    none : (v : List (Numbered ParameterValue)) → AllHeld ParameterHeld (a ∷ b ∷ []) v → Rising v → ⊥
    none [] h r = h
    none (x ∷ []) h r = h.2
    none (x ∷ y ∷ rest) h r = omega (arith, h.0, h.2.0, r.0.0)

h2_ascii : IsAscii (0x68 ∷ 0x32 ∷ [])
h2_ascii zero = omega arith
h2_ascii (suc zero) = omega arith
h2_ascii (suc (suc i)) = omega arith

-- no character's UTF-8 begins with 255
not_utf8 : IsUtf8 (0xff ∷ []) → ⊥
unfolding is_utf8 chars
not_utf8 u = let e : false ≡ true = is_utf8-from_IsUtf8 (0xff ∷ []) u in cc e

one_name : (names : List (List ℕ)) → AllByRecursion IsUtf8 names → flat_map string names ≡ 0x01 ∷ 0xff ∷ [] → ⊥
one_name [] u e = cc e
one_name (s ∷ names) u e =
    let f : length s ∷ (s ++ flat_map string names) ≡ 0x01 ∷ 0xff ∷ [] = e in
    let n : length s ≡ 1 = cc in
    let t : s ++ flat_map string names ≡ 0xff ∷ [] = cc in
    let first : s ≡ 0xff ∷ [] = sym (take_at s (flat_map string names) 1 n) ∙ ap (take 1) t in
    not_utf8 (rw first at u.0)

some_keys : (keys : List ℕ) → keys ≢ [] → [] ≡ flat_map (bytes_high_first 2) keys → ⊥
some_keys [] some e = some refl
some_keys (k ∷ keys) some e = cc e

-- octets that hold no value of their key
none_held : (w : ParameterValue) → (ParameterHeld 2 (0x00 ∷ []) w → ⊥) × (ParameterHeld 1 (0x01 ∷ 0xff ∷ []) w → ⊥) × (ParameterHeld 0 [] w → ⊥)
    × (ParameterHeld 3 (0x35 ∷ []) w → ⊥)
none_held (Mandatory keys) = (λ h. cc h.0, λ h. cc h.0, λ h. some_keys keys h.1.0 h.2, λ h. cc h.0)
none_held (Alpn names) = (λ h. cc h.0, λ h. one_name names h.2.0 (sym h.2.1), λ h. cc h.0, λ h. cc h.0)
none_held NoDefaultAlpn = (λ h. cc h.2, λ h. cc h.0, λ h. cc h.0, λ h. cc h.0)
none_held (Port n) = (
  λ h. cc h.0,
  λ h. cc h.0,
  λ h. cc h.0,
  λ h. omega (arith, ap length h.2.1, length-append (bytes_high_first 2 n) h.2.0, length-bytes 2 n),
)
none_held w = (λ h. cc h.0, λ h. cc h.0, λ h. cc h.0, λ h. cc h.0)

pub parameter_examples : ParameterExamples
unfolding field_octets
parameter_examples = record {
  service_reads = reads
      (next 2 (number (omega arith) refl (omega arith) refl)
      (next 3 (name (whole (0x00 ∷ 0x01 ∷ 0x00 ∷ 0x03 ∷ 0x02 ∷ 0x68 ∷ 0x32 ∷ 0x00 ∷ 0x03 ∷ 0x00 ∷ 0x04 ∷ 0x01 ∷ 0xbb ∷ 0xff ∷ 0xff ∷ []) tt refl refl)
      (omega arith) refl)
      (next 18 (record {
        is = record {
          read = (1, 0x02 ∷ 0x68 ∷ 0x32 ∷ []) ∷ (3, 0x01 ∷ 0xbb ∷ 0xff ∷ 0xff ∷ []) ∷ [];
          at = at refl (omega arith) refl;
          fit = ((omega arith, omega arith), ((omega arith, omega arith), tt));
          held = (
            refl,
            (refl, (λ e. cc e, (omega arith, tt)), ((IsUtf8-from_ascii (0x68 ∷ 0x32 ∷ []) h2_ascii, tt), refl)),
            (refl, (refl, omega arith, (0xff ∷ 0xff ∷ [], refl)), tt),
          );
          rising = ((omega arith, tt), (tt, tt));
        };
      }) refl))) refl;
  mandatory_reads =
      reads (one_parameter 0 (0x00 ∷ 0x01 ∷ []) (Mandatory (1 ∷ [])) (omega arith, omega arith) (refl, (λ e. cc e, (omega arith, tt)), refl)) refl;
  octets_of_key_five = reads (one_parameter 5 (0x00 ∷ 0x01 ∷ 0x02 ∷ []) (Opaque (0x00 ∷ 0x01 ∷ 0x02 ∷ [])) (omega arith, omega arith) (refl, tt, refl)) refl;
  hint_of_six_reads = reads (one_parameter 6 address_of_six (Ipv6Hint (address_of_six ∷ [])) (omega arith, omega arith) (refl, (refl, tt), refl)) refl;
  no_hints_read = reads (one_parameter 4 [] (Ipv4Hint []) (omega arith, omega arith) (refl, tt, refl)) refl;
  keys_rise = not_rising (3, 0x00 ∷ 0x35 ∷ []) (3, 0x00 ∷ 0x35 ∷ []) (omega arith, omega arith) (omega arith, omega arith) (omega arith);
  keys_do_not_fall = not_rising (3, 0x00 ∷ 0x35 ∷ []) (1, 0x02 ∷ 0x68 ∷ 0x32 ∷ []) (omega arith, omega arith) (omega arith, omega arith) (omega arith);
  broken_protocols = (
    no_parameter 2 (0x00 ∷ []) (omega arith, omega arith) (λ w. (none_held w).0),
    no_parameter 1 (0x01 ∷ 0xff ∷ []) (omega arith, omega arith) (λ w. (none_held w).1),
  );
  broken_parameter = (
    no_parameter 0 [] (omega arith, omega arith) (λ w. (none_held w).2),
    no_parameter 3 (0x35 ∷ []) (omega arith, omega arith) (λ w. (none_held w).3),
  );
}
