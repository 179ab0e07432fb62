-- How the canonical octets of parameters are written.
use Rattle.std.proofs.Common.{◌≡◌, ℕ, ◌+◌, ◌-◌, ◌≤◌, ◌<◌, ◌==◌, Bool, true, false, List, [], ◌∷◌, ◌++◌, length, take, drop, get_or}
use Rattle.std.proofs.Common.{refl, sym, ap, ◌∙◌, arith, subst, append_assoc, if◌then◌else◌}
use Rattle.std.proofs.lemmas.List.{append-nil, length-append, take_at, take_all, drop_all, drop-drop, nil_from_length, take-append-drop, take-append-le, take_rest}
use Rattle.std.proofs.{lemmas.Bool.Decides.nat_tests, Math.Seq.take-add}
use Rattle.std.specs.Int.{bytes_high_first, from_be_bytes, w16}
use Rattle.dns_fields.specs.{Fields.Value, Fields.Field, Fields.field_octets, Fields.parameter_tlvs, declared.Kind.TheVariants.Parameters}
use Rattle.dns_fields.specs.Tlvs.{Numbered, ParameterValue, Mandatory, Alpn, NoDefaultAlpn, Port, Ipv4Hint, Ipv6Hint, Opaque, ParameterHeld, Rising, Below, tlv, tlvs}
use Rattle.dns_fields.specs.Tlvs.{parameter_octets, Keys, Names, Nothing, PortNumber, Addresses4, Addresses16, AnyOctets, form_for}
use Rattle.dns_fields.proofs.{Numbers.length-bytes, Tlvs.length-tlv, Tlvs.tlv_before}
use Rattle.dns_view.specs.Putting.{Put, short_port}
use Rattle.dns_view.proofs.Puts.{put_then}
use Rattle.dns_check.proofs.ParameterLists.{StandEach, OneOf, parameters_each, below_less}
use Rattle.dns_check.proofs.{Alone.slice, Alone.between_is, Splits.at_split}
use Rattle.dns_view.proofs.ParameterOrder.{NextOf, next_octets}
use Rattle.dns_check.proofs.HeldLists.{EndsAt, NoTlv, tlv_of, key_there, first_of, none_left}

-- ---- the octets of a value

pick : (a b c d e f : Bool)
    → (if a then Keys else if b then Names else if c then Nothing else if d then PortNumber else if e then Addresses4 else if f then Addresses16 else AnyOctets)
    ≡ PortNumber → d ≡ true
pick true b c d e f h = absurd (cc h)
pick false true c d e f h = absurd (cc h)
pick false false true d e f h = absurd (cc h)
pick false false false true e f h = refl
pick false false false false true f h = absurd (cc h)
pick false false false false false true h = absurd (cc h)
pick false false false false false false h = absurd (cc h)

port_key : (key : ℕ) → PortNumber ≡ form_for key → key ≡ 3
port_key key e =
    let t : (key == 3) ≡ true = pick (key == 0) (key == 1) (key == 2) (key == 3) (key == 4) (key == 6) (sym e) in
    grind (arith, nat_tests)

-- of all values but a port with octets after it, the octets are the value's
same_octets : (key : ℕ) (body : List ℕ) (v : ParameterValue) → ParameterHeld key body v → (key ≡ 3 → length body ≤ 2) → body ≡ parameter_octets v
same_octets key body (Mandatory keys) h s = h.2
same_octets key body (Alpn names) h s = h.2.1
same_octets key body NoDefaultAlpn h s = h.2
same_octets key body (Port n) h s =
    let short = s (port_key key h.0) in
    let none : h.2.0 ≡ [] = nil_from_length h.2.0 (omega (arith, short, ap length h.2.1, length-append (bytes_high_first 2 n) h.2.0, length-bytes 2 n)) in
    h.2.1 ∙ ap (λ (t : List ℕ). bytes_high_first 2 n ++ t) none ∙ append-nil (bytes_high_first 2 n)
same_octets key body (Ipv4Hint as') h s = h.2
same_octets key body (Ipv6Hint as') h s = h.2
same_octets key body (Opaque t) h s = h.2

-- of a port they are the first two
port_octets : (body : List ℕ) (v : ParameterValue) → ParameterHeld 3 body v → (take 2 body ≡ parameter_octets v) × (length (parameter_octets v) ≡ 2)
port_octets body (Port n) h =
    (ap (take 2) h.2.1 ∙ take_at (bytes_high_first 2 n) h.2.0 2 (sym (length-bytes 2 n)), length-bytes 2 n)
port_octets body v h = absurd (cc (h.0))

-- ---- parameters whose octets are the value's

own_octets : {octets : List ℕ} {p q : ℕ} {x : Numbered ParameterValue} (o : OneOf octets p x q) → (x.0 ≡ 3 → q ≤ p + 6)
    → tlv (x.0, o.octets) ≡ tlv (x.0, parameter_octets x.1)
own_octets {x = x} o short =
    let few : x.0 ≡ 3 → length o.octets ≤ 2 = λ three. omega (arith, short three, o.at.ends, length-tlv (x.0, o.octets)) in
    ap (λ (b : List ℕ). tlv (x.0, b)) (same_octets x.0 o.octets x.1 o.held few)

-- those after a port
after_port : (octets : List ℕ) (p : ℕ) (xs : List (Numbered ParameterValue)) → StandEach OneOf octets p xs (length octets) → Below 3 xs
    → tlvs (parameter_tlvs xs) ≡ drop p octets
after_port octets p [] s b = sym (drop_all p octets (omega (arith, s)))
after_port octets p (x ∷ xs) s b =
    ap (λ (t : List ℕ). t ++ tlvs (parameter_tlvs xs)) (sym (own_octets s.1 (λ three. omega (arith, three, b.0))))
    ∙ ap (λ (t : List ℕ). tlv (x.0, s.1.octets) ++ t) (after_port octets s.0 xs s.2 b.1) ∙ sym (at_split s.1.at)

-- ---- the parameters so far

-- Those before the offset are canonical as they are encoded, and the others are encoded from there on.
pub record LeftOf (octets : List ℕ) (offset : ℕ) (v : List (Numbered ParameterValue)) : Type 0 where
  pub rest : List (Numbered ParameterValue)
  pub stand : StandEach OneOf octets offset rest (length octets)
  pub rising : Rising rest
  pub same : tlvs (parameter_tlvs v) ≡ take offset octets ++ tlvs (parameter_tlvs rest)

pub record NoPortYet (octets : List ℕ) (offset : ℕ) : Type 0 where
  pub inside : offset ≤ length octets
  pub only : (v : Value Parameters) → Field octets 0 Parameters v (length octets) → LeftOf octets offset v

pub none_yet : (octets : List ℕ) → NoPortYet octets 0
none_yet octets = record {
  inside = omega arith;
  only = λ v f. record { rest = v; stand = parameters_each f; rising = f.is.rising; same = refl };
}

-- what the canonical octets are
abbrev pub Are : List ℕ → List ℕ → Type 0
Are octets own = (v : Value Parameters) → Field octets 0 Parameters v (length octets) → field_octets Parameters v ≡ own

pub all_before : {octets : List ℕ} {offset : ℕ} → NoPortYet octets offset → NoTlv octets offset → Are octets octets
unfolding field_octets
all_before {octets} {offset} p missing v f =
    let l = p.only v f in
    let none : l.rest ≡ [] = none_left ParameterHeld l.rest l.stand missing in
    let all : offset ≡ length octets = subst (λ (r : List (Numbered ParameterValue)). StandEach OneOf octets offset r (length octets)) none l.stand in
    l.same ∙ ap (λ (r : List (Numbered ParameterValue)). take offset octets ++ tlvs (parameter_tlvs r)) none ∙ append-nil (take offset octets)
    ∙ take_all offset octets (omega (arith, all))

-- with the next parameter, whose key is a number
module _ {octets : List ℕ} {offset end n : ℕ} (p : NoPortYet octets offset) (e : EndsAt octets offset end)
    (key : n ≡ from_be_bytes w16 (get_or octets offset 0 ∷ get_or octets (offset + 1) 0 ∷ [])) where
  -- the first of those that are left, and its key
  next : {v : Value Parameters} (l : LeftOf octets offset v) → (x : NextOf octets offset end l.rest) × (n ≡ x.first.0)
  next l = let x = first_of l.rest l.stand e in (x, key_there (tlv_of x.one) key)

  -- those after it
  others : {v : Value Parameters} (l : LeftOf octets offset v) (x : NextOf octets offset end l.rest) → 3 ≤ x.first.0
      → tlvs (parameter_tlvs x.rest) ≡ drop end octets
  others l x high = let r : Rising (x.first ∷ x.rest) = subst Rising x.is l.rising in after_port octets end x.rest x.stand (below_less 3 x.first.0 x.rest high r.0)

  pub before_port : n ≤ 2 → NoPortYet octets end
  before_port small = record {
    inside = e.room.1;
    only = λ v f.
        let l = p.only v f in
        let x = (next l).0 in
        let k = (next l).1 in
        let own = tlv (x.first.0, parameter_octets x.first.1) in
        let same : slice octets offset end ≡ own = between_is x.one.at ∙ own_octets x.one (λ three. omega (arith, small, k, three)) in
        let long : end ≡ offset + (end - offset) = omega (arith, e.room.0) in
        let more : take end octets ≡ take offset octets ++ own =
        ap (λ (i : ℕ). take i octets) long ∙ take-add offset (end - offset) octets ∙ ap (λ (s : List ℕ). take offset octets ++ s) same in
        let r : Rising (x.first ∷ x.rest) = subst Rising x.is l.rising in
        record {
          rest = x.rest;
          stand = x.stand;
          rising = r.1;
          same = l.same ∙ ap (λ (s : List ℕ). take offset octets ++ s) (next_octets x) ∙ sym (append_assoc (take offset octets) own (tlvs (parameter_tlvs x.rest)))
              ∙ ap (λ (s : List ℕ). s ++ tlvs (parameter_tlvs x.rest)) (sym more);
        };
  }

  pub no_surplus : 3 ≤ n → (n ≡ 3 → end ≤ offset + 6) → Are octets octets
  unfolding field_octets
  no_surplus high short v f =
      let l = p.only v f in
      let x = (next l).0 in
      let k = (next l).1 in
      let rest : tlvs (parameter_tlvs l.rest) ≡ drop offset octets =
      next_octets x ∙ ap (λ (s : List ℕ). s ++ tlvs (parameter_tlvs x.rest)) (sym (own_octets x.one (λ three. short (k ∙ three))))
      ∙ ap (λ (s : List ℕ). tlv (x.first.0, x.one.octets) ++ s) (others l x (omega (arith, high, k))) ∙ sym (at_split x.one.at) in
      l.same ∙ ap (λ (s : List ℕ). take offset octets ++ s) rest ∙ take-append-drop offset octets

  pub surplus_found : n ≡ 3 → offset + 6 < end → Are octets (short_port octets offset end)
  unfolding field_octets
  surplus_found is long v f =
      let l = p.only v f in
      let x = (next l).0 in
      let three : x.first.0 ≡ 3 = sym (next l).1 ∙ is in
      let body = x.one.octets in
      let own = parameter_octets x.first.1 in
      let o = port_octets body x.first.1 (subst (λ (k : ℕ). ParameterHeld k body x.first.1) three x.one.held) in
      let many : 2 ≤ length body = omega (arith, x.one.at.ends, length-tlv (x.first.0, body), long) in
      let value : take 2 (drop (offset + 4) octets) ≡ own =
      ap (take 2) (sym (drop-drop 4 offset octets) ∙ ap (drop 4) (at_split x.one.at ∙ tlv_before (x.first.0, body) (drop end octets)) ∙ behind_head x.first.0 body (drop end octets))
      ∙ take-append-le 2 body (drop end octets) many ∙ o.0 in
      let head : tlv (x.first.0, own) ≡ 0 ∷ 3 ∷ 0 ∷ 2 ∷ own =
      ap (λ (k : ℕ). tlv (k, own)) three ∙ ap (λ (m : ℕ). bytes_high_first 2 3 ++ (bytes_high_first 2 m ++ own)) o.1 in
      l.same ∙ ap (λ (s : List ℕ). take offset octets ++ s) (next_octets x ∙ (λ i. head i ++ others l x (omega (arith, three)) i)
      ∙ ap (λ (s : List ℕ). 0 ∷ 3 ∷ 0 ∷ 2 ∷ (s ++ drop end octets)) (sym value))
    where
      behind_head : (k : ℕ) (b s : List ℕ) → drop 4 (bytes_high_first 2 k ++ (bytes_high_first 2 (length b) ++ (b ++ s))) ≡ b ++ s
      behind_head k b s = refl

-- the octets with a shorter port, written part by part
pub port_put : (offset to : ℕ) {old one two three new octets : List ℕ} {start a b c end : ℕ} → Put old one start a (take offset octets)
    → Put one two a b (0 ∷ 3 ∷ 0 ∷ 2 ∷ []) → Put two three b c (slice octets (offset + 4) (offset + 6)) → Put three new c end (slice octets to (length octets))
    → Are octets (short_port octets offset to) → (v : Value Parameters) → Field octets 0 Parameters v (length octets)
    → Put old new start end (field_octets Parameters v)
port_put offset to {old} {new = new} {octets = octets} {start = start} {end = end} p q r s are v f =
    let two : offset + 6 - (offset + 4) ≡ 2 = omega arith in
    let same : take offset octets ++ (0 ∷ 3 ∷ 0 ∷ 2 ∷ (slice octets (offset + 4) (offset + 6) ++ slice octets to (length octets))) ≡ field_octets Parameters v =
    (λ i. take offset octets ++ (0 ∷ 3 ∷ 0 ∷ 2 ∷ (take (two i) (drop (offset + 4) octets) ++ take_rest octets to i))) ∙ sym (are v f) in
    subst (λ (x : List ℕ). Put old new start end x) same (put_then p (put_then q (put_then r s)))
