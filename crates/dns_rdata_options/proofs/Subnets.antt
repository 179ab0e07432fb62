-- The subnet that begins octets, and why none does.
use Rattle.std.proofs.lemmas.List.{length-append, length-take-le, length-drop, length-replicate, take-append-drop, take_at}
use Rattle.std.proofs.{Common.refl, Common.sym, Common.ap, Common.◌∙◌, Common.arith, Common.subst, Common.append_assoc, lemmas.Bool.Decides.nat_tests}
use Rattle.std.proofs.Common.{◌≡◌, ◌⊎◌, inl, inr, ℕ, zero, suc, ◌+◌, ◌-◌, ◌≤◌, List, [], ◌∷◌, ◌++◌, length, take, drop, replicate, get_or, false, ◌==◌}
use Rattle.std.specs.{Int.w16, Int.from_be_bytes, Int.bytes_high_first, Net.Addr.segments_of, Net.Addr.ipv6_segments, declared.net.ipv6_addr.Ipv6Addr.Ipv6Addr}
use Rattle.std.specs.declared.net.ip_addr.IpAddr.TheVariants.{V6}
use Rattle.dns_fields.specs.{Tlvs.OptionValue, Tlvs.Subnet, Tlvs.option_octets, Tlvs.IsAddress, Tlvs.IsEmittableOption, Octets.At, Octets.AreOctets}
use Rattle.dns_fields.proofs.OctetLaws.{AreOctets-nil, AreOctets-cons, AreOctets-append, AreOctets-take, AreOctets-drop}
use Rattle.dns_fields.proofs.Numbers.{length-bytes}
use Rattle.dns_rdata_base.proofs.Addresses.{octets_of-segments}
use Rattle.dns_rdata_options.specs.ClientSubnet.{IsReadSubnet, SubnetAt, IsFamily, family_of, address_octets, prefix_octets, family_octets, padded}
use Rattle.dns_rdata_options.specs.{declared.opt.subnet.ClientSubnet.ClientSubnet, ClientSubnet.address_of, ClientSubnet.subnet_of, ClientSubnet.subnet_value}
use Rattle.dns_check.proofs.Subnets.{Eights, head_first, is_address}

-- ---- a subnet that is encoded

padded-length : (n : ℕ) (s : List ℕ) → length s ≤ n → length (padded n s) ≡ n
padded-length n s le = omega (arith, length-append s (replicate (n - length s) 0), length-replicate {A = ℕ} (n - length s) 0)

family_back : (f : ℕ) (s : List ℕ) → IsFamily f → family_of (address_of f s) ≡ f
family_back f s (inl e) = rw e refl
family_back f s (inr e) = rw e refl

pub six : (family : ℕ) (octets : List ℕ) (ip : Ipv6Addr) → (family ≡ 1 → ⊥) → ipv6_segments ip ≡ segments_of (padded 16 octets)
    → V6 ip ≡ address_of family octets
six family octets ip not e = let no : (family == 1) ≡ false = grind (arith, nat_tests) in rw no (ap (λ (s : List ℕ). V6 (record { segments = s })) e)

octets_back : (f : ℕ) (s : List ℕ) → IsFamily f → length s ≤ family_octets f → AreOctets (padded 16 s)
    → address_octets (address_of f s) ≡ padded (family_octets f) s
octets_back f s (inl e) le small = rw e refl
octets_back f s (inr e) le small = rw e (octets_of-segments 8 (padded 16 s) (padded-length 16 s (omega (arith, rw e at le))) small)

eights_octets : (s : List ℕ) → Eights s → AreOctets s
eights_octets [] h = AreOctets-nil
eights_octets (x ∷ s) h = AreOctets-cons x s (h 0) (eights_octets s (λ i. h (suc i)))

zeros : (n : ℕ) → AreOctets (replicate n 0)
zeros zero = AreOctets-nil
zeros (suc n) = AreOctets-cons 0 (replicate n 0) (omega arith) (zeros n)

pub address_known : (f source : ℕ) (s : List ℕ) → IsAddress f source s → IsFamily f × (length s ≤ family_octets f)
address_known f source s a = most a.most where
  most : ((f ≡ 1) × (length s ≤ 4)) ⊎ ((f ≡ 2) × (length s ≤ 16)) → IsFamily f × (length s ≤ family_octets f)
  most (inl h) = (inl h.0, rw h.0 (h.1))
  most (inr h) = (inr h.0, rw h.0 (h.1))

-- the octets of the address that octets begin are these
octets_front : (f source : ℕ) (s : List ℕ) → IsAddress f source s → AreOctets s → take (prefix_octets source) (address_octets (address_of f s)) ≡ s
octets_front f source s a are =
    let k = address_known f source s a in
    ap (take (prefix_octets source)) (octets_back f s k.0 k.1 (AreOctets-append s (replicate (16 - length s) 0) are (zeros (16 - length s))))
    ∙ take_at s (replicate (family_octets f - length s) 0) (prefix_octets source) a.long

-- a subnet that is made of its parts has these parts
pub value_back : (f source scope : ℕ) (s : List ℕ) → IsAddress f source s → AreOctets s → subnet_value (subnet_of f source scope s) ≡ Subnet f source scope s
value_back f source scope s a are = rw (family_back f s (address_known f source s a).0, octets_front f source s a are) refl

pub made_read : (f source scope : ℕ) (s : List ℕ) → IsAddress f source s → AreOctets s → IsReadSubnet (subnet_of f source scope s)
made_read f source scope s a are = record { padded = rw (family_back f s (address_known f source s a).0, octets_front f source s a are) refl }

pub at_zero : (s x r : List ℕ) → s ≡ x ++ r → At s 0 x (length x)
at_zero s x r e = record {
  ends = omega arith;
  within = omega (arith, ap length e, length-append x r);
  same = ap (take (length x)) e
      ∙ take_at x r (length x) refl;
}

pub subnet_stands : (s : List ℕ) (f : ℕ) (x : ClientSubnet) → 4 ≤ length s → Eights s → f ≡ from_be_bytes w16 (get_or s 0 0 ∷ get_or s 1 0 ∷ [])
    → IsFamily f → prefix_octets (get_or s 2 0) ≤ family_octets f → prefix_octets (get_or s 2 0) ≤ length s - 4
    → x ≡ subnet_of f (get_or s 2 0) (get_or s 3 0) (take (prefix_octets (get_or s 2 0)) (drop 4 s)) → SubnetAt s 0 x (4 + prefix_octets (get_or s 2 0))
subnet_stands s f x n b e known most enough is =
    let source = get_or s 2 0 in
    let scope = get_or s 3 0 in
    let k = prefix_octets source in
    let a = take k (drop 4 s) in
    let long : length a ≡ k = length-take-le k (drop 4 s) (omega (arith, length-drop 4 s)) in
    let are : AreOctets a = AreOctets-take k (drop 4 s) (AreOctets-drop 4 s (eights_octets s b)) in
    let address = is_address f source a known long (omega (arith, long, most)) in
    let value : subnet_value (subnet_of f source scope a) ≡ Subnet f source scope a = value_back f source scope a address are in
    let octets : s ≡ option_octets (Subnet f source scope a) ++ drop k (drop 4 s) =
    (head_first s f e n b known).octets ∙ ap (λ (o : List ℕ). bytes_high_first 2 f ++ (source ∷ scope ∷ o)) (sym (take-append-drop k (drop 4 s)))
    ∙ sym (append_assoc (bytes_high_first 2 f) (source ∷ scope ∷ a) (drop k (drop 4 s))) in
    let there : length (option_octets (Subnet f source scope a)) ≡ 4 + k =
    omega (arith, length-append (bytes_high_first 2 f) (source ∷ scope ∷ a), length-bytes 2 f, long) in
    let at : At s 0 (option_octets (Subnet f source scope a)) (4 + k) = subst (At s 0 (option_octets (Subnet f source scope a))) there
    (at_zero s (option_octets (Subnet f source scope a)) (drop k (drop 4 s)) octets) in
    subst (λ (y : ClientSubnet). SubnetAt s 0 y (4 + k)) (sym is) (record {
      fits = subst IsEmittableOption (sym value) address;
      at = subst (λ (v : OptionValue). At s 0 (option_octets v) (4 + k)) (sym value) at;
      read = made_read f source scope a address are;
    })

-- ---- where no subnet is encoded

-- the octets that a subnet begins
pub begun : {s x : List ℕ} {q : ℕ} → At s 0 x q → s ≡ x ++ drop (length x) s
begun {s} {x} a = sym (take-append-drop (length x) s) ∙ ap (λ (o : List ℕ). o ++ drop (length x) s) a.same
