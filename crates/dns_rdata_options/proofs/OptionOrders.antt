-- The orders of options are those that their definitions say.
use Rattle.std.proofs.Common.{◌≡◌, ℕ, ◌/◌, ◌%◌, ◌<◌, List, [], ◌∷◌, refl, sym, ap, ◌∙◌, arith}
use Rattle.std.specs.{declared.net.ip_addr.IpAddr.TheVariants.V4, declared.net.ip_addr.IpAddr.TheVariants.V6, Net.Addr.octets_of, Net.Addr.ipv6_segments}
use Rattle.std.specs.{declared.cmp.Ordering.TheVariants.Less, declared.cmp.Ordering.TheVariants.Equal, declared.net.ip_addr.IpAddr.IpAddr, Cmp.nat_cmp_is}
use Rattle.std.specs.{Ordering.MatchOrdering, Ordering.nat_cmp, Ordering.ordering_then, declared.cmp.Ordering.Ordering, Cmp.Lexicographic.slice_cmp, Cmp.ranks}
use Rattle.dns_canonical.proofs.Comparing.{then_assoc}
use Rattle.dns_rdata_options.specs.declared.opt.option.EdnsOption.{TheVariants.Subnet, TheVariants.NSID, TheVariants.Unknown, EdnsOption}
use Rattle.dns_rdata_options.specs.{Order.address_cmp, Order.subnet_cmp, Order.option_cmp, declared.opt.subnet.ClientSubnet.ClientSubnet}
use Rattle.std.specs.contracts.net.ip_addr.IpAddrOrd.TheImpl as ordered_addresses
use Rattle.dns_rdata_options.specs.contracts.opt.option.EdnsOptionOrd.TheImpl as ordered_options
use Rattle.dns_rdata_options.specs.contracts.opt.subnet.ClientSubnetOrd.TheImpl as ordered_subnets

-- a number of 16 bits is compared by its two octets
by_octets : (x y : ℕ) → ordering_then (nat_cmp (x / 256) (y / 256)) (nat_cmp (x % 256) (y % 256)) ≡ nat_cmp x y
by_octets x y = nat_cmp_is x y _ (both (nat_cmp (x / 256) (y / 256)) (nat_cmp (x % 256) (y % 256)) (ranks (x / 256) (y / 256)) (ranks (x % 256) (y % 256)))
  where
    both : (o p : Ordering) → MatchOrdering o (x / 256 < y / 256) (x / 256 ≡ y / 256) (y / 256 < x / 256)
        → MatchOrdering p (x % 256 < y % 256) (x % 256 ≡ y % 256) (y % 256 < x % 256) → MatchOrdering (ordering_then o p) (x < y) (x ≡ y) (y < x)
    both Less p h k = omega arith
    both Equal Less h k = omega arith
    both o p h k = omega arith

-- and so are segments of an address
pub segments_cmp : (xs ys : List ℕ) → slice_cmp nat_cmp xs ys ≡ slice_cmp nat_cmp (octets_of xs) (octets_of ys)
segments_cmp [] [] = refl
segments_cmp [] (y ∷ ys) = refl
segments_cmp (x ∷ xs) (y ∷ ys) =
    let rest : Ordering = slice_cmp nat_cmp xs ys in
    ap (λ (o : Ordering). ordering_then o rest) (sym (by_octets x y))
    ∙ then_assoc (nat_cmp (x / 256) (y / 256)) (nat_cmp (x % 256) (y % 256)) rest
    ∙ ap (λ (o : Ordering). ordering_then (nat_cmp (x / 256) (y / 256)) (ordering_then (nat_cmp (x % 256) (y % 256)) o)) (segments_cmp xs ys)
segments_cmp xs ys = refl

-- ---- the derived orders

pub address_is : (a b : IpAddr) → ordered_addresses.ghosts.cmp a b ≡ address_cmp a b
address_is (V4 a) (V4 b) = refl
address_is (V6 a) (V6 b) = segments_cmp (ipv6_segments a) (ipv6_segments b)
address_is a b = refl

pub subnet_is : (a b : ClientSubnet) → ordered_subnets.ghosts.cmp a b ≡ subnet_cmp a b
subnet_is a b = ap (λ (o : Ordering). ordering_then o (ordering_then (nat_cmp a.source_prefix b.source_prefix) (nat_cmp a.scope_prefix b.scope_prefix)))
    (address_is a.address b.address)

pub option_is : (a b : EdnsOption) → ordered_options.ghosts.cmp a b ≡ option_cmp a b
option_is (Subnet a) (Subnet b) = subnet_is a b
option_is (NSID a) (NSID b) = refl
option_is (Unknown n s) (Unknown m t) = refl
option_is a b = refl
