-- The subnet of a client (RFC 7871, 6).
use Rattle.std.specs.Prelude.{◌≡◌, ℕ, ◌-◌, ◌==◌, if◌then◌else◌, List, ◌++◌, length, take, replicate, Result, Ok}
use Rattle.std.specs.Prelude.{Err}
use Rattle.std.specs.{declared.net.ip_addr.IpAddr.IpAddr, Net.Addr.ipv4_octets, Net.Addr.ipv6_octets, Net.Addr.segments_of}
use Rattle.std.specs.declared.net.ip_addr.IpAddr.TheVariants.{V4, V6}
use Rattle.dns_types.specs.declared.error.DecodeError.{DecodeError}
use Rattle.dns_fields.specs.{Octets.At, Tlvs.OptionValue, Tlvs.Subnet, Tlvs.option_octets, Tlvs.IsEmittableOption}
use Rattle.dns_rdata_options.specs.declared.opt.subnet.ClientSubnet.{ClientSubnet}
pub use Rattle.dns_check.specs.Options.{IsFamily, prefix_octets, family_octets, SubnetHead, IsSubnetError}
pub use Rattle.dns_check.specs.Options.{LacksFamily, UnknownFamily, LacksPrefixes, LongPrefix, LacksAddress}

-- 1 for IPv4, 2 for IPv6
abbrev pub family_of : IpAddr → ℕ
family_of (V4 ip) = 1
family_of (V6 ip) = 2

abbrev pub address_octets : IpAddr → List ℕ
address_octets (V4 ip) = ipv4_octets ip
address_octets (V6 ip) = ipv6_octets ip

-- family, source prefix, scope prefix, and the first octets of the address
abbrev pub subnet_value : ClientSubnet → OptionValue
subnet_value x = Subnet (family_of x.address) x.source_prefix x.scope_prefix
    (take (prefix_octets x.source_prefix) (address_octets x.address))

-- octets 0 after these, up to n octets
abbrev pub padded : ℕ → List ℕ → List ℕ
padded n octets = octets ++ replicate (n - length octets) 0

-- the address of the family that begins with these octets and goes on with octets 0
abbrev pub address_of : ℕ → List ℕ → IpAddr
address_of family octets =
    if family == 1 then V4 (record { octets = padded 4 octets })
    else V6 (record { segments = segments_of (padded 16 octets) })

abbrev pub subnet_of : ℕ → ℕ → ℕ → List ℕ → ClientSubnet
subnet_of family source scope octets =
    record { address = address_of family octets; source_prefix = source; scope_prefix = scope }

-- the octets of the address that no prefix asks for are 0
pub record IsReadSubnet (x : ClientSubnet) : Type 0 where
  pub padded : x ≡ subnet_of (family_of x.address) x.source_prefix x.scope_prefix
      (take (prefix_octets x.source_prefix) (address_octets x.address))

-- the subnet is encoded in the message from p to q
pub record SubnetAt (m : List ℕ) (p : ℕ) (x : ClientSubnet) (q : ℕ) : Type 0 where
  pub fits : IsEmittableOption (subnet_value x)
  pub at : At m p (option_octets (subnet_value x)) q
  pub read : IsReadSubnet x

-- ---- errors: why octets do not begin with a subnet

-- no subnet begins the octets
pub record NoSubnet (s : List ℕ) : Type 0 where
  pub none : (x : ClientSubnet) (q : ℕ) → SubnetAt s 0 x q → ⊥

-- a subnet begins the octets, whatever follows, or none does
abbrev pub ReadsSubnet : List ℕ → Result ClientSubnet DecodeError → Type 0
ReadsSubnet s (Ok x) = (q : ℕ) × SubnetAt s 0 x q
ReadsSubnet s (Err e) = NoSubnet s × IsSubnetError s e
