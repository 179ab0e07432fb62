-- How many bits an address has, and the first bits of an address.
use Rattle.std.specs.Prelude.{◌≡◌, ℕ, ◌-◌, ◌*◌, ◌/◌, ◌^◌, List, [], ◌∷◌}
use Rattle.std.specs.{declared.net.ip_addr.IpAddr.IpAddr, Net.Addr.ipv4_octets, Net.Addr.ipv6_octets, Net.Addr.segments_of}
use Rattle.std.specs.declared.net.ip_addr.IpAddr.TheVariants.{V4, V6}

abbrev pub address_bits : IpAddr → ℕ
address_bits (V4 ip) = 32
address_bits (V6 ip) = 128

-- an octet with its first bits as they are, so many of its eight, and 0 for the others
abbrev pub masked_octet : ℕ → ℕ → ℕ
masked_octet bits octet = octet / 2 ^ (8 - bits) * 2 ^ (8 - bits)

-- octets with their first bits as they are, and 0 for the others: after each octet the prefix has eight bits less
abbrev pub masked_octets : ℕ → List ℕ → List ℕ
masked_octets bits [] = []
masked_octets bits (x ∷ s) = masked_octet bits x ∷ masked_octets (bits - 8) s

-- an address with its first bits as they are, and 0 for the others
abbrev pub masked_address : ℕ → IpAddr → IpAddr
masked_address bits (V4 ip) = V4 (record { octets = masked_octets bits (ipv4_octets ip) })
masked_address bits (V6 ip) = V6 (record { segments = segments_of (masked_octets bits (ipv6_octets ip)) })

-- ---- the first bits of addresses, that were worked out by hand

-- 192.0.2.77 to 24, 26, 0, 32 and 200 bits
pub record MaskedFour : Type 0 where
  pub net : masked_octets 24 (192 ∷ 0 ∷ 2 ∷ 77 ∷ []) ≡ 192 ∷ 0 ∷ 2 ∷ 0 ∷ []
  pub within : masked_octets 26 (192 ∷ 0 ∷ 2 ∷ 77 ∷ []) ≡ 192 ∷ 0 ∷ 2 ∷ 64 ∷ []
  pub none : masked_octets 0 (192 ∷ 0 ∷ 2 ∷ 77 ∷ []) ≡ 0 ∷ 0 ∷ 0 ∷ 0 ∷ []
  pub all : masked_octets 32 (192 ∷ 0 ∷ 2 ∷ 77 ∷ []) ≡ 192 ∷ 0 ∷ 2 ∷ 77 ∷ []
  pub past : masked_octets 200 (192 ∷ 0 ∷ 2 ∷ 77 ∷ []) ≡ 192 ∷ 0 ∷ 2 ∷ 77 ∷ []

-- 2001:db8:abcd:1234::1
abbrev host : List ℕ
host = 0x20 ∷ 0x01 ∷ 0x0d ∷ 0xb8 ∷ 0xab ∷ 0xcd ∷ 0x12 ∷ 0x34 ∷ 0 ∷ 0 ∷ 0 ∷ 0 ∷ 0 ∷ 0 ∷ 0 ∷ 1 ∷ []

-- to 36 bits 2001:db8:a000::
abbrev pub MaskedSixteen : Type 0
MaskedSixteen =
    masked_octets 36 host ≡ 0x20 ∷ 0x01 ∷ 0x0d ∷ 0xb8 ∷ 0xa0 ∷ 0 ∷ 0 ∷ 0 ∷ 0 ∷ 0 ∷ 0 ∷ 0 ∷ 0 ∷ 0 ∷ 0 ∷ 0 ∷ []

-- to 128 bits
abbrev pub MaskedWhole : Type 0
MaskedWhole = masked_octets 128 host ≡ host
