-- What an OPT record has in place of class and TTL (RFC 6891, 6.1.2 and 6.1.3).
use Rattle.std.specs.Prelude.{◌≡◌, ◌↔◌, ℕ, ◌/◌, ◌%◌, ◌^◌, IsTrue}
use Rattle.std.specs.Int.{bit_at}
use Rattle.dns_message.specs.declared.edns.Edns.{Edns}

-- The class is the UDP payload size. The TTL is the extended RCODE, the version, the bit DO and 15 bits Z, from the
-- highest bit to the lowest.
pub record IsEdns (class ttl : ℕ) (e : Edns) : Type 0 where
  pub size : e.udp_payload_size ≡ class
  pub rcode : e.extended_rcode ≡ ttl / 2 ^ 24
  pub version : e.version ≡ ttl / 2 ^ 16 % 2 ^ 8
  pub dnssec_ok : IsTrue e.dnssec_ok ↔ (bit_at ttl 15 ≡ 1)
  pub reserved : e.reserved ≡ ttl % 2 ^ 15
