-- Times to live, and addresses in tokens.
use Rattle.std.proofs.Common.{ℕ, ◌<◌, List, arith}
use Rattle.dns_tokens.specs.Ttl.{IsTtl}
use Rattle.dns_tokens.proofs.TtlSteps.{periods_one}
use Rattle.std.specs.{declared.net.ipv4_addr.Ipv4Addr.Ipv4Addr, declared.net.ipv6_addr.Ipv6Addr.Ipv6Addr}
use Rattle.std.specs.Net.Grammar.{IsIpv4Text, IsIpv6Text}
use Rattle.dns_tokens.specs.{Forms.ttl, Forms.ipv4, Forms.ipv6, Reads.NoToken}

-- a text of a greater time to live has no lesser one
pub no_ttl : {text : List ℕ} {n : ℕ} (most : ℕ) → IsTtl text n → most < n → NoToken (ttl most) text
no_ttl most h past = record { none = λ v is. let e = periods_one h.sum is.0.sum in absurd (omega (arith, e, is.1)) }

-- a text of no address is no token of one
pub no_ipv4 : {text : List ℕ} → ((a : Ipv4Addr) → ¬ (IsIpv4Text text a)) → NoToken ipv4 text
no_ipv4 none = record { none = λ v is. none is.0 is.1 }

pub no_ipv6 : {text : List ℕ} → ((a : Ipv6Addr) → ¬ (IsIpv6Text text a)) → NoToken ipv6 text
no_ipv6 none = record { none = λ v is. none is.0 is.1 }
