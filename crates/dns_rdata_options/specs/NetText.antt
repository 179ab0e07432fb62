-- Texts of nets: an address, `/`, and how many of its bits are a prefix.
use Rattle.std.specs.Prelude.{◌≡◌, ℕ, ◌≤◌, List, ◌++◌, length, codes}
use Rattle.std.specs.{Net.Grammar.IsIpText, Str.Parse.IsNumeral, Str.Parse.digits_value, declared.net.ip_addr.IpAddr.IpAddr}
use Rattle.dns_rdata_options.specs.{IpNet.address_bits, declared.opt.subnet.ClientSubnet.ClientSubnet}

-- one to three decimal digits of this number, leading zeros allowed
pub record IsPrefixText (text : List ℕ) (n : ℕ) : Type 0 where
  pub numeral : IsNumeral 10 text
  pub few : length text ≤ 3
  pub value : n ≡ digits_value 10 text

-- An address as text, `/`, and a prefix of no more bits than the address has.
pub record IsNetText (text : List ℕ) (net : IpAddr × ℕ) : Type 0 where
  pub address : List ℕ
  pub digits : List ℕ
  pub spelled : text ≡ address ++ (codes "/" ++ digits)
  pub address_text : IsIpText address net.0
  pub prefix : IsPrefixText digits net.1
  pub most : net.1 ≤ address_bits net.0

-- a net as text, whose prefix is the source prefix; the scope prefix is 0
abbrev pub IsSubnetText : List ℕ → ClientSubnet → Type 0
IsSubnetText text x = IsNetText text (x.address, x.source_prefix) × (x.scope_prefix ≡ 0)
