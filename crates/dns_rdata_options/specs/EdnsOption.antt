-- The options of EDNS (RFC 6891, 6.1.2): their octets, and which option a code and octets give.
use Rattle.std.specs.Prelude.{◌≡◌, ◌⊎◌, ℕ, ◌+◌, ◌<◌, ◌≤◌, List, length, Result, Ok, Err}
use Rattle.dns_types.specs.declared.error.DecodeError.{DecodeError}
use Rattle.dns_types.specs.declared.error.DecodeError.TheVariants as decode
use Rattle.dns_fields.specs.Tlvs.{OptionValue, OpaqueOption}
use Rattle.dns_rdata_options.specs.{declared.opt.code.EdnsCode.EdnsCode, declared.opt.option.EdnsOption.EdnsOption}
use Rattle.dns_rdata_options.specs.EdnsCode.{edns_code_number, edns_code_of}
use Rattle.dns_rdata_options.specs.ClientSubnet.{prefix_octets, subnet_value, ReadsSubnet, NoSubnet, IsSubnetError}
use Rattle.dns_rdata_options.specs.declared.opt.option.EdnsOption.TheVariants.{Subnet, NSID, Unknown}
use Rattle.dns_rdata_options.specs.declared.opt.code.EdnsCode.TheVariants as codes

-- what it holds on the wire, whatever its code
abbrev pub option_value : EdnsOption → OptionValue
option_value (Subnet x) = subnet_value x
option_value (NSID s) = OpaqueOption s
option_value (Unknown n s) = OpaqueOption s

-- how many octets it has there
abbrev pub option_len : EdnsOption → ℕ
option_len (Subnet x) = 4 + prefix_octets x.source_prefix
option_len (NSID s) = length s
option_len (Unknown n s) = length s

-- the code of its own
abbrev pub code_of : EdnsOption → EdnsCode
code_of (Subnet x) = codes.Subnet
code_of (NSID s) = codes.NSID
code_of (Unknown n s) = edns_code_of n

-- ---- code and octets of an option

-- the option, where a code has this variant and the octets have a value
abbrev pub IsOptionOf : EdnsCode → List ℕ → EdnsOption → Type 0
IsOptionOf codes.Subnet s (Subnet x) = ReadsSubnet s (Ok x)
IsOptionOf codes.NSID s (NSID t) = (t ≡ s) × (length s ≤ 65535)
IsOptionOf codes.Subnet s x = ⊥
IsOptionOf codes.NSID s x = ⊥
IsOptionOf code s x = x ≡ Unknown (edns_code_number code) s

-- why they have none: a subnet's octets don't begin with one, or a payload has more than 65535
abbrev pub IsOptionError : EdnsCode → List ℕ → DecodeError → Type 0
IsOptionError codes.Subnet s e = NoSubnet s × IsSubnetError s e
IsOptionError codes.NSID s e = (65535 < length s) × (e ≡ decode.IncorrectRDataLengthRead (length s) 65535)
IsOptionError code s e = ⊥

abbrev pub ReadsOption : EdnsCode → List ℕ → Result EdnsOption DecodeError → Type 0
ReadsOption code s (Ok x) = IsOptionOf code s x
ReadsOption code s (Err e) = (e ≡ decode.Memory) ⊎ IsOptionError code s e
