-- OPT: the options of EDNS, which fill the record (RFC 6891, 6.1.2).
use Rattle.std.specs.Prelude.{◌≡◌, ℕ, ◌==◌, Bool, not, List, length, map, filter, if◌then◌else◌}
use Rattle.dns_fields.specs.{declared.Kind.Kind, declared.Kind.TheVariants.Options, Fields.Field, Fields.Values}
use Rattle.dns_fields.specs.Tlvs.{Numbered, OptionValue, OpaqueOption}
use Rattle.dns_fields.specs.Tlvs as tlvs
use Rattle.dns_rows.specs.Table.{kinds_of}
use Rattle.dns_rows.specs.declared.row.TheConstants as rows
use Rattle.dns_names_wire.specs.Facts.{Facts, filling}
use Rattle.dns_rdata_base.specs.Numbered.{numbered_eq}
use Rattle.dns_rdata_options.specs.{ClientSubnet.subnet_of, declared.opt.code.EdnsCode.EdnsCode, declared.opt.option.EdnsOption.EdnsOption}
use Rattle.dns_rdata_options.specs.EdnsCode.{edns_code_number, edns_code_variant, edns_code_of}
use Rattle.dns_rdata_options.specs.EdnsOption.{option_value}
use Rattle.dns_rdata_options.specs.declared.opt.option.EdnsOption.TheVariants.{Subnet, NSID, Unknown}

-- an option with its code, as a value holds them
abbrev pub Pair : Type 0
Pair = EdnsCode × EdnsOption

-- options alone
abbrev pub opt_shape : List Kind
opt_shape = kinds_of rows.OPT

-- a pair on the wire: the code's number, and what the option holds
abbrev pub pair_value : Pair → Numbered OptionValue
pair_value p = (edns_code_number p.0, option_value p.1)

abbrev pub opt_fields : List Pair → Values (kinds_of rows.OPT)
opt_fields x = (map pair_value x, tt)

-- ---- values that were read

-- the option that a code's number and a value of the wire give
abbrev pub option_of : ℕ → OptionValue → EdnsOption
option_of n (tlvs.Subnet family source scope address) = Subnet (subnet_of family source scope address)
option_of n (OpaqueOption s) = if n == 3 then NSID s else Unknown n s

abbrev pub pair_of : Numbered OptionValue → Pair
pair_of x = (edns_code_of x.0, option_of x.0 x.1)

abbrev pub opt_from : Values (kinds_of rows.OPT) → List Pair
opt_from vs = map pair_of vs.0

-- the options of a field that fills the octets
pub record HasOptionsOf (octets : List ℕ) (x : List Pair) : Type 0 where
  pub fields : (v : List (Numbered OptionValue)) → Field octets 0 Options v (length octets) → opt_fields x ≡ (v, tt)

-- each pair is the one that its number and its value give
pub record IsReadOpt (x : List Pair) : Type 0 where
  pub given : x ≡ opt_from (opt_fields x)

-- ---- a list of pairs

abbrev pub code_eq : EdnsCode → EdnsCode → Bool
code_eq = numbered_eq edns_code_number edns_code_variant

-- the options of a code, in order
abbrev pub options_of : EdnsCode → List Pair → List EdnsOption
options_of code x = map (λ p. p.1) (filter (λ p. code_eq code p.0) x)

-- all but those of a code, in order
abbrev pub without : EdnsCode → List Pair → List Pair
without code x = filter (λ p. not (code_eq code p.0)) x

abbrev pub opt_facts : Facts (List Pair)
opt_facts = filling rows.OPT opt_fields IsReadOpt
