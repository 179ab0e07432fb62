-- Lists of RDATA that were gone over once, and counted, before a value is made of them.
use Rattle.std.specs.Prelude.{◌≡◌, ℕ, ◌+◌, ◌-◌, List, length, take, drop}
use Rattle.dns_fields.specs.{Tlvs.Numbered, Tlvs.ParameterValue, Fields.Field, declared.Kind.TheVariants.Parameters}
use Rattle.dns_names_wire.specs.{State.Reading, Terms.moved}
use Rattle.dns_rows.specs.declared.row.TheConstants as rows
use Rattle.dns_rows.specs.Rules.{HaveTexts}
use Rattle.dns_check.specs.{ByRow.RowThere, Tlvs.CompleteBy}

-- the fields of TXT are there, these octets, which are so many strings
pub record TookStrings (n : ℕ) (old : Reading) (octets : List ℕ) (count : ℕ) (new : Reading) : Type 0 where
  pub there : RowThere rows.TXT n old new
  pub slice : octets ≡ take (new.index - old.index) (drop old.index old.message)
  pub number : count ≡ length there.took.fields.values.0

-- those of OPT, these octets, which are so many whole options
pub record TookOptions (n : ℕ) (old : Reading) (octets : List ℕ) (count : ℕ) (new : Reading) : Type 0 where
  pub there : RowThere rows.OPT n old new
  pub slice : octets ≡ take (new.index - old.index) (drop old.index old.message)
  pub parts : CompleteBy octets count

-- those of SVCB and HTTPS, with so many parameters
pub record HasParameters (n : ℕ) (old : Reading) (count : ℕ) : Type 0 where
  pub there : RowThere rows.SVCB n old (moved old (old.index + n))
  pub number : count ≡ length there.took.fields.values.1.1.0

-- so many parameters are encoded from an offset to another one, and paths among them are UTF-8
pub record ParametersThere (m : List ℕ) (at end count : ℕ) : Type 0 where
  pub values : List (Numbered ParameterValue)
  pub field : Field m at Parameters values end
  pub texts : HaveTexts values
  pub number : count ≡ length values
