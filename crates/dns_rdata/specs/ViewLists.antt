-- The lists of a value that a view lends: strings, options, parameters, types.
use Rattle.std.specs.Prelude.{◌≡◌, ◌≢◌, ℕ, ◌+◌, List, []}
use Rattle.std.specs.{List.flat_map, List.AllByRecursion}
use Rattle.dns_types.specs.declared.record_type.RecordType.{RecordType}
use Rattle.dns_types.specs.declared.record_type.RecordType.TheVariants as types
use Rattle.dns_fields.specs.{Octets.At, Tlvs.Numbered, Tlvs.OptionValue, Tlvs.ParameterValue}
use Rattle.dns_fields.specs.Bitmaps.{Block, block, IsBlock}
use Rattle.dns_view.specs.TypeList.{block_types}
use Rattle.dns_rdata_base.specs as base
use Rattle.dns_rdata_options.specs as options
use Rattle.dns_rdata_policy.specs as policy
use Rattle.dns_rdata_service.specs as service
use Rattle.dns_rdata.specs.declared.record_data.RData.{RData}
use Rattle.dns_rdata.specs.declared.record_data.RData.TheVariants as rdata

-- the character strings of TXT; other values have none
abbrev pub strings_in : RData → List (List ℕ)
strings_in (rdata.TXT x) = (base.TXT.txt_fields x).0
strings_in v = []

-- the options of OPT; other values have none
abbrev pub options_in : RData → List (Numbered OptionValue)
options_in (rdata.OPT x) = (options.OPT.opt_fields x).0
options_in v = []

-- the parameters of SVCB and HTTPS; other values have none
abbrev pub parameters_in : RData → List (Numbered ParameterValue)
parameters_in (rdata.HTTPS x) = (service.SVCB.svcb_fields x.0).1.1.0
parameters_in (rdata.SVCB x) = (service.SVCB.svcb_fields x).1.1.0
parameters_in v = []

-- the types of CSYNC; other values have none
abbrev pub types_in : RData → List ℕ
types_in (rdata.CSYNC x) = (policy.CSYNC.csync_fields x).1.1.0
types_in v = []

-- In the message, the n octets from p are CSYNC RDATA whose bitmap has these windows: after the serial, four octets,
-- and the flags, two octets, the windows follow one another up to the end (RFC 7477, 2.1; RFC 4034, 4.1.2).
pub record HasWindows (m : List ℕ) (p n : ℕ) (windows : List Block) : Type 0 where
  pub fit : AllByRecursion IsBlock windows
  pub at : At m (p + 6) (flat_map block windows) (p + n)

-- The types that the n octets from p list, as RDATA of a record of type t, in the order in which they are encoded:
-- those of CSYNC's windows, window by window, and in rising order in each. Records of other types list none.
pub record TypesInOrder (m : List ℕ) (p n : ℕ) (t : RecordType) (listed : List ℕ) : Type 0 where
  pub csync : t ≡ types.CSYNC → (windows : List Block) → HasWindows m p n windows
      → listed ≡ flat_map block_types windows
  pub other : t ≢ types.CSYNC → listed ≡ []
