-- What a cursor over canonical octets meets in a value.
use Rattle.std.specs.Prelude.{◌≡◌, ℕ, true, length, Bool, Option, []}
pub use Rattle.dns_canonical.specs.Cursor.{Remaining, Chooses, Advances}
use Rattle.dns_canonical.specs.{Cursor.Course, Steps.LeftAt, Steps.AllShort, Steps.at_once, Steps.field_steps}
use Rattle.dns_rdata_options.specs.declared.heads.Heads.{Heads}
use Rattle.dns_fields.specs.Fields.{all_emittable}
use Rattle.dns_rdata_base.specs as base
use Rattle.dns_rdata_options.specs as options
use Rattle.dns_rdata_service.specs as service
use Rattle.dns_rdata_policy.specs as policy
use Rattle.dns_rdata.specs.{Data.fields_of, declared.record_data.RData.RData}
use Rattle.dns_rdata.specs.declared.record_data.RData.TheVariants as rdata

-- The canonical octets that are left of a value at each position. A record whose strings have no step of their own goes
-- on field by field.
abbrev pub data_left : RData → LeftAt
data_left (rdata.CAA x) = field_steps policy.Steps.caa_begins policy.CAA.caa_shape (policy.CAA.caa_fields x)
data_left (rdata.CSYNC x) = policy.Steps.csync_left x
data_left (rdata.HINFO x) = field_steps base.Steps.hinfo_begins base.HINFO.hinfo_shape (base.HINFO.hinfo_fields x)
data_left (rdata.HTTPS x) = service.Steps.svcb_left x.0
data_left (rdata.NAPTR x) = field_steps base.Steps.naptr_begins base.NAPTR.naptr_shape (base.NAPTR.naptr_fields x)
data_left (rdata.OPT x) = options.Steps.opt_left x
data_left (rdata.SOA x) = field_steps base.Steps.soa_begins base.SOA.soa_shape (base.SOA.soa_fields x)
data_left (rdata.SVCB x) = service.Steps.svcb_left x
data_left (rdata.TXT x) = base.Steps.texts_left x.txt_data
data_left (rdata.Update0 t) = λ n i j. []
data_left rdata.ZERO = λ n i j. []
data_left v = field_steps at_once (fields_of v).kinds (fields_of v).values

-- whether it can be emitted
abbrev pub can_emit : RData → Bool
can_emit v = all_emittable (fields_of v).kinds (fields_of v).values

-- how many bitmap windows of a set of types are not begun
abbrev pub data_windows : RData → ℕ → ℕ → ℕ
data_windows (rdata.CSYNC x) = policy.Steps.csync_windows x
data_windows v = λ n i. 0

-- how many options there are, and how many are not begun
abbrev pub data_options : RData → ℕ
data_options (rdata.OPT x) = length x
data_options v = 0

abbrev pub data_options_left : RData → ℕ → ℕ → ℕ → ℕ
data_options_left (rdata.OPT x) = options.Steps.options_left x
data_options_left v = λ n i j. 0

-- it has no counted step
abbrev pub IsUncounted : RData → Type 0
IsUncounted (rdata.CSYNC x) = ⊥
IsUncounted (rdata.OPT x) = ⊥
IsUncounted v = Unit {0}

-- a position that a cursor reaches, of a value that can be emitted
abbrev pub DataAt : RData → ℕ → ℕ → ℕ → Type 0
DataAt (rdata.CAA x) n i j = AllShort policy.CAA.caa_shape (policy.CAA.caa_fields x)
DataAt (rdata.HINFO x) n i j = AllShort base.HINFO.hinfo_shape (base.HINFO.hinfo_fields x)
DataAt (rdata.HTTPS x) n i j = service.Steps.AreEmittable x.0.svc_params
DataAt (rdata.NAPTR x) n i j = AllShort base.NAPTR.naptr_shape (base.NAPTR.naptr_fields x)
DataAt (rdata.OPT x) n i j = (options.Steps.pairs_emittable x ≡ true) × options.Steps.OptionsAt x n i j
DataAt (rdata.SVCB x) n i j = service.Steps.AreEmittable x.svc_params
DataAt (rdata.TXT x) n i j = AllShort base.TXT.txt_shape (base.TXT.txt_fields x)
DataAt v n i j = Unit {0}

-- what a cursor keeps there
abbrev pub DataKept : RData → ℕ → ℕ → Option Heads → Type 0
DataKept (rdata.OPT x) n i heads = options.Steps.HeadsKept x n i heads
DataKept v n i heads = Unit {0}

-- what a cursor meets
abbrev pub data_course : RData → Course Heads
data_course v = record {
  left = data_left v;
  windows = data_windows v;
  options = data_options_left v;
  all_options = data_options v;
  at = DataAt v;
  keeps = DataKept v;
}
