-- SVCB: how a service is reached (RFC 9460, 2.2).
use Rattle.std.specs.Prelude.{ℕ, ◌+◌, ◌≤◌, ◌<◌, ◌==◌, if◌then◌else◌, List, [], ◌∷◌, ◌++◌, Option, Some, None, map, codes, decimal}
use Rattle.std.specs.{List.flat_map, Ordering.on}
use Rattle.dns_fields.specs.{declared.Kind.Kind, declared.Kind.TheVariants.Number, Order.values_cmp}
use Rattle.dns_fields.specs.{declared.Kind.TheVariants.Name, declared.Kind.TheVariants.Parameters, Fields.Values}
use Rattle.dns_rows.specs.{Table.kinds_of, Rules.MeetsRow}
use Rattle.dns_rows.specs.declared.row.TheConstants as rows
use Rattle.dns_labels.specs.Text.{name_text}
use Rattle.dns_names_wire.specs.{State.Reading, Terms.Took, Facts.Facts}
use Rattle.dns_rdata_service.specs.{SvcParamKey.key_number, SvcParamKey.key_text, SvcParamValue.value_text, declared.svcb.SVCB.SVCB}
use Rattle.dns_rdata_service.specs.Parameters.{Parameter, parameter_of, own_parameter, AreRead}
use Rattle.dns_rdata_service.specs.declared.svcb.value.SvcParamValue.{SvcParamValue}

-- priority, target name, parameters
abbrev pub svcb_shape : List Kind
svcb_shape = kinds_of rows.SVCB

abbrev pub svcb_fields : SVCB → Values (kinds_of rows.SVCB)
svcb_fields x = (x.svc_priority, (x.target_name, (map parameter_of x.svc_params, tt)))

-- what is compared
abbrev pub svcb_key_shape : List Kind
svcb_key_shape = Number 2 ∷ Name ∷ Parameters ∷ []

abbrev pub svcb_keys : SVCB → Values svcb_key_shape
svcb_keys x = (x.svc_priority, (x.target_name, (map own_parameter x.svc_params, tt)))

-- keys and values are those that their fields give
abbrev pub IsReadSvcb : SVCB → Type 0
IsReadSvcb x = AreRead x.svc_params

-- ---- parameters by the numbers of their keys

abbrev pub number_of_parameter : Parameter → ℕ
number_of_parameter p = key_number p.0

-- the value of the first parameter whose key has the number
abbrev pub value_at : ℕ → List Parameter → Option SvcParamValue
value_at n [] = None
value_at n (p ∷ ps) = if key_number p.0 == n then Some p.1 else value_at n ps

-- ---- texts

-- a blank, the key, an equals sign and the value
abbrev pub parameter_text : Parameter → List ℕ
parameter_text p = codes " " ++ (key_text p.0 ++ (codes "=" ++ value_text p.1))

-- priority and target name, a blank between, and the parameters
abbrev pub svcb_text : SVCB → List ℕ
svcb_text x = (decimal x.svc_priority ++ (codes " " ++ name_text x.target_name)) ++ flat_map parameter_text x.svc_params

-- ---- a value that was read

-- Priority, target name and parameters are read, and of the n octets of RDATA at most three are left.
pub record TookService (n : ℕ) (x : SVCB) (old new : Reading) : Type 0 where
  pub read : IsReadSvcb x
  pub took : Took old svcb_shape (svcb_fields x) new
  pub holds : MeetsRow rows.SVCB (svcb_fields x)
  pub within : new.index ≤ old.index + n
  pub left : old.index + n < new.index + 4

abbrev pub svcb_facts : Facts SVCB
svcb_facts = record {
  row = rows.SVCB;
  fields = svcb_fields;
  after_read = TookService;
  order = on svcb_keys (values_cmp svcb_key_shape);
}
