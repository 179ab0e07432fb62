-- RDATA that is looked at where it is encoded.
use Rattle.std.specs.Prelude.{◌≡◌, ◌≢◌, ℕ, List, Option, Some, None}
use Rattle.std.specs.declared.cmp.Ordering.{Ordering}
use Rattle.dns_types.specs.declared.record_type.RecordType.{RecordType}
use Rattle.dns_rows.specs.Table.{table}
use Rattle.dns_view.specs.ViewOf as row_view
use Rattle.dns_rdata.specs.{Data.parts_of, Data.HasValue, Order.rdata_cmp, declared.record_data.RData.RData, declared.view.RDataRef.RDataRef}

-- In the message m, the n octets from p are the RDATA of a record of type t, and this is the view of them.
pub record IsViewOf (m : List ℕ) (p n : ℕ) (t : RecordType) (r : RDataRef) : Type 0 where
  pub type : r.view.record_type ≡ t
  pub view : row_view.IsViewOf (record { message = m; index = p }) n (parts_of (table t)) r.view
  pub filled : HasValue m p n t

-- values of one type in the order of `cmp`; none of two types
abbrev pub ComparesAs : RecordType → RecordType → RData → RData → Option Ordering → Type 0
ComparesAs t u v w (Some o) = (t ≡ u) × (o ≡ rdata_cmp v w)
ComparesAs t u v w None = t ≢ u
