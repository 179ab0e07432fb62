-- The order of two values, found by their fields.
use Rattle.std.specs.{Prelude.◌≡◌, Prelude.Option, Prelude.IfSome, declared.cmp.Ordering.Ordering}
use Rattle.dns_rdata.specs.{declared.record_data.RData.RData, Order.rdata_cmp}

-- an order that is found is that of the two values
unfoldable pub TellsOrder : Option Ordering → RData → RData → Type 0
TellsOrder found v w = IfSome found (λ o. o ≡ rdata_cmp v w)
