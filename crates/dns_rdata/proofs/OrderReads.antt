-- Values that were read are ordered by their canonical octets.
use Rattle.std.proofs.Common.{◌≡◌, sym, ◌∙◌, refl}
use Rattle.std.specs.{Ordering.nat_cmp, Ordering.ordering_then, Cmp.Lexicographic.slice_cmp, declared.cmp.Ordering.Ordering}
use Rattle.std.specs.FinMap.{nat_cmp-IsAntisymmetric, slice_cmp-IsAntisymmetric}
use Rattle.std.specs.declared.cmp.Ordering.TheVariants.{Less, Equal, Greater}
use Rattle.dns_rdata.specs.{declared.record_data.RData.RData, Data.data_octets, Order.rdata_cmp, Order.OrdersRead, Ties.equal_is, Ties.rdata_ties}
use Rattle.dns_rdata.proofs.DataLaws.{tells_apart}

then_tied : (o q : Ordering) → (o ≡ Equal → ordering_then o q ≡ Equal) → ordering_then o q ≡ o
then_tied Less q h = refl
then_tied Equal q h = h refl
then_tied Greater q h = refl

pub orders_read : (v w : RData) → OrdersRead v w (rdata_cmp v w)
orders_read v w t m p n m' p' n' f g =
    then_tied (slice_cmp nat_cmp (data_octets v) (data_octets w)) _ (λ e.
    let same : data_octets v ≡ data_octets w = slice_cmp-IsAntisymmetric nat_cmp-IsAntisymmetric (data_octets v) (data_octets w) e in
    equal_is (rdata_cmp v w) (sym (rdata_ties v w) ∙ (tells_apart v w t m p n m' p' n' f g).1 same))
