-- The first canonical octets as a number.
use Rattle.std.proofs.Common.{ℕ, ◌+◌, ◌<◌, ◌≤◌, ⊎_elim, List, length, get_or, sym, ◌∙◌, arith, subst}
use Rattle.std.proofs.{lemmas.Bool.cases_lt, Math.ListN.get_or-eq_default}
use Rattle.dns_fields.specs.Octets.{AreOctets}
use Rattle.dns_fields.proofs.OctetLaws.{canonical_octets_are}
use Rattle.dns_types.specs.declared.record_type.RecordType.{RecordType}
use Rattle.dns_view.proofs.OrderKeys.{keys_tell}
use Rattle.dns_rdata.specs.{declared.record_data.RData.RData, Data.shape, Data.Fills, Data.data_octets, Laws.KeysTell}
use Rattle.dns_rdata.proofs.{DataLaws.filled_octets, OrderReads.orders_read}

small : (xs : List ℕ) → AreOctets xs → (i : ℕ) → get_or xs i 0 < 256
small xs h i = ⊎_elim (λ (l : i < length xs). h i 0 l) (λ (l : length xs ≤ i). omega (arith, get_or-eq_default xs 0 l)) (cases_lt i (length xs))

octets_small : {m : List ℕ} {p n : ℕ} {t : RecordType} {v : RData} → Fills m p n t v → (i : ℕ) → get_or (data_octets v) i 0 < 256
octets_small {m} {p} {n} {t} {v} f = small (data_octets v)
    (subst AreOctets (sym (filled_octets f)) (canonical_octets_are m p (shape t) f.values (p + n) f.region.octets f.region.stands))

pub keys_order : KeysTell
keys_order t m p n l q k v w f g less = orders_read v w t m p n l q k f g ∙ keys_tell (data_octets v) (data_octets w) (octets_small f) (octets_small g) less
