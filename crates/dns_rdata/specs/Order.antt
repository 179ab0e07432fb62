-- The order of RDATA: by canonical octets, by type, by variant, and by the fields.
use Rattle.dns_rows.specs.Table.{kinds_of}
use Rattle.std.specs.Prelude.{◌≡◌, ◌==◌, ℕ, IsTrue, not, List, [], ◌∷◌}
use Rattle.std.specs.{Option.option_cmp, Ordering.on, Ordering.then_cmp, Ordering.nat_cmp, declared.cmp.Ordering.Ordering}
use Rattle.std.specs.Cmp.{IsTotalOrder, then_total, on_total}
use Rattle.std.specs.Cmp.Lexicographic.{slice_cmp, nat_list_cmp_total, options_total}
use Rattle.dns_fields.specs.Order.{values_cmp}
use Rattle.dns_fields.proofs.Orders.{values_total}
use Rattle.dns_types.specs.declared.record_type.RecordType.{RecordType}
use Rattle.dns_types.specs.contracts.record_type.RecordTypeOrd.TheImpl as type_ord
use Rattle.dns_types.specs.contracts.record_type.RecordTypeOrd.TheImpl.Laws as type_laws
use Rattle.dns_names_wire.specs.Facts.{Facts}
use Rattle.dns_rdata_options.specs.{Order.opt_cmp, OrderLaws.opt_total}
use Rattle.dns_rdata.specs.{declared.record_data.RData.RData, Data.type_of, Data.data_octets, Data.Fills, Data.FieldsOf}
use Rattle.dns_rdata.specs.declared.record_data.RData.TheVariants as rdata
use Rattle.dns_rdata.specs.Keys.{VariantKey, fields, options, variant_keys}

abbrev pub record_type_cmp : RecordType → RecordType → Ordering
record_type_cmp = type_ord.ghosts.cmp

abbrev pub variant_key_cmp : VariantKey → RData → RData → Ordering
variant_key_cmp (fields kinds held) = on held (option_cmp (values_cmp kinds))
variant_key_cmp (options held) = on held (option_cmp opt_cmp)

-- by the first key that differs, and then by type
abbrev pub keys_cmp : List VariantKey → RData → RData → Ordering
keys_cmp [] = on type_of record_type_cmp
keys_cmp (key ∷ rest) = then_cmp (variant_key_cmp key) (keys_cmp rest)

-- the rank of the variant
abbrev pub rank : RData → ℕ
rank (rdata.A x) = 0
rank (rdata.AAAA x) = 1
rank (rdata.ANAME x) = 2
rank (rdata.CAA x) = 3
rank (rdata.CERT x) = 4
rank (rdata.CNAME x) = 5
rank (rdata.CSYNC x) = 6
rank (rdata.HINFO x) = 7
rank (rdata.HTTPS x) = 8
rank (rdata.MX x) = 9
rank (rdata.NAPTR x) = 10
rank (rdata.NULL x) = 11
rank (rdata.NS x) = 12
rank (rdata.OPENPGPKEY x) = 13
rank (rdata.OPT x) = 14
rank (rdata.PTR x) = 15
rank (rdata.SMIMEA x) = 16
rank (rdata.SOA x) = 17
rank (rdata.SRV x) = 18
rank (rdata.SSHFP x) = 19
rank (rdata.SVCB x) = 20
rank (rdata.TLSA x) = 21
rank (rdata.TXT x) = 22
rank (rdata.Unknown code x) = 23
rank (rdata.Update0 t) = 24
rank rdata.ZERO = 25

-- by variant as they are declared, and of one variant by the fields
abbrev pub variants_cmp : RData → RData → Ordering
variants_cmp = keys_cmp variant_keys

-- by canonical octets, then by type, then by variant, then by the fields
abbrev pub rdata_cmp : RData → RData → Ordering
rdata_cmp = then_cmp (on data_octets (slice_cmp nat_cmp)) (then_cmp (on type_of record_type_cmp) variants_cmp)

variant_key_total : (key : VariantKey) → IsTotalOrder (variant_key_cmp key)
variant_key_total (fields kinds held) = on_total held (options_total (values_total kinds))
variant_key_total (options held) = on_total held (options_total opt_total)

keys_total : (given : List VariantKey) → IsTotalOrder (keys_cmp given)
keys_total [] = on_total type_of type_laws.total-law
keys_total (key ∷ rest) = then_total (variant_key_total key) (keys_total rest)

pub rdata_total : IsTotalOrder rdata_cmp
rdata_total =
    then_total (on_total data_octets nat_list_cmp_total)
    (then_total (on_total type_of type_laws.total-law) (keys_total variant_keys))

-- Two values that were read under one type are ordered by their canonical octets.
abbrev pub OrdersRead : RData → RData → Ordering → Type 0
OrdersRead v w answer = (t : RecordType) (m : List ℕ) (p n : ℕ) (m' : List ℕ) (p' n' : ℕ) → Fills m p n t v
    → Fills m' p' n' t w
    → answer ≡ slice_cmp nat_cmp (data_octets v) (data_octets w)

-- the fields of a record
abbrev pub fields_by : {T : Type 0} → Facts T → T → FieldsOf
fields_by f x = record { kinds = kinds_of f.row; values = f.fields x }

-- they are of two variants
abbrev pub Differ : RData → RData → Type 0
Differ v w = IsTrue (not (rank v == rank w))
