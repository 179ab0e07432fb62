-- What is true of RDATA of every type.
use Rattle.std.specs.Prelude.{◌≡◌, ◌↔◌, ℕ, ◌-◌, ◌<◌, IsTrue, Bool, Option, Some, None, List, length}
use Rattle.std.specs.{declared.net.ip_addr.IpAddr.IpAddr, declared.net.ip_addr.IpAddr.TheVariants.V4, declared.net.ip_addr.IpAddr.TheVariants.V6}
use Rattle.dns_types.specs.declared.record_type.RecordType.{RecordType}
use Rattle.dns_names_wire.specs.{State.Writing, Terms.Region}
use Rattle.dns_fields.specs.{Fields.Values, Labels.DomainName}
use Rattle.dns_rdata.specs.{declared.record_data.RData.RData, Data.shape, Data.MeetsCondition, Data.Fills, Data.data_octets, Data.type_of, Equal.equal}
use Rattle.dns_rdata.specs.declared.record_data.RData.TheVariants as rdata
use Rattle.dns_rdata.specs.Order.{rdata_cmp}
use Rattle.dns_view.specs.Putting.{key_of}
use Rattle.std.specs.declared.cmp.Ordering.TheVariants.{Less}

-- octets are the RDATA of at most one value of a type
abbrev pub OneValue : Type 0
OneValue = (m : List ℕ) (p n : ℕ) (t : RecordType) (v w : RData) → Fills m p n t v → Fills m p n t w → v ≡ w

-- octets that the fields of a type fill are the RDATA of a value of the type
abbrev pub EachRegion : Type 0
EachRegion = (m : List ℕ) (p n : ℕ) (t : RecordType) (vs : Values (shape t))
    → Region m p n (shape t) (MeetsCondition t) vs → (v : RData) × Fills m p n t v

-- the n octets from p are the RDATA of a value of the type that is equal to v
pub record HasEqual (m : List ℕ) (p n : ℕ) (t : RecordType) (v : RData) : Type 0 where
  pub value : RData
  pub fills : Fills m p n t value
  pub same : IsTrue (equal v value)

-- Two values that were read under one type are equal exactly if their canonical octets are the same.
abbrev pub TellsApart : RData → RData → Bool → Type 0
TellsApart v w answer = (t : RecordType) (m : List ℕ) (p n : ℕ) (m' : List ℕ) (p' n' : ℕ) → Fills m p n t v
    → Fills m' p' n' t w
    → IsTrue answer ↔ (data_octets v ≡ data_octets w)

-- The canonical octets of a value that was read are the RDATA of an equal value, if they are at most 65535.
abbrev pub ReadsCanonical : RecordType → RData → Type 0
ReadsCanonical t v = length (data_octets v) < 65536 → HasEqual (data_octets v) 0 (length (data_octets v)) t v

-- If a value was read under a type and at most 65535 octets of it were appended, these octets are the RDATA of an equal
-- value, after the earlier octets.
abbrev pub ReadsBack : RData → Writing → Writing → Type 0
ReadsBack v old new = (t : RecordType) (m : List ℕ) (p n : ℕ) → Fills m p n t v
    → length new.octets - length old.octets < 65536
    → HasEqual new.octets (length old.octets) (length new.octets - length old.octets) t v

-- the address of A and AAAA
abbrev pub address_of : RData → Option IpAddr
address_of (rdata.A x) = Some (V4 x.0)
address_of (rdata.AAAA x) = Some (V6 x.0)
address_of v = None

-- the name that the record points to: of an alias, a server, a host or a service
abbrev pub target_of : RData → Option DomainName
target_of (rdata.ANAME x) = Some x.0
target_of (rdata.CNAME x) = Some x.0
target_of (rdata.HTTPS x) = Some x.0.target_name
target_of (rdata.MX x) = Some x.exchange
target_of (rdata.NAPTR x) = Some x.replacement
target_of (rdata.NS x) = Some x.0
target_of (rdata.PTR x) = Some x.0
target_of (rdata.SRV x) = Some x.target
target_of (rdata.SVCB x) = Some x.target_name
target_of v = None

-- a record without RDATA in an update (RFC 2136, 2.4 and 2.5)
abbrev pub IsUpdate : RData → Type 0
IsUpdate (rdata.Update0 t) = Unit {0}
IsUpdate v = ⊥

-- the values of one variant, each of which holds one A
pub record VariantOf (A : Type 0) : Type 0 where
  pub wrapped : A → RData
  pub borrowed : RData → Option A

-- A record is borrowed exactly if the value holds it; the value then is of this type and no update.
pub record HoldsOnly {A : Type 0} (values : VariantOf A) (t : RecordType) : Type 0 where
  pub exactly : (v : RData) (x : A) → (values.borrowed v ≡ Some x) ↔ (values.wrapped x ≡ v)
  pub type : (x : A) → type_of (values.wrapped x) ≡ t
  pub no_update : (x : A) → IsUpdate (values.wrapped x) → ⊥

-- Of two values of one type that were read, the one with the lesser key comes first.
abbrev pub KeysTell : Type 0
KeysTell = (t : RecordType) (m : List ℕ) (p n : ℕ) (l : List ℕ) (q k : ℕ) (v w : RData) → Fills m p n t v → Fills l q k t w
    → key_of (data_octets v) < key_of (data_octets w) → rdata_cmp v w ≡ Less
