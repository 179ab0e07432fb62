-- Records (RFC 1035, 4.1.3).
use Rattle.std.specs.Prelude.{◌≡◌, ◌≢◌, ℕ, ◌+◌, ◌<◌, ◌≤◌, ◌⊎◌, List, [], ◌∷◌, length}
use Rattle.dns_fields.specs.{Labels.DomainName, Fields.Stands}
use Rattle.dns_fields.specs.declared.Kind.{TheVariants.Number, TheVariants.Name}
use Rattle.dns_message.specs.Entries.{Follow, NoName, EndsAfterName}
use Rattle.dns_message.specs.declared.error.Fault.{Fault}
use Rattle.dns_message.specs.declared.error.Fault.TheVariants as faults

-- a record, and the offsets where it and its RDATA start
pub record Record : Type 0 where
  pub offset : ℕ
  pub owner : DomainName
  pub type : ℕ
  pub class : ℕ
  pub ttl : ℕ
  pub rdlength : ℕ
  pub rdata : ℕ

-- what precedes the RDATA is encoded from the offset on: owner, type, class, TTL and RDLENGTH
pub record HasFields (message : List ℕ) (offset : ℕ) (r : Record) : Type 0 where
  pub starts : r.offset ≡ offset
  pub fields : Stands message offset (Name ∷ Number 2 ∷ Number 2 ∷ Number 4 ∷ Number 2 ∷ [])
      (r.owner, (r.type, (r.class, (r.ttl, (r.rdlength, tt))))) r.rdata

-- the record is encoded from the offset to the end: its fields, and then RDLENGTH octets of RDATA
pub record IsRecord (message : List ℕ) (offset : ℕ) (r : Record) (end : ℕ) : Type 0 where
  pub fields : HasFields message offset r
  pub ends : end ≡ r.rdata + r.rdlength
  pub within : end ≤ length message

-- no record is encoded at the offset
pub record NoRecord (message : List ℕ) (offset : ℕ) : Type 0 where
  pub none : (r : Record) (end : ℕ) → IsRecord message offset r end → ⊥

-- so many records from one offset to another
pub record RecordsFrom (message : List ℕ) (offset count : ℕ) (records : List Record) (end : ℕ) : Type 0 where
  pub many : length records ≡ count
  pub follow : Follow (IsRecord message) offset records end

-- RDLENGTH is n, and passes the end of the message, which has only so many octets left
pub record LengthPasses (message : List ℕ) (offset n left : ℕ) : Type 0 where
  pub entry : Record
  pub fields : HasFields message offset entry
  pub length_is : n ≡ entry.rdlength
  pub left_is : entry.rdata + left ≡ length message
  pub passes : left < n

-- why no record is encoded at the offset
abbrev pub IsRecordFault : List ℕ → ℕ → Fault → Type 0
IsRecordFault message offset faults.Name = NoName message offset
IsRecordFault message offset faults.Truncated = EndsAfterName message offset 10
IsRecordFault message offset (faults.Length n left) = LengthPasses message offset n left
IsRecordFault message offset (faults.RData e) = ⊥
IsRecordFault message offset faults.Limit = ⊥

-- A record of UPDATE that has no data: class NONE or ANY, and RDLENGTH 0 (RFC 2136, 2.4 and 2.5). The class of OPT is
-- no class (RFC 6891, 6.1.2).
pub record HasNoData (type c rdlength : ℕ) : Type 0 where
  pub class : (c ≡ 254) ⊎ (c ≡ 255)
  pub empty : rdlength ≡ 0
  pub other : type ≢ 41
