-- What is given for a record: it and its RDATA, or why the RDATA is rejected.
use Rattle.std.specs.Prelude.{◌≡◌, ◌≢◌, ℕ, List, Option, Some, None, Result, Ok, Err}
use Rattle.dns_types.specs.RecordTypes.{record_type_of}
use Rattle.dns_types.specs.declared.{record_type.RecordType.RecordType, error.DecodeError.DecodeError}
use Rattle.dns_types.specs.declared.error.DecodeError.TheVariants as decode
use Rattle.dns_names_wire.specs.State.{Reading}
use Rattle.dns_rdata.specs.{Data.NoValue, ReadErrors.IsReadError, Views.IsViewOf, declared.view.RDataRef.RDataRef}
use Rattle.dns_message.specs.Records.{Record, IsRecord, HasNoData}
use Rattle.dns_message.specs.declared.{error.Section.Section, error.RecordError.RecordError}
use Rattle.dns_message.specs.declared.record_ref.RecordRef.{RecordRef}
use Rattle.dns_message.specs.declared.error.Fault.TheVariants as faults

-- a view of the n octets of RDATA at q, or that the record has no data
abbrev pub IsDataOf : List ℕ → ℕ → ℕ → ℕ → ℕ → Option RDataRef → Type 0
IsDataOf m type class n q None = HasNoData type class n
IsDataOf m type class n q (Some v) = (HasNoData type class n → ⊥) × IsViewOf m q n (record_type_of type) v

-- the n octets from q are no RDATA of the type, for this reason
pub record IsRefusedAt (m : List ℕ) (q n : ℕ) (t : RecordType) (reason : DecodeError) : Type 0 where
  pub none : NoValue m q n t
  pub stopped : Reading
  pub cause : IsReadError t n (record { message = m; index = q }) stopped reason
  pub memory : reason ≢ decode.Memory

-- the n octets of RDATA at q are rejected, for this reason
pub record IsRejected (m : List ℕ) (type class n q : ℕ) (reason : DecodeError) : Type 0 where
  pub some : HasNoData type class n → ⊥
  pub refused : IsRefusedAt m q n (record_type_of type) reason

-- the record of this section and index, as it is lent
pub record ShowsRecord (m : List ℕ) (s : Section) (i : ℕ) (r : Record) (x : RecordRef) : Type 0 where
  pub section : x.section ≡ s
  pub index : x.index ≡ i
  pub offset : x.offset ≡ r.offset
  pub message : x.owner.message.now ≡ m
  pub owner : x.owner.offset ≡ r.offset
  pub type : x.record_type ≡ record_type_of r.type
  pub class : x.class ≡ r.class
  pub ttl : x.ttl ≡ r.ttl
  pub content : IsDataOf m r.type r.class r.rdlength r.rdata x.rdata

-- the error says that the RDATA of the record of this section and index is rejected, and why
pub record RejectsRecord (m : List ℕ) (s : Section) (i : ℕ) (r : Record) (e : RecordError) : Type 0 where
  pub section : e.section ≡ s
  pub index : e.index ≡ i
  pub offset : e.offset ≡ r.offset
  pub reason : DecodeError
  pub fault : e.fault ≡ faults.RData reason
  pub rejected : IsRejected m r.type r.class r.rdlength r.rdata reason

abbrev pub Item : Type 0
Item = Result RecordRef RecordError

-- what is given for a record: the record, or why its RDATA is rejected
abbrev pub IsItem : List ℕ → Section → ℕ → Record → Item → Type 0
IsItem m s i r (Ok x) = ShowsRecord m s i r x
IsItem m s i r (Err e) = RejectsRecord m s i r e

-- a record is encoded from p to the end, and this is given for it
pub record GivesRecord (m : List ℕ) (s : Section) (i p end : ℕ) (x : Item) : Type 0 where
  pub entry : Record
  pub is : IsRecord m p entry end
  pub item : IsItem m s i entry x
