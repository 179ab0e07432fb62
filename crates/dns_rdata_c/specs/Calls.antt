-- What the calls give.
use Rattle.std.specs.Prelude.{◌≡◌, ◌⊎◌, ℕ, ◌≤◌, ℤ, pos, negsuc, Option, Some, None, List, [], length}
use Rattle.std.specs.Prelude.{Result, Ok, Err}
use Rattle.std.specs.{Ordering.nat_cmp, Cmp.Lexicographic.slice_cmp, declared.cmp.Ordering.Ordering}
use Rattle.std.specs.declared.cmp.Ordering.TheVariants.{Less, Equal, Greater}
use Rattle.dns_fields.specs.{Labels.DomainName, Names.IsNameIn}
use Rattle.dns_types.specs.{declared.error.DecodeError.DecodeError, declared.error.ParseError.ParseError}
use Rattle.dns_types.specs.declared.record_type.RecordType.{RecordType}
use Rattle.dns_types.specs.declared.error.DecodeError.TheVariants as decode
use Rattle.dns_rdata.specs.{declared.record_data.RData.RData, WholeOctets.whole_data}
use Rattle.dns_rdata.specs.Data.{Fills, data_octets}
use Rattle.dns_rdata_zone.specs.{ZoneGives.GivesValue, ZoneGives.GivesNone, ZoneFaults.ZoneFault, ZoneTexts.zone_text}
use Rattle.dns_rdata_c.specs.{declared.rdata.Reason.Reason, Reading.IsCauseAt}
use Rattle.dns_rdata_c.specs.Status.{decode_status, parse_status}
use Rattle.dns_rdata_c.specs.Buffers.{IsPut, IsTooMany}

-- ---- why octets are rejected

-- the octets that were read, and those that there should have been
abbrev pub read_in : DecodeError → ℕ
read_in (decode.IncorrectRDataLengthRead read len) = read
read_in e = 0

abbrev pub len_in : DecodeError → ℕ
len_in (decode.IncorrectRDataLengthRead read len) = len
len_in e = 0

-- the status of a record's own result, and the number that its error has: a type, flags or a family
abbrev pub own_status : Result (Unit {0}) DecodeError → ℕ
own_status (Ok x) = 0
own_status (Err e) = decode_status e

abbrev pub own_number : Result (Unit {0}) DecodeError → ℕ
own_number (Err (decode.UnknownRecordTypeValue number)) = number
own_number (Err (decode.UnrecognizedCsyncFlags flags)) = flags
own_number (Err (decode.UnknownAddressFamily family)) = family
own_number own = 0

-- the offset where reading stopped, which is not told where memory ran out
abbrev pub stop_in : DecodeError → ℕ → ℕ
stop_in decode.Memory offset = 0
stop_in e offset = offset

-- the numbers of an error, of the record's own result, and of the offset where reading stopped
abbrev pub numbers_of : DecodeError → Result (Unit {0}) DecodeError → ℕ → Reason
numbers_of e own offset = record {
  read = read_in e;
  len = len_in e;
  number = own_number own;
  cause = own_status own;
  offset = stop_in e offset;
}

-- The status and the numbers are those of the error by which the octets are rejected, of the record's own result, and
-- of the offset where reading stopped.
pub record IsWhy (m : List ℕ) (p n : ℕ) (t : RecordType) (status : ℕ) (why : Reason) : Type 0 where
  pub error : DecodeError
  pub own : Result (Unit {0}) DecodeError
  pub offset : ℕ
  pub told : status ≡ decode_status error
  pub numbers : why ≡ numbers_of error own offset
  pub cause : IsCauseAt m p n t error own offset

-- ---- octets

-- the octets of the value are in the buffer
pub record PutsWire (v : RData) (old new : List ℕ) (count : ℕ) : Type 0 where
  pub short : length (whole_data v) ≤ 65535
  pub put : IsPut (whole_data v) old new count

-- they do not fit
pub record LacksRoomForWire (v : RData) (old new : List ℕ) (count : ℕ) : Type 0 where
  pub short : length (whole_data v) ≤ 65535
  pub too_many : IsTooMany (whole_data v) old new count

-- ---- orders

-- -1, 0 or 1
abbrev pub order_number : Ordering → ℤ
order_number Less = negsuc 0
order_number Equal = pos 0
order_number Greater = pos 1

-- the order of two lists of octets, a proper beginning before what goes on
abbrev pub octets_order : List ℕ → List ℕ → ℤ
octets_order a b = order_number (slice_cmp nat_cmp a b)

-- values fill the octets in both messages, and this is the order of their canonical octets
pub record HasOrder (t : RecordType) (m : List ℕ) (p n : ℕ) (m' : List ℕ) (p' n' : ℕ) (order : ℤ) : Type 0 where
  pub value : RData
  pub other : RData
  pub fills : Fills m p n t value
  pub other_fills : Fills m' p' n' t other
  pub is_order : order ≡ octets_order (data_octets value) (data_octets other)

-- the number tells whether two lists of octets are the same
abbrev pub TellsSame : List ℕ → List ℕ → ℤ → Type 0
TellsSame a b answer = ((answer ≡ pos 1) × (a ≡ b)) ⊎ ((answer ≡ pos 0) × ¬ (a ≡ b))

-- values fill the octets in both messages, and the number tells whether their canonical octets are the same
pub record HasEquality (t : RecordType) (m : List ℕ) (p n : ℕ) (m' : List ℕ) (p' n' : ℕ) (answer : ℤ) : Type 0 where
  pub value : RData
  pub other : RData
  pub fills : Fills m p n t value
  pub other_fills : Fills m' p' n' t other
  pub tells : TellsSame (data_octets value) (data_octets other) answer

-- ---- origins

-- the octets are a name's, uncompressed; no octets are no origin
abbrev pub IsOrigin : List ℕ → Option DomainName → Type 0
IsOrigin octets None = octets ≡ []
IsOrigin octets (Some x) = IsNameIn octets 0 x (length octets)

abbrev pub IsNoOrigin : List ℕ → Type 0
IsNoOrigin octets = (x : DomainName) → ¬ (IsNameIn octets 0 x (length octets))

-- ---- data from the text of a zone file

-- the octets are an origin, the text gives a value, and P holds of it
pub record HasZoneData (octets : List ℕ) (t : RecordType) (text : List ℕ) (P : RData → Type 0) : Type 0 where
  pub origin : Option DomainName
  pub is_origin : IsOrigin octets origin
  pub value : RData
  pub gives : GivesValue origin t text value
  pub holds : P value

-- the text gives no value, and the status is that of the cause
pub record IsNoZoneText (origin : Option DomainName) (t : RecordType) (text : List ℕ) (status : ℕ) : Type 0 where
  pub none : GivesNone origin t text
  pub error : ParseError
  pub told : status ≡ parse_status error
  pub fault : ZoneFault origin t text error

-- the octets are an origin, and the text gives no value
pub record IsRefusedZoneText (octets : List ℕ) (t : RecordType) (text : List ℕ) (status : ℕ) : Type 0 where
  pub origin : Option DomainName
  pub is_origin : IsOrigin octets origin
  pub why : IsNoZoneText origin t text status

-- P holds of the uncompressed octets of each value that fills RDATA of a message and whose zone text this is.
pub record OfZoneText (t : RecordType) (text : List ℕ) (P : List ℕ → Type 0) : Type 0 where
  pub holds : (m : List ℕ) (p n : ℕ) (v : RData) → Fills m p n t v → length (whole_data v) ≤ 65535
      → text ≡ zone_text v → P (whole_data v)
