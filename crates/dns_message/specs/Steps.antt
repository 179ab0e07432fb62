-- How many steps are taken by going over questions and records (RFC 1035, 4.1.4).
use Rattle.std.specs.Prelude.{◌≡◌, ℕ, ◌+◌, ◌-◌, ◌<◌, ◌≤◌, ◌⊎◌, List, [], ◌∷◌}
use Rattle.dns_types.specs.RecordTypes.{record_type_of}
use Rattle.dns_names_wire.specs.Steps.{NameSteps}
use Rattle.dns_rdata.specs.Steps.{RDataSteps}
use Rattle.dns_message.specs.Questions.{Question}
use Rattle.dns_message.specs.Records.{Record, IsRecord, HasNoData}

-- those of the n octets of RDATA at q; none if the record has no data
abbrev pub DataSteps : List ℕ → ℕ → ℕ → ℕ → ℕ → ℕ → Type 0
DataSteps m type class n q count = (HasNoData type class n × (count ≡ 0))
    ⊎ ((HasNoData type class n → ⊥) × RDataSteps (record_type_of type) n (record { message = m; index = q }) count)

-- those of the record at p: of its owner and of its RDATA, whether the RDATA is rejected or not
pub record RecordSteps (m : List ℕ) (p count : ℕ) : Type 0 where
  pub entry : Record
  pub end : ℕ
  pub is : IsRecord m p entry end
  pub owner : ℕ
  pub of_owner : NameSteps m p owner
  pub content : ℕ
  pub of_content : DataSteps m entry.type entry.class entry.rdlength entry.rdata content
  pub sum : count ≡ owner + content

-- a question's are those of its name
abbrev pub OfQuestion : List ℕ → Question → ℕ → Type 0
OfQuestion m q count = NameSteps m q.offset count

-- of a record: its owner's, and all
abbrev pub OfOwner : List ℕ → Record → ℕ → Type 0
OfOwner m r count = NameSteps m r.offset count

abbrev pub OfRecord : List ℕ → Record → ℕ → Type 0
OfRecord m r count = RecordSteps m r.offset count

-- the sum over a list
abbrev pub SumOf : {X : Type 0} → (X → ℕ → Type 0) → List X → ℕ → Type 0
SumOf Claim [] count = count ≡ 0
SumOf Claim (x ∷ xs) count = (one : ℕ) × (rest : ℕ) × Claim x one × SumOf Claim xs rest × (count ≡ one + rest)

-- so many as the claim says are less than what is left, and are taken off it
abbrev pub Takes : (ℕ → Type 0) → ℕ → ℕ → Type 0
Takes Claim left after = (count : ℕ) × Claim count × (count < left) × (after ≡ left - count)

-- they are less than what is left
abbrev pub Within : (ℕ → Type 0) → ℕ → Type 0
Within Claim left = (count : ℕ) × Claim count × (count < left)

-- they are not
abbrev pub Exceeds : (ℕ → Type 0) → ℕ → Type 0
Exceeds Claim left = (count : ℕ) × Claim count × (left ≤ count)
