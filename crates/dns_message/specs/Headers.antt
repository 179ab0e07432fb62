-- The header of a message (RFC 1035, 4.1.1).
use Rattle.std.specs.Prelude.{◌≡◌, ◌↔◌, ℕ, ◌+◌, ◌/◌, ◌%◌, ◌^◌, ◌<◌, List, [], ◌∷◌, IsTrue}
use Rattle.std.specs.Int.{bit_at}
use Rattle.dns_fields.specs.{Fields.Stands, declared.Kind.TheVariants.Number}
use Rattle.dns_message.specs.declared.{header.Header.Header, error.Section.Section}
use Rattle.dns_message.specs.declared.error.Section.TheVariants as sections

-- The second number of the header: QR, OPCODE, AA, TC, RD, RA, Z, AD, CD and RCODE, from the highest bit to the lowest.
-- Bits are counted from the lowest. AD and CD are those of RFC 4035, 3.2.
pub record IsFlags (flags : ℕ) (h : Header) : Type 0 where
  pub response : IsTrue h.response ↔ (bit_at flags 15 ≡ 1)
  pub opcode : h.opcode ≡ flags / 2 ^ 11 % 2 ^ 4
  pub authoritative : IsTrue h.authoritative ↔ (bit_at flags 10 ≡ 1)
  pub truncated : IsTrue h.truncated ↔ (bit_at flags 9 ≡ 1)
  pub recursion_desired : IsTrue h.recursion_desired ↔ (bit_at flags 8 ≡ 1)
  pub recursion_available : IsTrue h.recursion_available ↔ (bit_at flags 7 ≡ 1)
  pub authentic_data : IsTrue h.authentic_data ↔ (bit_at flags 5 ≡ 1)
  pub checking_disabled : IsTrue h.checking_disabled ↔ (bit_at flags 4 ≡ 1)
  pub rcode : h.rcode ≡ flags % 2 ^ 4

-- the message begins with the header: six numbers of two octets
pub record IsHeader (message : List ℕ) (h : Header) : Type 0 where
  pub flags : ℕ
  pub numbers : Stands message 0 (Number 2 ∷ Number 2 ∷ Number 2 ∷ Number 2 ∷ Number 2 ∷ Number 2 ∷ [])
      (h.id, (flags, (h.question_count, (h.answer_count, (h.authority_count, (h.additional_count, tt)))))) 12
  pub bits : IsFlags flags h

pub record HasHeader (message : List ℕ) : Type 0 where
  pub header : Header
  pub is : IsHeader message header

-- how many records the message has
abbrev pub record_count : Header → ℕ
record_count h = h.answer_count + h.authority_count + h.additional_count

-- of the records of the message, n precede the one of this index in this section
abbrev pub IsPlace : Header → ℕ → Section → ℕ → Type 0
IsPlace h n sections.Question i = ⊥
IsPlace h n sections.Answer i = (n ≡ i) × (i < h.answer_count)
IsPlace h n sections.Authority i = (n ≡ h.answer_count + i) × (i < h.authority_count)
IsPlace h n sections.Additional i = (n ≡ h.answer_count + h.authority_count + i) × (i < h.additional_count)
