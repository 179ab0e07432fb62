-- What contracts see of a message, of an iterator over questions, and of one over records.
use Rattle.std.specs.Prelude.{ℕ, List}
use Rattle.dns_message.specs.declared.header.Header.{Header}

-- The octets of a message, and how many steps one walk over its records may take.
pub record Message : Type 0 where
  pub octets : List ℕ
  pub limit : ℕ

-- The message, the offset of the next question, how many questions precede it, and how many there are until the end.
-- `left` is one more than the steps that may still be taken: the walk ends when it is 0.
pub record Asking : Type 0 where
  pub message : List ℕ
  pub offset : ℕ
  pub passed : ℕ
  pub until : ℕ
  pub left : ℕ

-- The same of records. The header says how many records each section has.
pub record Walking : Type 0 where
  pub message : List ℕ
  pub header : Header
  pub offset : ℕ
  pub passed : ℕ
  pub until : ℕ
  pub left : ℕ
