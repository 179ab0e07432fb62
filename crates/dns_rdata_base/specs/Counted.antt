-- What a reader of RDATA of a length returns, by how many octets it read.
use Rattle.std.specs.Prelude.{ℕ, ◌==◌, if◌then◌else◌, Result, Err}
use Rattle.dns_types.specs.declared.error.DecodeError.{DecodeError}
use Rattle.dns_types.specs.declared.error.DecodeError.TheVariants as decode

-- what reading returns, once so many octets of a length were read
abbrev pub by_length : {T : Type 0} → Result T DecodeError → ℕ → ℕ → Result T DecodeError
by_length (Err decode.Memory) read len = Err decode.Memory
by_length (Err (decode.UnknownRecordTypeValue number)) read len = Err (decode.UnknownRecordTypeValue number)
by_length outcome read len = if read == len then outcome else Err (decode.IncorrectRDataLengthRead read len)
