-- Why the walk ends at a question or a record.
use Rattle.std.proofs.Common.{◌≡◌, ℕ, ◌+◌, ◌<◌, List, Result, Ok, Err, refl, arith}
use Rattle.std.specs.{Result.IfErr, Result.OnOk}
use Rattle.dns_names_wire.specs.Steps.{NameSteps, Leaves}
use Rattle.dns_message.specs.declared.error.Fault.{Fault}
use Rattle.dns_message.specs.declared.error.Fault.TheVariants as faults
use Rattle.dns_message.specs.declared.{reading.Asked.Asked, reading.FixedFields.FixedFields}
use Rattle.dns_message.specs.{Questions.NoQuestion, Questions.IsQuestionFault, Records.NoRecord, Records.IsRecordFault}
use Rattle.dns_message.specs.{Readings.IsFound, Readings.record_of}
use Rattle.dns_message.specs.Steps.{DataSteps, RecordSteps, Takes, Within, Exceeds}
use Rattle.dns_message.specs.Stops.{IsQuestionStop, IsOwnerStop}

-- fewer than are left, since something is left after them
pub takes : {Claim : ℕ → Type 0} {left after : ℕ} → Leaves Claim left after → 0 < after → Takes Claim left after
takes l some = (l.0, l.1, omega (arith, l.2), l.2)

pub within : {Claim : ℕ → Type 0} {left after : ℕ} → Leaves Claim left after → 0 < after → Within Claim left
within l some = (l.0, l.1, omega (arith, l.2))

-- not fewer, since nothing is left after them
pub exceeds : {Claim : ℕ → Type 0} {left after : ℕ} → Leaves Claim left after → after ≡ 0 → Exceeds Claim left
exceeds l none = (l.0, l.1, omega (arith, l.2))

-- ---- questions

-- ---- records

-- those of the owner, and then those of the RDATA
pub both_leave : {m : List ℕ} {p left middle after : ℕ} (f : FixedFields) → IsFound m p f → Takes (NameSteps m p) left middle
    → Leaves (DataSteps m f.record_type f.class f.rdlength f.rdata) middle after → Leaves (RecordSteps m p) left after
both_leave {m} {p} {left} {middle} {after} f is t l = (
  t.0 + l.0,
  record {
    entry = record_of p is.owner f;
    end = f.end;
    is = is.is;
    owner = t.0;
    of_owner = t.1;
    content = l.0;
    of_content = l.1;
    sum = refl;
  },
  omega (arith, t.3, l.2),
)
