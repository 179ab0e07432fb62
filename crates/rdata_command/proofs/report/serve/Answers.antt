use Rattle.std.proofs.Common.{inl, inr, arith}
use Rattle.rdata_command.proofs.report.serve.Goals as goal

pub returns-clause-refused : goal.returns-clause-refused
returns-clause-refused g c = λ h. elim c.say-in-Ok-lines.ensures [
  | inl four ↦ absurd (omega (arith, four, h))
  | inr same ↦ absurd (omega (arith, same.0, h))
]

pub returns-clause-memory : goal.returns-clause-memory
returns-clause-memory g c = λ h. elim c.say-in-Ok-lines.ensures [
  | inl four ↦ absurd (omega (arith, four, h))
  | inr same ↦ absurd (omega (arith, same.0, h))
]
