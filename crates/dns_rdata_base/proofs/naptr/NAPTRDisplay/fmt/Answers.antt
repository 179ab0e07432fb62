use Rattle.std.proofs.{Common.append_assoc, Output.has_written_of_eq}
use Rattle.dns_rdata_base.specs.Lossy.{lossy}
use Rattle.dns_rdata_base.proofs.naptr.NAPTRDisplay.fmt.Goals as goal

pub returns-clause-writes : goal.returns-clause-writes
unfolding lossy
returns-clause-writes g c = λ p ok. has_written_of_eq _ _ _ _ _
    (simp (
      append_assoc,
      c.new-flags.ensures,
      c.new-services.ensures,
      c.new-regexp.ensures,
      c.as_slice.ensures.value,
      c.as_slice-2.ensures.value,
      c.as_slice-3.ensures.value,
    )) (c.write.ensures.writes p ok)
