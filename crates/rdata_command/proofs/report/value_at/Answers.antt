use Rattle.std.proofs.Common.{◌≡◌, ◌∙◌, ap, arith}
use Rattle.dns_names_wire.specs.State.{Reading}
use Rattle.rdata_command.proofs.report.value_at.Goals as goal

pub returns-clause-refused : goal.returns-clause-refused
returns-clause-refused c =
    let took = c.in_ok-_before.ensures.taken in
    let message : c.read_slice.new.self.message ≡ c.args.message.now = took.message ∙ ap (λ (d : Reading). d.message) c.new-decoder.ensures in
    let index : c.read_slice.new.self.index ≡ c.args.offset =
    omega (arith, took.field.is.1.ends, took.field.is.0, ap (λ (d : Reading). d.index) c.new-decoder.ensures) in
    rw (message, index, c.new.ensures) at c.read.ensures.refused
