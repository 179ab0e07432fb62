use Rattle.std.proofs.Common.{◌≡◌, ◌==◌, false, slice_index, rules, arith}
use Rattle.rdata_command.proofs.Words.{number_read}
use Rattle.rdata_command.proofs.request.number.Goals as goal

pub returns : goal.returns
returns c =
    let first : (slice_index c.args.word.now 0 == 43) ≡ false = search rules in
    rw c.ok.ensures.value (number_read c.args.word.now c.parse.result first (omega arith) c.parse.ensures.value.0)
