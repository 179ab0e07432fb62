use Rattle.std.proofs.Common.{sym, ◌∙◌}
use Rattle.dns_types.proofs.TypeTexts.{reads_name, reads_number, reads_printed}
use Rattle.dns_types.proofs.record_type.RecordTypeFromStr.from_str.Goals as goal

pub returns-in-Some : goal.returns-in-Some
returns-in-Some c =
    let reads = reads_name c.args.text.now c.in-Some.kind (sym c.named.ensures ∙ c.in-Some.is) in
    (reads, reads_printed _ _ reads)

pub returns-in-None : goal.returns-in-None
returns-in-None c =
    let reads = reads_number c.args.text.now c.numbered.result (sym c.named.ensures ∙ c.in-None.is) c.numbered.ensures in
    rw c.ok_or.ensures.value (reads, reads_printed _ _ reads)
