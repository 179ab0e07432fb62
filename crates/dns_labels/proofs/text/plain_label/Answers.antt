use Rattle.std.proofs.{Common.arith, lemmas.List.drop_all}
use Rattle.dns_labels.proofs.{LabelSteps.at_dot, NameTexts.label_as_is}
use Rattle.dns_labels.proofs.text.plain_label.Goals.{else-len-text-via-then-len-text+else-text-len-ne46, else-len-text-via-else-len-text}
use Rattle.dns_labels.proofs.text.plain_label.Goals as goal

pub returns-clause-label : goal.returns-clause-label
returns-clause-label c =
    let n = c.plain_len-len.result in
    label_as_is c.args.text.now n c.plain_len-len.ensures.within c.plain_len-len.ensures.plain c.plain_len-len.ensures.octets
    (elim c.else-len-text.branch [
      | else-len-text-via-then-len-text+else-text-len-ne46 w ↦ at_dot c.args.text.now n (omega arith) (omega arith)
      | else-len-text-via-else-len-text w ↦ rw (drop_all n c.args.text.now (omega arith)) tt
    ])
