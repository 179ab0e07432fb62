use Rattle.std.proofs.Common.{◌≡◌, codes, refl, arith, rules}
use Rattle.rdata_command.proofs.Words.{three_items}
use Rattle.rdata_command.proofs.parsing.parse_words.Goals as goal

pub returns : goal.returns
returns c =
    let three = three_items c.args.words.now c.command-item.result c.record_type-item.result c.text-item.result
    (omega arith) (omega arith) c.command-item.is c.record_type-item.is c.text-item.is in
    let word : c.as_str.result.now ≡ codes "parse" = search rules in
    rw (three, c.as_str-2.ensures.value, c.as_str-3.ensures.value, ← c.as_str.ensures.value, word) refl
