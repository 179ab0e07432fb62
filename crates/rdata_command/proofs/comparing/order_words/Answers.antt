use Rattle.std.proofs.Common.{◌≡◌, codes, refl, arith, rules}
use Rattle.rdata_command.proofs.Words.{four_items}
use Rattle.rdata_command.proofs.comparing.order_words.Goals as goal

pub returns : goal.returns
returns c =
    let four = four_items c.args.words.now c.command-item.result c.record_type-item.result c.left-item.result c.right-item.result
    (omega arith) (omega arith) c.command-item.is c.record_type-item.is c.left-item.is c.right-item.is in
    let word : c.as_str.result.now ≡ codes "cmp" = search rules in
    rw (four, c.as_str-2.ensures.value, c.as_str-3.ensures.value, c.as_str-4.ensures.value, ← c.as_str.ensures.value, word) refl
