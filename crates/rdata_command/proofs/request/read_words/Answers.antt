use Rattle.std.proofs.Common.{◌≡◌, codes, refl, arith, rules}
use Rattle.rdata_command.proofs.Words.{five_items}
use Rattle.rdata_command.proofs.request.read_words.Goals as goal

pub returns : goal.returns
returns c =
    let five = five_items c.args.words.now c.command-item.result c.record_type-item.result c.offset-item.result c.length-item.result c.octets-item.result
    (omega arith) (omega arith) c.command-item.is c.record_type-item.is c.offset-item.is c.length-item.is c.octets-item.is in
    let word : c.as_str.result.now ≡ codes "read" = search rules in
    rw (five, c.as_str-2.ensures.value, c.as_str-3.ensures.value, c.as_str-4.ensures.value, c.as_str-5.ensures.value, ← c.as_str.ensures.value, word) refl
