use Rattle.std.proofs.{Common.◌<◌, Common.slice_index_or, Common.arith, lemmas.Grind.get_or_default_zero}
use Rattle.dns_types.proofs.octets.bounded.Goals as goal

pub returns-clause-octets : goal.returns-clause-octets
returns-clause-octets c k d in_range =
    let fits = c.type_inv.octets k in
    let small : slice_index_or c.args.octets.now k 0 < 256 = omega arith in
    rw (get_or_default_zero c.args.octets.now k d in_range) small
