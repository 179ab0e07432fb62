use Rattle.std.proofs.Common.{arith, refl}
use Rattle.dns_fields.specs.Fields.{field_octets}
use Rattle.dns_names_wire.proofs.NamelessWrites.{emits_nameless, number_then}
use Rattle.dns_rdata_policy.specs.CSYNC.{csync_numbers_shape, csync_numbers}
use Rattle.dns_rdata_policy.proofs.csync.CSYNC.emit_numbers.Goals as goal

pub returns : goal.returns
unfolding field_octets
returns c =
    let flags = rw c.flags-flags.ensures at c.flags-flags.type_inv in
    let e = rw (c.six_octets.ensures, c.flags-flags.ensures) at c.emit_vec.ensures.emits in
    emits_nameless csync_numbers_shape (csync_numbers c.args.self.now) _ _ _ _ tt (omega arith, (flags, tt)) (number_then 4 _ _ _ (number_then 2 _ _ _ refl)) e
