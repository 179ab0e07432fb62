use Rattle.std.proofs.{lemmas.List.drop_all, Common.arith}
use Rattle.dns_rdata_service.proofs.ParameterSteps.{joined_long, joined_size}
use Rattle.dns_rdata_service.proofs.hints.hints_size.Goals as goal

pub returns-in_err-checked_mul-clause-size : goal.returns-in_err-checked_mul-clause-size
returns-in_err-checked_mul-clause-size g c =
    rw c.from_residual.ensures (joined_long g.row.N g.T.Address.octets c.args.addresses.now
    (c.loop-address.invariant (rw (drop_all c.loop-address.address-index c.args.addresses.now (omega arith)) tt)) (omega (arith, c.in_err-checked_mul.ensures)))

pub returns-clause-size : goal.returns-clause-size
returns-clause-size g c =
    rw c.ok.ensures.value (joined_size g.row.N c.in_ok-checked_mul.field-0 g.T.Address.octets c.args.addresses.now c.try_from.result (c.loop-address.invariant (rw (drop_all c.loop-address.address-index c.args.addresses.now (omega arith)) tt))
    c.in_ok-checked_mul.ensures.1 c.try_from.ensures)
