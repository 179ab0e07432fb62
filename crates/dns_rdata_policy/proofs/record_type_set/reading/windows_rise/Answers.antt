use Rattle.std.proofs.Common.{false, ◌||◌, refl, arith}
use Rattle.dns_fields.specs.Bitmaps.{has_type}
use Rattle.dns_rdata_policy.proofs.Marks.{left_all, left_less, no_blocks, took_block}
use Rattle.dns_rdata_policy.proofs.record_type_set.reading.windows_rise.Goals as goal

pub loop-rest-init : goal.loop-rest-init
loop-rest-init c = record { rest = ((λ t. false), left_all c.args.octets.now (λ t. false) (λ t. refl)); small = omega arith }

pub loop-rest-preserved : goal.loop-rest-preserved
loop-rest-preserved c =
    let r = c.loop-rest.invariant.rest in
    let g = took_block c.in-Ok.len c.loop-rest.rest.now (λ b. Unit {0}) c.in-Ok.ensures.fits (omega arith) tt in
    record { rest = ((λ t. r.0 t || has_type t g.taken), left_less r.1 g (record { types = λ t. refl })); small = omega arith }

pub returns-in-Err : goal.returns-in-Err
returns-in-Err c = no_blocks c.loop-rest-test.true c.loop-rest.invariant.rest.1 c.in-Err.ensures.refused.1
