use Rattle.std.proofs.Common.{refl, arith}
use Rattle.dns_message.proofs.message.MessageRef.step.Goals as goal

pub returns-in-Err : goal.returns-in-Err
returns-in-Err c =
    let few = c.records_in.ensures in
    rw (← c.self.view_is) (record {
      header = c.header_of-header.result;
      is = c.header_of-header.ensures;
      inside = omega arith;
      few = omega (arith, few);
      left = omega arith;
      why = c.in-Err.ensures.stopped;
      after = refl;
    })
