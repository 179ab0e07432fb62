use Rattle.dns_message.proofs.RefusedRdata.{refused_at, found_at, leaves_at}
use Rattle.dns_message.proofs.record_ref.read_rdata.Goals as goal

pub returns-clause-found : goal.returns-clause-found
returns-clause-found c = found_at c.args.message.now c.args.rdata c.args.rdlength c.args.record_type c.read_in.result c.at-walk.result c.at-walk.ensures
    (rw c.new.ensures at c.read_in.ensures.found)

pub returns-clause-refused : goal.returns-clause-refused
returns-clause-refused c = refused_at c.args.message.now c.args.rdata c.args.rdlength c.args.record_type c.read_in.result c.at-walk.result c.read_in.new.walk
    c.at-walk.ensures (rw c.new.ensures at c.read_in.ensures.refused) (rw c.new.ensures at c.read_in.ensures.why) c.read_in.ensures.allocates_nothing

pub returns-clause-steps : goal.returns-clause-steps
returns-clause-steps c = leaves_at c.args.message.now c.args.rdata c.new.result c.args.rdlength c.args.record_type c.at-walk.result _ _ c.at-walk.ensures
    c.new.ensures c.read_in.ensures.steps
