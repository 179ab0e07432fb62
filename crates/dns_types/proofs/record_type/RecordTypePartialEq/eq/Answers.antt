use Rattle.dns_types.proofs.RecordTypeLaws.{code_of-Decides}
use Rattle.dns_types.proofs.record_type.RecordTypePartialEq.eq.Goals as goal

pub returns-clause-exact : goal.returns-clause-exact
returns-clause-exact c =
    rw (c.code.ensures, c.code-2.ensures) (code_of-Decides c.args.self.now c.args.other.now)
