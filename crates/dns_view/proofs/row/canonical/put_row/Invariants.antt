use Rattle.dns_view.proofs.PutLoop.{PutSo}
use Rattle.dns_view.proofs.row.canonical.put_row.Given as goal

abbrev pub invariant-fields : goal.invariant-fields
invariant-fields l = PutSo l.low l.message l.offset l.row l.end l.fn.out l.out l.at l.from l.here l.index
