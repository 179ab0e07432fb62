use Rattle.std.proofs.Common.{List, ℕ}
use Rattle.dns_view.specs.Putting.{Put}
use Rattle.dns_rdata.proofs.Views.{view_writes}
use Rattle.dns_rdata.proofs.view.RDataRef.put_whole.Goals as goal

pub returns : goal.returns
returns c = λ m p n t v is f. view_writes (λ (o : List ℕ). Put c.args.out.now c.put_uncompressed.new.out 0 c.put_uncompressed.result o) m p n t v c.args.self.now is f
    c.put_uncompressed.ensures
