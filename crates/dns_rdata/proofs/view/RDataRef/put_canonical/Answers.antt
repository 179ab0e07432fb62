use Rattle.std.proofs.Common.{List, ℕ}
use Rattle.dns_view.specs.Putting.{Put}
use Rattle.dns_rdata.proofs.Views.{view_canonical}
use Rattle.dns_rdata.proofs.view.RDataRef.put_canonical.Goals as goal

pub returns : goal.returns
returns c = λ m p n t v is f. view_canonical (λ (o : List ℕ). Put c.args.out.now c.put_canonical.new.out 0 c.put_canonical.result o) m p n t v c.args.self.now is f
    c.put_canonical.ensures
