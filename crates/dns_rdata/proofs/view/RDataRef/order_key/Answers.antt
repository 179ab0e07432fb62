use Rattle.std.proofs.Common.{◌≡◌, List, ℕ}
use Rattle.dns_view.specs.Putting.{key_of}
use Rattle.dns_rdata.proofs.Views.{view_canonical}
use Rattle.dns_rdata.proofs.view.RDataRef.order_key.Goals as goal

pub returns : goal.returns
returns c = λ m p n t v is f. view_canonical (λ (o : List ℕ). c.order_key.result ≡ key_of o) m p n t v c.args.self.now is f c.order_key.ensures
