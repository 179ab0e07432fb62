use Rattle.std.proofs.Common.{List, ℕ, ◌≤◌}
use Rattle.std.specs.Prelude.{MatchOption}
use Rattle.dns_view.specs.NameFields.{names_in, ShowsNameAt}
use Rattle.dns_rdata.specs.Data.{FieldsOf}
use Rattle.dns_rdata.proofs.ViewLists.{view_tells}
use Rattle.dns_rdata.proofs.view.RDataRef.name.Goals as goal

pub returns : goal.returns
returns c = λ m p n t v is f.
    view_tells (λ (l : List ℕ) (q : ℕ) (x : FieldsOf). MatchOption c.name.result (names_in x.kinds ≤ c.args.index)
    (λ r. ShowsNameAt l q x.kinds x.values c.args.index r)) m p n t v c.args.self.now is f c.name.ensures
