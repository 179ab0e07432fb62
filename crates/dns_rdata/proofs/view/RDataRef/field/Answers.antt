use Rattle.std.proofs.Common.{List, ℕ, ◌+◌, ◌≤◌, length, subst}
use Rattle.std.specs.Prelude.{MatchOption}
use Rattle.dns_view.specs.Shown.{ShowsAt}
use Rattle.dns_rdata.specs.{Data.FieldsOf, Data.fields_of, ViewFields.ShowsField}
use Rattle.dns_rdata.proofs.ViewLists.{view_tells, kinds_length}
use Rattle.dns_rdata.proofs.view.RDataRef.field.Goals as goal

pub returns : goal.returns
returns c = λ m p n t v is f.
    subst (λ (k : ℕ). MatchOption c.field.result (length (fields_of v).kinds ≤ c.args.index) (λ g. ShowsField m p k v c.args.index g)) is.view.len
    (view_tells
    (λ (l : List ℕ) (q : ℕ) (x : FieldsOf). MatchOption c.field.result (length x.kinds ≤ c.args.index)
    (λ g. ShowsAt l q c.args.index x.kinds x.values (q + c.args.self.now.view.len) g)) m p n t v c.args.self.now is f
    (λ h. rw (kinds_length c.args.self.now.view.row.now) (c.field.ensures h)))
