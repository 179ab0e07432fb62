use Rattle.std.proofs.Common.{ℕ, ◌+◌, ◌≤◌, List, length}
use Rattle.std.specs.Prelude.{MatchOption}
use Rattle.dns_rows.specs.{declared.row.Part.Part, Table.kinds_of}
use Rattle.dns_check.specs.Rows.{HasRow}
use Rattle.dns_view.specs.Shown.{ShowsAt}
use Rattle.dns_registry.specs.Typed.{format_at}
use Rattle.dns_registry.proofs.Views.{view_tells}
use Rattle.dns_registry.proofs.typed.TypedRef.field.Goals as goal

pub returns : goal.returns
returns c = λ m p n t is. view_tells (λ (l : List ℕ) (q k : ℕ) (parts : List Part) (h : HasRow l q parts (q + k)).
    MatchOption c.field.result (length parts ≤ c.args.index) (λ f. ShowsAt l q c.args.index (kinds_of parts) h.values (q + k) f))
    m p n (format_at m p n t).parts c.args.self.now.view is.view c.field.ensures
