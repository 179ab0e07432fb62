use Rattle.std.proofs.Common.{ℕ, ◌+◌, ◌≤◌, List}
use Rattle.std.specs.Prelude.{MatchOption}
use Rattle.dns_rows.specs.{declared.row.Part.Part, Table.kinds_of}
use Rattle.dns_check.specs.Rows.{HasRow}
use Rattle.dns_view.specs.NameFields.{names_in, ShowsNameAt}
use Rattle.dns_registry.specs.Typed.{format_at}
use Rattle.dns_registry.proofs.Views.{view_tells}
use Rattle.dns_registry.proofs.typed.TypedRef.name.Goals as goal

pub returns : goal.returns
returns c = λ m p n t is. view_tells (λ (l : List ℕ) (q k : ℕ) (parts : List Part) (h : HasRow l q parts (q + k)).
    MatchOption c.name.result (names_in (kinds_of parts) ≤ c.args.index) (λ r. ShowsNameAt l q (kinds_of parts) h.values c.args.index r))
    m p n (format_at m p n t).parts c.args.self.now.view is.view c.name.ensures
