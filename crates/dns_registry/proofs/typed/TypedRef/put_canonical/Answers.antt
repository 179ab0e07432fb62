use Rattle.std.proofs.Common.{ℕ, ◌+◌, List}
use Rattle.dns_rows.specs.{declared.row.Part.Part, Table.kinds_of}
use Rattle.dns_check.specs.Rows.{HasRow}
use Rattle.dns_view.specs.Putting.{Put}
use Rattle.dns_fields.specs.Fields.{canonical}
use Rattle.dns_registry.specs.Typed.{format_at}
use Rattle.dns_registry.proofs.Views.{view_tells}
use Rattle.dns_registry.proofs.typed.TypedRef.put_canonical.Goals as goal

pub returns : goal.returns
returns c = λ m p n t is. view_tells (λ (l : List ℕ) (q k : ℕ) (parts : List Part) (h : HasRow l q parts (q + k)).
    Put c.args.out.now c.put_canonical.new.out 0 c.put_canonical.result (canonical (kinds_of parts) h.values))
    m p n (format_at m p n t).parts c.args.self.now.view is.view c.put_canonical.ensures
