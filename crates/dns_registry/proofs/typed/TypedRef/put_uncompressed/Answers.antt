use Rattle.std.proofs.Common.{ℕ, ◌+◌, List, false}
use Rattle.dns_rows.specs.{declared.row.Part.Part, Table.kinds_of}
use Rattle.dns_check.specs.Rows.{HasRow}
use Rattle.dns_view.specs.Putting.{Put}
use Rattle.dns_view.specs.Putting.{all_form}
use Rattle.dns_registry.specs.Typed.{format_at}
use Rattle.dns_registry.proofs.Views.{view_tells}
use Rattle.dns_registry.proofs.typed.TypedRef.put_uncompressed.Goals as goal

pub returns : goal.returns
returns c = λ m p n t is. view_tells (λ (l : List ℕ) (q k : ℕ) (parts : List Part) (h : HasRow l q parts (q + k)).
    Put c.args.out.now c.put_uncompressed.new.out 0 c.put_uncompressed.result (all_form false (kinds_of parts) h.values))
    m p n (format_at m p n t).parts c.args.self.now.view is.view c.put_uncompressed.ensures
