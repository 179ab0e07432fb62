use Rattle.std.proofs.Common.{subst, List, ℕ}
use Rattle.dns_view.specs.Putting.{Put}
use Rattle.dns_rows.specs.Table.{kinds_of}
use Rattle.dns_view.proofs.Forms.{form_canonical}
use Rattle.dns_check.proofs.RowTests.{row_tested}
use Rattle.dns_view.proofs.row.view.RowView.put_canonical.Goals as goal

pub returns-in-Some : goal.returns-in-Some
returns-in-Some c = λ h. subst (λ (s : List ℕ). Put c.args.out.now c.put_row.new.out 0 c.in-Some.count s)
    (form_canonical (kinds_of c.args.self.now.row.now) h.values) (c.in-Some.ensures h)

pub returns-in-None : goal.returns-in-None
returns-in-None c = λ h. absurd (c.in-None.ensures h)

pub put_row-requires-clause-row : goal.put_row-requires-clause-row
put_row-requires-clause-row c = row_tested c.args.self.now.row.now c.args.self.now.checked
