use Rattle.dns_check.proofs.RowTests.{row_tested}
use Rattle.dns_view.proofs.row.view.RowView.read.Goals as goal

pub check_data-requires-clause-row : goal.check_data-requires-clause-row
check_data-requires-clause-row c = row_tested c.args.row.now c.requires.row

pub invariant_of-result : goal.invariant_of-result
invariant_of-result c =
    let f = rw (← c.message-message.ensures, ← c.index-offset.ensures.offset) at c.in-Ok.ensures.found in
    record {
      fills = ∣ f ∣₁;
      checked = c.requires.row;
      inside = f.within;
      short = f.short;
    }
