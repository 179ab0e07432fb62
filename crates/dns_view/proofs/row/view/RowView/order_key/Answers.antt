use Rattle.std.proofs.Common.{◌∙◌}
use Rattle.dns_view.proofs.OrderKeys.{put_key}
use Rattle.dns_view.proofs.row.view.RowView.order_key.Goals as goal

pub returns : goal.returns
returns c = λ h. c.from_be_bytes.ensures ∙ put_key (c.put_canonical-count.ensures h)
