use Rattle.std.proofs.Common.{◌≡◌, ◌≤◌, length}
use Rattle.dns_view.specs.LabelList.{labels_left}
use Rattle.dns_view.proofs.name.labels.next_label.Given as goal

abbrev pub invariant-runs : goal.invariant-runs
invariant-runs l = (labels_left l.message l.start l.offset ≡ labels_left l.region l.first l.at) × (l.first ≤ length l.region)
    × (length l.region ≤ length l.message)

abbrev pub decreases-runs : goal.decreases-runs
decreases-runs l = l.first
