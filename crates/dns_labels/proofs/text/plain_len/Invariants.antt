use Rattle.std.proofs.Common.{◌≡◌, ◌≤◌, ◌-◌, length, take}
use Rattle.dns_labels.specs.Text.{label_text}
use Rattle.dns_labels.proofs.text.plain_len.Given as goal

abbrev pub invariant-octets : goal.invariant-octets
invariant-octets l = (label_text (take l.len l.text) ≡ take l.len l.text) × (l.len ≤ length l.text)

abbrev pub decreases-octets : goal.decreases-octets
decreases-octets l = length l.text - l.len
