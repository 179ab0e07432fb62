use Rattle.std.proofs.Common.{◌+◌, ◌-◌, length}
use Rattle.dns_check.specs.Rows.{HasRow}
use Rattle.dns_registry.specs.Typed.{FirstPass}
use Rattle.dns_registry.proofs.typed.first_rejected.Given as goal

abbrev pub invariant-rules : goal.invariant-rules
invariant-rules l = (h : HasRow l.view.message.now l.view.offset l.view.row.now (l.view.offset + l.view.len))
    → FirstPass l.index l.rules l.view.message.now l.view.offset l.view.row.now h.values (l.view.offset + l.view.len) h.stands

abbrev pub decreases-rules : goal.decreases-rules
decreases-rules l = length l.rules - l.index
