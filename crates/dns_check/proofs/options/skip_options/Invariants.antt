use Rattle.std.proofs.Common.{◌-◌, ◌+◌, List}
use Rattle.dns_fields.specs.Tlvs.{Numbered, OptionValue}
use Rattle.dns_check.proofs.OptionLists.{ReadsOptions}
use Rattle.dns_check.proofs.options.skip_options.Given as goal

abbrev pub invariant-tlvs : goal.invariant-tlvs
invariant-tlvs l =
    (done : List (Numbered OptionValue)) × ReadsOptions l.fn.walk (l.len - (l.fn.walk.index - l.start)) (l.start + l.len) done l.walk

abbrev pub decreases-tlvs : goal.decreases-tlvs
decreases-tlvs l = l.end - l.walk.index
