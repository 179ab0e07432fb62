use Rattle.std.proofs.Common.{arith, sym, ◌∙◌}
use Rattle.std.proofs.lemmas.List.{take-map}
use Rattle.std.specs.Char.{to_ascii_lowercase}
use Rattle.dns_view.specs.Putting.{cased}
use Rattle.dns_view.proofs.Puts.{put_cut, cased_length}
use Rattle.dns_view.proofs.put.put_cased.Goals as goal

pub returns-then-at-size-clause-put : goal.returns-then-at-size-clause-put
returns-then-at-size-clause-put c = put_cut (cased c.args.low c.args.octets.now) (omega (arith, cased_length c.args.low c.args.octets.now)) (omega arith) (omega arith)
    (rw c.if-not-low.false (c.copy_lowered-then-at-size.ensures ∙ sym (take-map to_ascii_lowercase _ c.args.octets.now)))
