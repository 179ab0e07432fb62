use Rattle.std.proofs.{lemmas.List.drop-drop, Common.◌∙◌, Common.ap, Common.drop, Common.List, Common.ℕ}
use Rattle.dns_rdata.specs.Data.{data_octets}
use Rattle.dns_rdata_zone.proofs.ServiceDigits.{next_drop}
use Rattle.dns_rdata_zone.proofs.services.octets_behind.Goals as goal

pub loop-i-preserved : goal.loop-i-preserved
loop-i-preserved c = next_drop c.next-before.result c.loop-i.octets.octets c.next-before.new.self.octets c.next-before.ensures.octets
    ∙ ap (λ (s : List ℕ). drop 1 s) c.loop-i.invariant ∙ drop-drop 1 c.loop-i.i (data_octets c.args.rdata.now)
