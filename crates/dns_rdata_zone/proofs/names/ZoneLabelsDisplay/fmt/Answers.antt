use Rattle.std.proofs.{Common.◌≡◌, Common.[], Common.rules, Common.ap, Output.has_written_append, Output.has_written_of_eq}
use Rattle.std.specs.{Fmt.HasWritten, Prelude.flat_map}
use Rattle.dns_rdata_zone.specs.Names.{zone_label}
use Rattle.dns_rdata_zone.proofs.Digits.{labels_more, labels_all}
use Rattle.dns_rdata_zone.proofs.names.ZoneLabelsDisplay.fmt.Goals as goal

pub loop-label-init : goal.loop-label-init
loop-label-init g c = λ plain.
    let e : c.into_iter-label-iterator.result ≡ c.args.self.now.0.now.labels =
    cc (c.into_iter-label-iterator.ensures.into_iter_gives, c.iter-label-items.ensures.labels) in
    ([], search rules, ap (flat_map zone_label) e)

pub loop-label-preserved : goal.loop-label-preserved
loop-label-preserved g c = λ p.
    let i = c.loop-label.invariant p in
    let put = g.W.Write.write_str_gives in
    let next : HasWritten put c.loop-label.f (zone_label c.in-Some.label.now) c.write.new.self = let plain = i.1.plain in search rules in (
      _,
      has_written_append put _ _ _ _ _ i.1 next,
      labels_more i.0 c.in-Some.label.now c.loop-label.label-iterator c.next.new.self _ c.in-Some.ensures.steps i.2,
    )

pub returns-clause-writes : goal.returns-clause-writes
returns-clause-writes g c = λ p ok.
    let i = c.loop-label.invariant p in
    has_written_of_eq _ _ _ _ _ (labels_all i.0 c.loop-label.label-iterator _ c.in-None.ensures.steps.0 i.2) i.1
