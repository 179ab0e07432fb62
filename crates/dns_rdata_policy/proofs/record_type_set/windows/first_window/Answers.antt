use Rattle.std.proofs.Common.{◌≡◌, ℕ, ◌+◌, ◌/◌, ◌%◌, ◌-◌, rules, length, length-take, take, get_or, ap, arith}
use Rattle.std.proofs.lemmas.List.{get_or-take}
use Rattle.dns_fields.specs.Bitmaps.{window}
use Rattle.dns_rdata_policy.proofs.{Windows.HasMarks, Windows.window_is, Rising.rises_take, WindowOctets.minimal_next}
use Rattle.dns_rdata_policy.proofs.record_type_set.windows.first_window.Goals as goal

pub returns-clause-next : goal.returns-clause-next
returns-clause-next c =
    let v = c.args.numbers.now in
    let e = c.run_len-count.result in
    let r = c.run_len-count.ensures in
    let run = take e v in
    let octets = c.mark_window.new.octets in
    let k : ℕ = get_or v 0 0 / 256 in
    let j : ℕ = get_or run (length run - 1) 0 % 256 / 8 in
    let first : get_or run 0 0 ≡ get_or v 0 0 = get_or-take e v 0 0 r.some in
    let made : HasMarks octets run (get_or run 0 0 / 256) = record { bits = c.mark_window.ensures } in
    let marks : HasMarks octets run k = rw first at made in
    let long : length octets ≡ 32 = search rules in
    let same : take (j + 1) octets ≡ window run k = window_is octets run k (length run - 1) marks long c.as_octets-octets.ensures.octets
    (rises_take e v c.requires.set.rises) r.run (omega (arith, length-take e v, r.some, r.within)) in
    rw (first, same) (minimal_next v e c.requires.set c.requires.some r.some r.run r.next (omega (arith, ap length same, length-take (j + 1) octets, long)))
