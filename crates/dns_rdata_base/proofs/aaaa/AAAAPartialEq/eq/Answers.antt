use Rattle.std.proofs.Common.{◌≡◌, length, rules}
use Rattle.dns_rdata_base.proofs.Addresses.{each_same}
use Rattle.dns_rdata_base.proofs.aaaa.AAAAPartialEq.eq.Goals as goal

pub returns : goal.returns
returns c =
    let l : length c.segments.result ≡ 8 = search rules in
    let m : length c.segments-2.result ≡ 8 = search rules in
    rw (← c.segments.ensures, ← c.segments-2.ensures) (each_same _ _ l m)
