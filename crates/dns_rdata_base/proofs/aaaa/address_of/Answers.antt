use Rattle.std.proofs.{Common.◌<◌, Common.◌^◌, Common.get_or, Math.Facts.Fits-lt-pow}
use Rattle.dns_rdata_base.proofs.Addresses.{octets_of-segments_of}
use Rattle.dns_rdata_base.proofs.aaaa.address_of.Goals as goal

pub returns : goal.returns
returns c =
    let h = octets_of-segments_of 8 c.args.octets.now c.requires (λ i. let h : get_or c.args.octets.now i 0 < 2 ^ 8 = Fits-lt-pow (c.type_inv.octets i) in h) in
    let e = c.in-Some.ensures.cases.same in
    let f = c.from.ensures in
    rw (f, e) h
