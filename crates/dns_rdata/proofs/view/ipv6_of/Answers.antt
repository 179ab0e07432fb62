use Rattle.std.proofs.Common.{◌≡◌, List, ℕ, Some, ap, ◌∙◌}
use Rattle.std.specs.declared.net.ip_addr.IpAddr.TheVariants.{V6}
use Rattle.std.specs.Net.Addr.{segments_of}
use Rattle.dns_rdata_base.proofs.Addresses.{segments_of-octets_of}
use Rattle.dns_rdata.proofs.view.ipv6_of.Goals as goal

pub returns-in-Some : goal.returns-in-Some
returns-in-Some c = λ a l e.
    let same : c.from.result.segments ≡ a.segments =
    c.from.ensures ∙ ap segments_of (c.in-Some.ensures.cases.same ∙ e) ∙ segments_of-octets_of a.segments in
    ap (λ (s : List ℕ). Some (V6 (record { segments = s }))) same
