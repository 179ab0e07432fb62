use Rattle.std.proofs.Common.{◌≡◌, ◌∙◌}
use Rattle.std.specs.Ordering.{nat_cmp}
use Rattle.dns_rdata.specs.Order.{rank}
use Rattle.dns_rdata.proofs.Ranks.{by_rank}
use Rattle.dns_rdata.proofs.record_data.RData.cmp_ranks.Goals as goal

pub returns : goal.returns
returns c =
    let a : c.rank.result ≡ rank c.args.self.now = c.rank.ensures in
    let b : c.rank-2.result ≡ rank c.args.other.now = c.rank-2.ensures in
    c.cmp.ensures ∙ (λ i. nat_cmp (a i) (b i)) ∙ by_rank c.args.self.now c.args.other.now c.requires
