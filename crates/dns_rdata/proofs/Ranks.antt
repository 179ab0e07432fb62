-- Of two variants the one that is declared later is the greater.
use Rattle.std.proofs.Common.{◌≡◌, refl, sym, true≢false}
use Rattle.std.specs.Ordering.{nat_cmp}
use Rattle.dns_rdata.specs.{declared.record_data.RData.RData, Order.rank, Order.variants_cmp, Order.Differ}
use Rattle.dns_rdata.specs.declared.record_data.RData.TheVariants as rdata

pub by_rank : (v w : RData) → Differ v w → nat_cmp (rank v) (rank w) ≡ variants_cmp v w
by_rank (rdata.A x) (rdata.A y) d = absurd (true≢false (sym d))
by_rank (rdata.AAAA x) (rdata.AAAA y) d = absurd (true≢false (sym d))
by_rank (rdata.ANAME x) (rdata.ANAME y) d = absurd (true≢false (sym d))
by_rank (rdata.CAA x) (rdata.CAA y) d = absurd (true≢false (sym d))
by_rank (rdata.CERT x) (rdata.CERT y) d = absurd (true≢false (sym d))
by_rank (rdata.CNAME x) (rdata.CNAME y) d = absurd (true≢false (sym d))
by_rank (rdata.CSYNC x) (rdata.CSYNC y) d = absurd (true≢false (sym d))
by_rank (rdata.HINFO x) (rdata.HINFO y) d = absurd (true≢false (sym d))
by_rank (rdata.HTTPS x) (rdata.HTTPS y) d = absurd (true≢false (sym d))
by_rank (rdata.MX x) (rdata.MX y) d = absurd (true≢false (sym d))
by_rank (rdata.NAPTR x) (rdata.NAPTR y) d = absurd (true≢false (sym d))
by_rank (rdata.NULL x) (rdata.NULL y) d = absurd (true≢false (sym d))
by_rank (rdata.NS x) (rdata.NS y) d = absurd (true≢false (sym d))
by_rank (rdata.OPENPGPKEY x) (rdata.OPENPGPKEY y) d = absurd (true≢false (sym d))
by_rank (rdata.OPT x) (rdata.OPT y) d = absurd (true≢false (sym d))
by_rank (rdata.PTR x) (rdata.PTR y) d = absurd (true≢false (sym d))
by_rank (rdata.SMIMEA x) (rdata.SMIMEA y) d = absurd (true≢false (sym d))
by_rank (rdata.SOA x) (rdata.SOA y) d = absurd (true≢false (sym d))
by_rank (rdata.SRV x) (rdata.SRV y) d = absurd (true≢false (sym d))
by_rank (rdata.SSHFP x) (rdata.SSHFP y) d = absurd (true≢false (sym d))
by_rank (rdata.SVCB x) (rdata.SVCB y) d = absurd (true≢false (sym d))
by_rank (rdata.TLSA x) (rdata.TLSA y) d = absurd (true≢false (sym d))
by_rank (rdata.TXT x) (rdata.TXT y) d = absurd (true≢false (sym d))
by_rank (rdata.Unknown a x) (rdata.Unknown b y) d = absurd (true≢false (sym d))
by_rank (rdata.Update0 t) (rdata.Update0 u) d = absurd (true≢false (sym d))
by_rank rdata.ZERO rdata.ZERO d = absurd (true≢false (sym d))
by_rank v w d = refl
