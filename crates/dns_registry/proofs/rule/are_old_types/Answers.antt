use Rattle.std.proofs.Common.{arith, refl, suc, ◌-◌, ◌≡◌, length}
use Rattle.dns_registry.proofs.ShortestBitmaps.{last_bit}
use Rattle.dns_registry.proofs.rule.are_old_types.Goals as goal

pub returns-then-octets-eq0 : goal.returns-then-octets-eq0
returns-then-octets-eq0 c =
    let octets = c.args.octets.now in
    let size : length octets ≡ suc (length octets - 1) = omega (arith, c.if-octets-lt1.false) in
    (λ e. absurd cc, λ s. absurd ((last_bit octets (length octets - 1) size).0 s.ends c.if-octets-eq0.true))

pub returns : goal.returns
returns c =
    let octets = c.args.octets.now in
    let size : length octets ≡ suc (length octets - 1) = omega (arith, c.if-octets-lt1.false) in (
      λ e. record {
        some = omega (arith, c.if-octets-lt1.false);
        most = omega (arith, c.if-octets-gt16.false);
        first = omega (arith, c.if-octets-ge128.false);
        ends = (last_bit octets (length octets - 1) size).1 c.if-octets-eq0.false;
      },
      λ s. refl,
    )
