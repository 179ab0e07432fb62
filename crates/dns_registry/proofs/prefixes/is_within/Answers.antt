use Rattle.std.proofs.Common.{arith, refl, suc, ◌-◌, ◌≡◌, length}
use Rattle.dns_registry.proofs.ShortestBitmaps.{last_bit}
use Rattle.dns_registry.proofs.prefixes.is_within.Goals as goal

pub returns-then-part-eq0-2 : goal.returns-then-part-eq0-2
returns-then-part-eq0-2 c =
    let part = c.args.part.now in
    let size : length part ≡ suc (length part - 1) = omega (arith, c.if-part-eq0.false) in
    (λ e. absurd cc, λ h. absurd ((last_bit part (length part - 1) size).0 (h.trimmed (omega (arith, c.if-part-eq0.false))) c.if-part-eq0-2.true))

pub returns : goal.returns
returns c =
    let part = c.args.part.now in
    let size : length part ≡ suc (length part - 1) = omega (arith, c.if-part-eq0.false) in (
      λ e. record {
        few_bits = omega (arith, c.if-prefix-bits.false);
        few_octets = omega (arith, c.if-part-size.false);
        trimmed = λ l. (last_bit part (length part - 1) size).1 c.if-part-eq0-2.false;
      },
      λ h. refl,
    )
