use Rattle.std.proofs.Common.{◌/◌, ◌^◌, ◌-◌, sym, ◌∙◌, bit_and, eqb-true, eq-eqb}
use Rattle.std.proofs.lemmas.Nat.Bits.{shr_and_one}
use Rattle.dns_view.proofs.bitmap.types.is_set.Goals as goal

pub returns : goal.returns
returns c =
    let bit = bit_and (c.args.octet / 2 ^ (7 - c.args.bit)) 1 in
    let same = shr_and_one c.args.octet (7 - c.args.bit) in
    (λ e. sym same ∙ eqb-true bit 1 e, λ set. eq-eqb bit 1 (same ∙ set))
