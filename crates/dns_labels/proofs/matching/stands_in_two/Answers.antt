use Rattle.std.proofs.{Common.ap, Common.ℕ, Common.take, Common.drop, Common.arith, lemmas.Bool.OnTrue_at, lemmas.Bool.OnTrue_from, lemmas.List.take_rest}
use Rattle.dns_labels.specs.Emission.{StandsFor}
use Rattle.dns_labels.proofs.Tails.{stands_two}
use Rattle.dns_labels.proofs.matching.stands_in_two.Goals as goal

pub returns : goal.returns
returns c =
    let m = c.args.message.now in
    let o = c.args.octets.now in
    let k = OnTrue_at c.if-not-is_cut.false c.is_cut.ensures in
    OnTrue_from c.stands_whole.result (StandsFor m c.args.offset o) (λ h.
    stands_two m o c.args.offset c.args.front _ _ k c.requires.short (λ i. omega (arith, c.type_inv.message i)) (omega arith)
    (ap (λ (n : ℕ). take n (drop c.args.offset m)) (omega arith)) (ap (λ (n : ℕ). take n o) (omega arith))
    (c.same_labels.ensures.0 c.if-not-same_labels.false) (omega arith) (omega arith)
    (rw (take_rest o c.args.front) at (OnTrue_at h c.stands_whole.ensures)))
