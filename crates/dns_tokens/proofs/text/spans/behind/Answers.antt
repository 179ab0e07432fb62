use Rattle.std.proofs.Common.{◌≡◌, ℕ, ◌+◌, ◌-◌, ◌<◌, length, arith, subst}
use Rattle.std.specs.Str.{IsCharBoundary}
use Rattle.std.proofs.lemmas.Str.{IsCharBoundary-after_ascii}
use Rattle.dns_tokens.proofs.text.spans.behind.Goals as goal

pub range_from-requires : goal.range_from-requires
range_from-requires c = λ some.
    let within : c.args.n - 1 < length c.args.text.now = omega (arith, c.requires.within, c.requires.some) in
    let same : c.args.n - 1 + 1 ≡ c.args.n = omega (arith, c.requires.some) in
    subst (λ (k : ℕ). IsCharBoundary c.args.text.now k) same (IsCharBoundary-after_ascii c.args.text.now (c.args.n - 1) c.utf8.text within c.requires.ascii)
