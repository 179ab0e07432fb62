use Rattle.std.proofs.Common.{◌≡◌, ◌+◌, ◌/◌, ◌%◌, ◌<◌, ◌≤◌, ◌^◌, ◌++◌, ◌∷◌, ℕ, List, [], decimal, sym, ap, ◌∙◌, arith, append_assoc}
use Rattle.std.proofs.{Math.Facts.Fits-lt-pow, lemmas.Fmt.decimal_digit, lemmas.Fmt.decimal_step}
use Rattle.dns_rdata_base.proofs.a.Dotted.push_decimal.Goals as goal
use Rattle.dns_rdata_base.proofs.a.Dotted.push_decimal.Goals.{then-number-ge100, else-number-ge100}

-- a digit behind others
behind : (n : ℕ) (old : List ℕ) → 10 ≤ n → n < 256 → (old ++ decimal (n / 10)) ++ (48 + n % 10) ∷ [] ≡ old ++ decimal n
behind n old more few =
    append_assoc old (decimal (n / 10)) _ ∙ ap (λ t. old ++ t) (sym (decimal_step n more (omega arith)))

alone : (n : ℕ) (old : List ℕ) → n < 10 → old ++ (48 + n) ∷ [] ≡ old ++ decimal n
alone n old few = ap (λ t. old ++ t) (sym (decimal_digit n few))

pub returns-then-number-lt10-clause-text : goal.returns-then-number-lt10-clause-text
returns-then-number-lt10-clause-text c = c.push.ensures ∙ alone c.args.number c.args.self.now c.if-number-lt10.true

pub returns-clause-text : goal.returns-clause-text
returns-clause-text c =
    let n = c.args.number in
    let old = c.args.self.now in
    let few : n < 2 ^ 8 = Fits-lt-pow c.ranges.number in
    let before : c.if-number-ge100.self ≡ old ++ decimal (n / 10) = elim c.if-number-ge100.branch [
      | then-number-ge100 w ↦
          let hundreds : n / 100 ≡ n / 10 / 10 = omega arith in
          w.self-is ∙ w.push-then-number-ge100-2.ensures
          ∙ ap (λ t. t ++ (48 + n / 10 % 10) ∷ []) (w.push-then-number-ge100.ensures ∙ alone (n / 100) old (omega arith)
          ∙ ap (λ h. old ++ decimal h) hundreds)
          ∙ behind (n / 10) old (omega arith) (omega arith)
      | else-number-ge100 w ↦ w.self-is ∙ w.push-else-number-ge100.ensures ∙ alone (n / 10) old (omega arith)
    ] in
    c.push-2.ensures ∙ ap (λ t. t ++ (48 + n % 10) ∷ []) before ∙ behind n old c.if-number-lt10.false (omega arith)
