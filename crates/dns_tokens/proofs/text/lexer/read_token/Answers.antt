use Rattle.std.proofs.Common.{arith, ◌≡◌, ◌∙◌, ap, sym, false, ℕ, inl, inr}
use Rattle.dns_tokens.specs.{Octets.is_gap, Octets.is_blank, Octets.is_line_end, Tokens.Run}
use Rattle.std.proofs.lemmas.Bool.Decides.{nat_tests}
use Rattle.dns_tokens.proofs.{WordSteps.run_here, text.lexer.read_token.Goals.After-split-2}
use Rattle.dns_tokens.proofs.FirstSteps.{token_behind, none_left, no_comment, at_here, other_word}
use Rattle.dns_tokens.proofs.text.lexer.read_token.Goals as goal

no_gap : (c : ℕ) → is_blank c ≡ false → is_line_end c ≡ false → is_gap c ≡ false
no_gap c a b = grind (arith, nat_tests)

pub returns-then-text-eq0-clause-ok : goal.returns-then-text-eq0-clause-ok
returns-then-text-eq0-clause-ok c = none_left c.args.text.now c.skip_comment-text.result.now c.skip_comment-text.ensures (omega arith)

-- what is neither a blank nor a line end, no `;`, `)`, `(` or `"` begins a run
word_here : (c : After-split-2) → Run c.split-2.result.0.now c.skip_comment-text.result.now c.split-2.result.1.now
word_here c = run_here c.split-2.ensures.span (omega arith)
    (ap is_gap (sym c.octet-first.ensures) ∙ no_gap c.octet-first.result (sym c.is_blank.ensures ∙ c.if-is_blank.false)
    (sym c.is_line_end.ensures ∙ c.if-is_line_end.false))
    (omega arith) (no_comment c.skip_comment-text.ensures (omega arith)) (omega arith) (omega arith)

pub returns-then-first-eq64-clause-ok : goal.returns-then-first-eq64-clause-ok
returns-then-first-eq64-clause-ok c = token_behind c.skip_comment-text.ensures
    (at_here (word_here (goal.at.returns-then-first-eq64-clause-ok c).After-split-2) (omega arith) (omega arith))

pub returns-clause-ok : goal.returns-clause-ok
returns-clause-ok c = token_behind c.skip_comment-text.ensures (other_word (word_here (goal.at.returns-clause-ok c).After-split-2)
    (λ one sign. elim c.else-word-eq1.either [ inl w ↦ w.1 (c.octet-first.ensures ∙ sign) | inr w ↦ w one ]))
