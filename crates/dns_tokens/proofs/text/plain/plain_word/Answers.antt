use Rattle.std.proofs.Common.{arith, ◌∙◌, inl, inr}
use Rattle.dns_tokens.proofs.PlainSteps.{run_word, none_empty, none_list, none_at}
use Rattle.dns_tokens.proofs.text.plain.plain_word.Goals.{then-word-eq0-via-then-word-eq0, then-word-eq0-via-else-word-eq0+then-first-eq40, then-word-eq0-via-else-word-eq0+else-first-eq40+then-first-eq64}
use Rattle.dns_tokens.proofs.text.plain.plain_word.Goals as goal

pub returns-then-word-eq0-clause-none : goal.returns-then-word-eq0-clause-none
returns-then-word-eq0-clause-none c = elim c.then-word-eq0.branch [
  | then-word-eq0-via-then-word-eq0 w ↦ none_empty c.split.ensures.span (omega arith) (omega arith)
  | then-word-eq0-via-else-word-eq0+then-first-eq40 w ↦ none_list (omega arith)
  | then-word-eq0-via-else-word-eq0+else-first-eq40+then-first-eq64 w ↦ none_at c.split.ensures.span (omega arith) (omega arith)
]

pub returns-clause-word : goal.returns-clause-word
returns-clause-word c = run_word c.split.ensures.span (omega arith) (omega arith) (omega arith) (λ one at.
    elim c.if-first-eq64.either [ inl w ↦ w.1 (c.octet-first.ensures ∙ at) | inr w ↦ w one ])
