use Rattle.std.specs.Cow.{cow_str_bytes}
use Rattle.std.proofs.Common.{arith, ◌≡◌, ◌∙◌, ap, sym, true, false, get_or}
use Rattle.dns_tokens.specs.Octets.{is_gap}
use Rattle.std.proofs.{lemmas.List.append-nil, lemmas.Result.err_from_is_err_and}
use Rattle.dns_tokens.proofs.{TokenSteps.skips_one, Firsts.pushed, Firsts.first_both, Firsts.first_refused}
use Rattle.dns_tokens.proofs.WordSteps.{words_gap, words_remark, words_quoted, words_run, run_here, no_words_quoted}
use Rattle.dns_tokens.proofs.text.lexer.read_words.Goals as goal

pub words-preserved-then-is_gap : goal.words-preserved-then-is_gap
words-preserved-then-is_gap c =
    let gap : is_gap (get_or c.words.rest.now 0 0) ≡ true = ap is_gap (sym c.octet-first.ensures) ∙ sym c.is_gap.ensures ∙ c.if-is_gap.true in
    let step = first_both c.words.invariant.0 (words_gap (omega arith) gap c.behind-rest.ensures) in
    (rw append-nil at step, c.behind-rest.utf8)

pub words-preserved-then-first-eq59 : goal.words-preserved-then-first-eq59
words-preserved-then-first-eq59 c =
    let step = first_both c.words.invariant.0 (words_remark (skips_one (omega arith)
    (omega arith) c.behind-then-first-eq59.ensures c.split.ensures.span)) in
    (rw append-nil at step, c.split.ensures.utf8)

pub returns-in_err-word-clause-refused : goal.returns-in_err-word-clause-refused
returns-in_err-word-clause-refused c =
    let p = err_from_is_err_and c.from_residual.result c.from_residual.ensures.1 in
    rw (p.1, p.2) (λ h. first_refused c.words.invariant.0 (no_words_quoted (omega arith) (omega arith) c.behind-then-first-eq34.ensures
    (c.in_err-word.ensures.refused h)))

pub words-preserved-then-first-eq34 : goal.words-preserved-then-first-eq34
words-preserved-then-first-eq34 c =
    let step = first_both c.words.invariant.0 (words_quoted (omega arith) (omega arith) c.behind-then-first-eq34.ensures c.in_ok-word.ensures.ok) in
    (rw (pushed cow_str_bytes c.words.words.items c.push.new.self.items _ c.in_ok-push.ensures.items) step, c.in_ok-word.ensures.utf8)

pub words-preserved : goal.words-preserved
words-preserved c =
    let no : is_gap (get_or c.words.rest.now 0 0) ≡ false = ap is_gap (sym c.octet-first.ensures) ∙ sym c.is_gap.ensures ∙ c.if-is_gap.false in
    let step = first_both c.words.invariant.0 (words_run (run_here c.split-else-first-eq34.ensures.span (omega arith) no (omega arith)
    (omega arith) (omega arith) (omega arith))) in
    (rw (pushed cow_str_bytes c.words.words.items c.push-else-first-eq34.new.self.items _ c.in_ok-push-2.ensures.items) step, c.split-else-first-eq34.ensures.utf8)
