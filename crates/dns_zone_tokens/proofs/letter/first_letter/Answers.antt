use Rattle.std.proofs.Common.{inl, inr, refl, arith}
use Rattle.dns_zone_tokens.proofs.LetterSteps.{plain_first, kept_first, number_first, none_short, none_digit, none_number}
use Rattle.dns_zone_tokens.proofs.letter.first_letter.Goals.{then-second-lt48-via-then-second-lt48, then-second-lt48-via-else-second-lt48+then-second-gt57}
use Rattle.dns_zone_tokens.proofs.letter.first_letter.Goals.{then-third-lt48-via-then-third-lt48, then-third-lt48-via-else-third-lt48+then-third-gt57}
use Rattle.dns_zone_tokens.proofs.letter.first_letter.Goals.{then-third-lt48-via-else-third-lt48+else-third-gt57+then-fourth-lt48}
use Rattle.dns_zone_tokens.proofs.letter.first_letter.Goals.{then-third-lt48-via-else-third-lt48+else-third-gt57+else-fourth-lt48+then-fourth-gt57}
use Rattle.dns_zone_tokens.proofs.letter.first_letter.Goals as goal

pub returns-then-first-ne92-clause-some : goal.returns-then-first-ne92-clause-some
returns-then-first-ne92-clause-some c = plain_first c.args.text.now c.requires c.if-first-ne92.true

pub returns-then-second-lt48-clause-some : goal.returns-then-second-lt48-clause-some
returns-then-second-lt48-clause-some c = kept_first c.args.text.now (omega arith) (omega arith) (elim c.then-second-lt48.branch [
  | then-second-lt48-via-then-second-lt48 w ↦ inl w.if-second-lt48.true
  | then-second-lt48-via-else-second-lt48+then-second-gt57 w ↦ inr w.if-second-gt57.true
])

pub returns-then-text-lt4-clause-nothing : goal.returns-then-text-lt4-clause-nothing
returns-then-text-lt4-clause-nothing c =
    none_short c.args.text.now (omega arith) (omega arith) (omega arith) (omega arith) (omega arith)

pub returns-then-third-lt48-clause-nothing : goal.returns-then-third-lt48-clause-nothing
returns-then-third-lt48-clause-nothing c =
    none_digit c.args.text.now (omega arith) (omega arith) (omega arith) (omega arith) (elim c.then-third-lt48.branch [
      | then-third-lt48-via-then-third-lt48 w ↦ inl (inl w.if-third-lt48.true)
      | then-third-lt48-via-else-third-lt48+then-third-gt57 w ↦ inl (inr w.if-third-gt57.true)
      | then-third-lt48-via-else-third-lt48+else-third-gt57+then-fourth-lt48 w ↦ inr (inl w.if-fourth-lt48.true)
      | then-third-lt48-via-else-third-lt48+else-third-gt57+else-fourth-lt48+then-fourth-gt57 w ↦ inr (inr w.if-fourth-gt57.true)
    ])

pub returns-then-value-gt255-clause-nothing : goal.returns-then-value-gt255-clause-nothing
returns-then-value-gt255-clause-nothing c =
    none_number c.args.text.now (omega arith) (omega arith) (omega arith) (omega arith) (omega arith) (omega arith) (omega arith)

pub returns-clause-some : goal.returns-clause-some
returns-clause-some c = number_first c.args.text.now _ (omega arith) (omega arith) (omega arith) (omega arith) (omega arith) (omega arith) (omega arith)
    (omega arith) refl (omega arith)
