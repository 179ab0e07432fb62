use Rattle.std.proofs.Common.{◌≡◌, List, ℕ, [], ◌∷◌, ◌++◌, length, ap, ◌∙◌, sym, subst, arith}
use Rattle.dns_zone_tokens.specs.{NameSteps.ReadSoFar, NameTokens.LabelsFault, Letters.octet_of, Views.letter_value}
use Rattle.dns_zone_tokens.proofs.{FirstSteps.exit_fault, NamePuts.if_ok, NamePuts.if_err}
use Rattle.dns_zone_tokens.proofs.NameLabels.{read_dot, read_octet, no_close, no_escape, no_room, at_end}
use Rattle.dns_zone_tokens.proofs.names.read_letters.Goals as goal

pub returns-in_err-letter-clause-refused : goal.returns-in_err-letter-clause-refused
returns-in_err-letter-clause-refused c =
    exit_fault (λ e. (text : List ℕ) → ReadSoFar text c.args.rest.now c.args.wire.now.items [] → LabelsFault c.args.field.now text e) c.from_residual.result _
    c.from_residual.ensures.1
    (λ text so. subst (λ e. LabelsFault c.args.field.now text e) (sym c.in_err-letter.ensures.why)
    (no_escape c.args.field.now text c.letters.letters c.letters.wire.items c.letters.label.items (c.letters.invariant.so text so) (omega arith)
    c.in_err-letter.ensures.nothing))

pub returns-in_err-close_label-in-Some-clause-refused : goal.returns-in_err-close_label-in-Some-clause-refused
returns-in_err-close_label-in-Some-clause-refused c =
    exit_fault (λ e. (text : List ℕ) → ReadSoFar text c.args.rest.now c.args.wire.now.items [] → LabelsFault c.args.field.now text e)
    c.from_residual-in_err-close_label-in-Some.result _ c.from_residual-in_err-close_label-in-Some.ensures.1
    (λ text so. no_close c.args.field.now text c.letters.letters c.next_letter.new.self c.letters.wire.items c.letters.label.items (letter_value c.in-Some.letter) _
    (c.letters.invariant.so text so) (rw c.in-Some.is at c.in_ok-letter.ensures.letter) (sym c.is_plain.ensures ∙ c.if-is_plain.true)
    (rw c.as_slice.ensures.value at c.in_err-close_label-in-Some.ensures.refused))

pub letters-preserved-then-is_plain : goal.letters-preserved-then-is_plain
letters-preserved-then-is_plain c = rw c.clear.ensures (record {
  so = λ text so. read_dot text c.letters.letters c.next_letter.new.self c.letters.wire.items c.letters.label.items
      c.close_label.new.wire.items (letter_value c.in-Some.letter) (c.letters.invariant.so text so) (rw c.in-Some.is at c.in_ok-letter.ensures.letter)
      (sym c.is_plain.ensures ∙ c.if-is_plain.true) (rw c.as_slice.ensures.value at c.in_ok-close_label-in-Some.ensures.label)
      (rw c.as_slice.ensures.value at c.in_ok-close_label-in-Some.ensures.fits) (rw c.as_slice.ensures.value at c.in_ok-close_label-in-Some.ensures.put);
  few = omega arith;
})

pub letters-preserved : goal.letters-preserved
letters-preserved c = record {
  so = λ text so.
      let label = c.letters.label.items in
      let put : c.push.new.self.items ≡ label ++ octet_of (letter_value c.in-Some.letter) ∷ [] =
      c.push.ensures.items ∙ ap (λ (o : ℕ). label ++ o ∷ []) c.octet.ensures in
      subst (ReadSoFar text c.next_letter.new.self c.letters.wire.items) (sym put)
      (read_octet text c.letters.letters c.next_letter.new.self c.letters.wire.items label (letter_value c.in-Some.letter) (c.letters.invariant.so text so)
      (rw c.in-Some.is at c.in_ok-letter.ensures.letter) (sym c.is_plain.ensures ∙ c.if-is_plain.false));
  few = omega (arith, c.push.ensures.len, c.len.ensures.value, c.letters.invariant.few, c.if-len-eq63.false);
}

pub returns-then-len-eq63-clause-refused : goal.returns-then-len-eq63-clause-refused
returns-then-len-eq63-clause-refused c = λ text so.
    no_room c.args.field.now text c.letters.letters c.next_letter.new.self c.letters.wire.items c.letters.label.items
    (letter_value c.in-Some.letter) (c.letters.invariant.so text so) (rw c.in-Some.is at c.in_ok-letter.ensures.letter) (sym c.is_plain.ensures ∙ c.if-is_plain.false)
    (omega (arith, c.len.ensures.value))

pub returns-in-None-clause-ok : goal.returns-in-None-clause-ok
returns-in-None-clause-ok c = if_ok _ _ c.last_label.result
    (λ mark read text so. read text (at_end text c.letters.letters c.letters.wire.items c.letters.label.items (c.letters.invariant.so text so)
    (ap length (rw c.in-None.is at c.in_ok-letter.ensures.end))))
    (rw c.as_slice-in-None.ensures.value at c.last_label.ensures.ok)

pub returns-in-None-clause-refused : goal.returns-in-None-clause-refused
returns-in-None-clause-refused c = if_err _ _ c.last_label.result
    (λ e fault text so. fault text (at_end text c.letters.letters c.letters.wire.items c.letters.label.items (c.letters.invariant.so text so)
    (ap length (rw c.in-None.is at c.in_ok-letter.ensures.end))))
    (rw c.as_slice-in-None.ensures.value at c.last_label.ensures.refused)
