use Rattle.dns_types.proofs.FieldNames.{no_field, names_field}
use Rattle.dns_types.proofs.error.field_in.Goals as goal

pub returns-in_err-name-clause-none : goal.returns-in_err-name-clause-none
returns-in_err-name-clause-none c =
    rw c.from_residual-in_err-name.ensures (no_field c.args.text.now c.in_ok-front.front.now c.in_ok-front.ensures.cases c.in_err-name.ensures.cases)

pub returns-clause-some : goal.returns-clause-some
returns-clause-some c =
    names_field c.args.text.now c.in_ok-front.front.now c.in_ok-name.field-0-0.now c.in_ok-name.name.now c.in_ok-front.ensures.cases c.in_ok-name.ensures.cases
