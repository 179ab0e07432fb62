use Rattle.std.proofs.Common.{refl, arith, inl, inr}
use Rattle.dns_message.proofs.record_ref.rdata_of.Goals as goal

pub returns-then-has_no_data-clause-found : goal.returns-then-has_no_data-clause-found
returns-then-has_no_data-clause-found c = c.has_no_data.ensures.0 c.if-has_no_data.true

pub returns-in-Ok-clause-found : goal.returns-in-Ok-clause-found
returns-in-Ok-clause-found c =
    (λ none. let t = c.has_no_data.ensures.1 none in let f = c.if-has_no_data.false in cc, rw c.from.ensures.0 at c.in-Ok.ensures.found)

pub returns-in-Err-clause-refused : goal.returns-in-Err-clause-refused
returns-in-Err-clause-refused c = record {
  some = λ none. let t = c.has_no_data.ensures.1 none in let f = c.if-has_no_data.false in cc;
  refused = rw c.from.ensures.0 at c.in-Err.ensures.refused;
}

pub returns-then-has_no_data-clause-steps : goal.returns-then-has_no_data-clause-steps
returns-then-has_no_data-clause-steps c = (0, inl (c.has_no_data.ensures.0 c.if-has_no_data.true, refl), omega arith)

pub returns-in-Ok-clause-steps : goal.returns-in-Ok-clause-steps
returns-in-Ok-clause-steps c =
    let l = rw c.from.ensures.0 at c.read_rdata.ensures.steps in
    (l.0, inr (λ none. let t = c.has_no_data.ensures.1 none in let f = c.if-has_no_data.false in cc, l.1), l.2)

pub returns-in-Err-clause-steps : goal.returns-in-Err-clause-steps
returns-in-Err-clause-steps c =
    let l = rw c.from.ensures.0 at c.read_rdata.ensures.steps in
    (l.0, inr (λ none. let t = c.has_no_data.ensures.1 none in let f = c.if-has_no_data.false in cc, l.1), l.2)
