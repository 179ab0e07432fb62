use Rattle.std.proofs.Common.{refl, arith, inl, inr}
use Rattle.dns_message.proofs.Asks.{left_as}
use Rattle.dns_message.proofs.question.QuestionsIterator.next.Goals as goal

pub returns-then-passed-self-clause-steps : goal.returns-then-passed-self-clause-steps
returns-then-passed-self-clause-steps c = rw (← c.self.view_is) (record { is = (omega arith, refl) })

pub returns-in-Ok-clause-steps : goal.returns-in-Ok-clause-steps
returns-in-Ok-clause-steps c =
    rw (← c.self.view_is) (record {
      is = inl (record {
        question = c.question_at.result;
        given = refl;
        left = omega arith;
        is = c.question_at.ensures;
        steps = c.in-Ok.ensures.within.0;
        followed = c.in-Ok.ensures.within.1;
        within = c.in-Ok.ensures.within.2;
        after = left_as c.in-Ok.ensures.within.3;
      });
    })

pub returns-in-Ok-clause-goes : goal.returns-in-Ok-clause-goes
returns-in-Ok-clause-goes c = rw (← c.self.view_is) (record { on = λ _. (tt, tt, omega arith); keeps = tt; rests = λ _. tt })

pub returns-in-Err-clause-steps : goal.returns-in-Err-clause-steps
returns-in-Err-clause-steps c =
    rw (← c.self.view_is) (record {
      is = inr (record {
        error = _;
        given = refl;
        left = omega arith;
        why = record { section = refl; index = refl; offset = refl; why = c.in-Err.ensures.stopped };
        after = refl;
      });
    })

pub returns-in-Err-clause-goes : goal.returns-in-Err-clause-goes
returns-in-Err-clause-goes c = rw (← c.self.view_is) (record { on = λ _. (tt, tt, omega arith); keeps = tt; rests = λ _. tt })
