use Rattle.std.proofs.Common.{◌+◌, refl, arith, inl, inr}
use Rattle.dns_message.proofs.Follow.{breaks_after}
use Rattle.dns_message.proofs.records.records_between.Goals as goal

pub returns-in-Err-clause-damaged : goal.returns-in-Err-clause-damaged
returns-in-Err-clause-damaged c = inl c.in-Err.ensures.damaged

pub returns-in-Ok-skip_records-clause-begins : goal.returns-in-Ok-skip_records-clause-begins
returns-in-Ok-skip_records-clause-begins c =
    let a = c.in-Ok.ensures.found in
    let f = c.in-Ok-skip_records.ensures.found in
    record {
      message = refl;
      header = refl;
      passed = refl;
      ends = refl;
      steps = a.steps + f.steps;
      precede = record {
        first = c.in-Ok.first;
        of_questions = a.steps;
        asked = a.before;
        of_records = f.steps;
        found = f.between;
        sum = refl;
      };
      within = omega (arith, a.within, a.after_is, f.within);
      left_is = omega (arith, a.after_is, f.after_is);
    }

pub returns-in-Err-skip_records-clause-damaged : goal.returns-in-Err-skip_records-clause-damaged
returns-in-Err-skip_records-clause-damaged c = inr (breaks_after c.in-Ok.ensures.found c.in-Err-skip_records.ensures.damaged)
