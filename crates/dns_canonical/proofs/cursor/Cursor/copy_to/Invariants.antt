use Rattle.std.proofs.Common.{◌≡◌, ◌≤◌, ◌+◌, ◌-◌, ◌*◌, ◌++◌, length}
use Rattle.std.specs.Option.{option_copied}
use Rattle.dns_canonical.specs.{Cursor.course_of, Runs.HasCopied}
use Rattle.dns_canonical.proofs.cursor.Cursor.copy_to.Given as goal

abbrev pub decreases-steps : goal.decreases-steps
decreases-steps g l = let s = l.self-inside in 8 - s.step + length ((course_of g.T.Stepped.course (option_copied s.data)).left s.step s.part s.item)

-- what was copied and what is left was left, and what was counted is as it would be octet by octet
abbrev pub invariant-steps : goal.invariant-steps
invariant-steps g l =
    let s = l.self-inside in let z = l.initial.self-inside in
    let w = course_of g.T.Stepped.course (option_copied s.data) in
    let v = course_of g.T.Stepped.course (option_copied z.data) in record {
      at : w.at s.step s.part s.item;
      kept : w.keeps s.step s.part s.kept;
      few : s.step ≤ 8;
      same : w.all_options ≡ v.all_options;
      copied : HasCopied l.filled (z.run ++ v.left z.step z.part z.item) (s.run ++ w.left s.step s.part s.item) l.initial.buffer l.buffer;
      taken : s.taken.n ≡ z.taken.n + l.filled;
      passes : z.passes.n + v.windows z.step z.part ≡ s.passes.n + w.windows s.step s.part;
      more : z.choices.n ≤ s.choices.n;
      chosen : s.choices.n + 2 * v.all_options * w.options s.step s.part s.item ≤ z.choices.n + 2 * v.all_options * v.options z.step z.part z.item;
    }
