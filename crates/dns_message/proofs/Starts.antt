-- Walks that begin in a message with its header.
use Rattle.std.proofs.Common.{ℕ, ◌+◌, ◌≤◌, List, Result, Option, Some, None, Ok, Err, ap, arith}
use Rattle.std.specs.{Result.IfOk, Result.IfErr, Option.IfSome, Option.IfNone, Iterator.Drains}
use Rattle.dns_message.specs.declared.{header.Header.Header, error.RecordError.RecordError, progress.Progress.Progress}
use Rattle.dns_message.specs.{State.Message, State.Walking, Headers.IsHeader, Items.Item, Walks.NextRecord, Walks.WalkGives}
use Rattle.dns_message.specs.Starts.{BeginsAt, Begins, Breaks, BreaksIn, ResumesAt, Resumes, NoResumeAt, NoResume}
use Rattle.dns_message.proofs.Walks.{walk_drains}

pub begins_as : (m : Message) (h : Header) (from until : Header → ℕ) (r : Result Walking RecordError) → IsHeader m.octets h
    → IfOk r (BeginsAt m.octets (m.limit + 1) h (from h) (until h)) → IfOk r (Begins m from until)
begins_as m h from until (Ok s) is b = record { header = h; is = is; at = b }
begins_as m h from until (Err e) is b = tt

pub breaks_as : (m : Message) (h : Header) (count : Header → ℕ) (r : Result Walking RecordError) → IsHeader m.octets h
    → IfErr r (Breaks m.octets h (count h) (m.limit + 1))
    → IfErr r (BreaksIn m count)
breaks_as m h count (Ok s) is b = tt
breaks_as m h count (Err e) is b = record { header = h; is = is; breaks = b }

pub all_given : (m : List ℕ) (left : ℕ) (h : Header) (from until : ℕ) (r : Result Walking RecordError) → from ≤ until
    → IfOk r (BeginsAt m left h from until)
    → IfOk r (λ s. (xs : List Item) → Drains NextRecord s xs → WalkGives s xs)
all_given m left h from until (Ok s) order b = let passed = b.passed in let ends = b.ends in walk_drains s (omega arith)
all_given m left h from until (Err e) order b = tt

-- ---- a walk that goes on

pub resumes_as : (m : List ℕ) (h : Header) (p : Progress) (r : Option Walking) → IsHeader m h → IfSome r (ResumesAt m h p) → IfSome r (Resumes m p)
resumes_as m h p (Some s) is a = record { header = h; is = is; at = a }
resumes_as m h p None is a = tt

pub no_resume_as : (m : List ℕ) (h : Header) (p : Progress) (r : Option Walking) → IsHeader m h → IfNone r (NoResumeAt m h p) → IfNone r (NoResume m p)
no_resume_as m h p (Some s) is a = tt
no_resume_as m h p None is a = record { header = h; is = is; why = a }

pub rest_given : (m : List ℕ) (h : Header) (p : Progress) (r : Option Walking) → IfSome r (ResumesAt m h p)
    → IfSome r (λ s. p.passed ≤ p.until → (xs : List Item) → Drains NextRecord s xs → WalkGives s xs)
rest_given m h p (Some s) a = λ order.
    let passed = ap (λ (t : Walking). t.passed) a.state in
    let until = ap (λ (t : Walking). t.until) a.state in
    walk_drains s (omega (arith, passed, until))
rest_given m h p None a = tt
