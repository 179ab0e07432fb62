use Rattle.dns_message.proofs.Starts.{resumes_as, no_resume_as, rest_given}
use Rattle.dns_message.proofs.message.MessageRef.resume.Goals as goal

pub returns-clause-some : goal.returns-clause-some
returns-clause-some c =
    let m = c.self.inside.octets.now in
    let h = c.header_of-header in
    let s = resumes_as m h.result c.args.progress c.resume_at.result h.ensures c.resume_at.ensures.some in
    rw (← c.self.view_is) s

pub returns-clause-none : goal.returns-clause-none
returns-clause-none c =
    let m = c.self.inside.octets.now in
    let h = c.header_of-header in
    let s = no_resume_as m h.result c.args.progress c.resume_at.result h.ensures c.resume_at.ensures.none in
    rw (← c.self.view_is) s

pub returns-clause-all : goal.returns-clause-all
returns-clause-all c =
    rest_given c.self.inside.octets.now c.header_of-header.result c.args.progress c.resume_at.result c.resume_at.ensures.some
