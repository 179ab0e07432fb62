use Rattle.std.proofs.Common.{◌+◌, arith}
use Rattle.dns_message.specs.State.{Message}
use Rattle.dns_message.proofs.Starts.{begins_as, breaks_as, all_given}
use Rattle.dns_message.proofs.message.MessageRef.authorities.Goals as goal

pub returns-clause-begins : goal.returns-clause-begins
returns-clause-begins c =
    let m : Message = record { octets = c.self.inside.octets.now; limit = c.self.inside.limit } in
    let h = c.header_of-header in
    let b = c.records_between.ensures.begins in
    rw (← c.self.view_is) (begins_as m h.result (λ h. h.answer_count) (λ h. h.answer_count + h.authority_count) c.records_between.result h.ensures b)

pub returns-clause-all : goal.returns-clause-all
returns-clause-all c =
    let m = c.self.inside.octets.now in
    let h = c.header_of-header.result in
    all_given m (c.self.inside.limit + 1) h h.answer_count (h.answer_count + h.authority_count) c.records_between.result (omega arith) c.records_between.ensures.begins

pub returns-clause-damaged : goal.returns-clause-damaged
returns-clause-damaged c =
    let m : Message = record { octets = c.self.inside.octets.now; limit = c.self.inside.limit } in
    let h = c.header_of-header in
    rw (← c.self.view_is) (breaks_as m h.result (λ h. h.answer_count) c.records_between.result h.ensures c.records_between.ensures.damaged)
