use Rattle.dns_check.proofs.HeldLists.{EndsAt}
use Rattle.dns_view.proofs.ParameterOrder.{both_first, longer, shorter, both_done, heads_differ, bodies_differ, both_more}
use Rattle.dns_view.proofs.parameters.order.compare_parameters.Goals as goal

pub tlvs-init : goal.tlvs-init
tlvs-init c = both_first c.args.a.now c.args.b.now

pub returns-in-None : goal.returns-in-None
returns-in-None c =
    let e : EndsAt c.args.a.now c.tlvs.i c.in-Some.p = record { room = c.in-Some.ensures.some; is = c.in-Some.ensures.is } in
    longer c.tlvs.invariant e c.in-None.ensures.none

pub returns-in_default-octets_cmp : goal.returns-in_default-octets_cmp
returns-in_default-octets_cmp c =
    let e : EndsAt c.args.a.now c.tlvs.i c.in-Some.p = record { room = c.in-Some.ensures.some; is = c.in-Some.ensures.is } in
    let f : EndsAt c.args.b.now c.tlvs.j c.in-Some-end_of.q = record { room = c.in-Some-end_of.ensures.some; is = c.in-Some-end_of.ensures.is } in
    heads_differ c.tlvs.invariant e f c.head_of.ensures c.head_of-in-Some.ensures c.octets_cmp.ensures c.in_default-octets_cmp.not-Equal

pub returns-in_default-octets_cmp-2 : goal.returns-in_default-octets_cmp-2
returns-in_default-octets_cmp-2 c =
    let e : EndsAt c.args.a.now c.tlvs.i c.in-Some.p = record { room = c.in-Some.ensures.some; is = c.in-Some.ensures.is } in
    let f : EndsAt c.args.b.now c.tlvs.j c.in-Some-end_of.q = record { room = c.in-Some-end_of.ensures.some; is = c.in-Some-end_of.ensures.is } in
    bodies_differ c.tlvs.invariant e f c.head_of.ensures c.head_of-in-Some.ensures c.octets_cmp.ensures c.in-Equal.is c.body_of.ensures
    c.body_of-in-Some.ensures c.octets_cmp-in-Some.ensures c.in_default-octets_cmp-2.not-Equal

pub tlvs-preserved : goal.tlvs-preserved
tlvs-preserved c =
    let e : EndsAt c.args.a.now c.tlvs.i c.in-Some.p = record { room = c.in-Some.ensures.some; is = c.in-Some.ensures.is } in
    let f : EndsAt c.args.b.now c.tlvs.j c.in-Some-end_of.q = record { room = c.in-Some-end_of.ensures.some; is = c.in-Some-end_of.ensures.is } in
    both_more c.tlvs.invariant e f c.head_of.ensures c.head_of-in-Some.ensures c.octets_cmp.ensures c.in-Equal.is c.body_of.ensures c.body_of-in-Some.ensures
    c.octets_cmp-in-Some.ensures c.in-Equal-octets_cmp.is

pub returns-in-Some-end_of-2 : goal.returns-in-Some-end_of-2
returns-in-Some-end_of-2 c =
    let f : EndsAt c.args.b.now c.tlvs.j c.in-Some-end_of-2.field-0 =
    record { room = c.in-Some-end_of-2.ensures.some; is = c.in-Some-end_of-2.ensures.is } in
    shorter c.tlvs.invariant c.in_default.ensures.none f

pub returns-in-None-end_of : goal.returns-in-None-end_of
returns-in-None-end_of c = both_done c.tlvs.invariant c.in_default.ensures.none c.in-None-end_of.ensures.none
