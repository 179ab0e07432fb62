use Rattle.std.proofs.Common.{◌≡◌, ap, arith, nat_eq, subst}
use Rattle.std.proofs.{lemmas.Bool.OnTrue_from, lemmas.Bool.eqb-true}
use Rattle.dns_types.specs.RecordTypes.{record_type_of}
use Rattle.dns_types.specs.declared.record_type.RecordType.TheVariants as types
use Rattle.dns_fields.specs.Octets.{AreOctets}
use Rattle.dns_names_wire.specs.State.{Reading}
use Rattle.dns_message.specs.Passing.{PassesRData}
use Rattle.dns_message.proofs.CommonRows.{octets_there, pair_there, content_there, name_content}
use Rattle.dns_message.proofs.common.has_common_rdata.Goals as goal

pub returns-in-1-clause-there : goal.returns-in-1-clause-there
returns-in-1-clause-there c =
    let f = c.args.fields.now in
    let left = c.args.left.now in
    let octets = subst AreOctets (ap (λ (r : Reading). r.message) c.at.ensures) c.index-start.ensures.octets in
    OnTrue_from (nat_eq f.rdlength 4) (PassesRData c.args.message.now f left left) (λ h.
    let n : f.rdlength ≡ 4 = eqb-true f.rdlength 4 h in
    content_there types.A (ap record_type_of c.in-1.is) (λ never. never) (omega (arith, n))
    (rw n (octets_there 1 left octets (omega arith) (omega (arith, c.requires, n)))))

pub returns-in-28-clause-there : goal.returns-in-28-clause-there
returns-in-28-clause-there c =
    let f = c.args.fields.now in
    let left = c.args.left.now in
    let octets = subst AreOctets (ap (λ (r : Reading). r.message) c.at.ensures) c.index-start.ensures.octets in
    OnTrue_from (nat_eq f.rdlength 16) (PassesRData c.args.message.now f left left) (λ h.
    let n : f.rdlength ≡ 16 = eqb-true f.rdlength 16 h in
    content_there types.AAAA (ap record_type_of c.in-28.is) (λ never. never) (omega (arith, n))
    (rw n (octets_there 2 left octets (omega arith) (omega (arith, c.requires, n)))))

pub returns-in-2-clause-there : goal.returns-in-2-clause-there
returns-in-2-clause-there c =
    let octets = subst AreOctets (ap (λ (r : Reading). r.message) c.at.ensures) c.index-start.ensures.octets in
    OnTrue_from c.is_name_near.result (PassesRData c.args.message.now c.args.fields.now c.args.left.now c.is_name_near.new.left) (λ h.
    name_content c.in-2.is octets (omega arith) c.requires (omega arith) (c.is_name_near.ensures.name h)
    (c.is_name_near.ensures.steps h))

pub returns-in-15-clause-there : goal.returns-in-15-clause-there
returns-in-15-clause-there c =
    let octets = subst AreOctets (ap (λ (r : Reading). r.message) c.at.ensures) c.index-start.ensures.octets in
    OnTrue_from c.is_name_near-in-15.result (PassesRData c.args.message.now c.args.fields.now c.args.left.now c.is_name_near-in-15.new.left) (λ h.
    content_there types.MX (ap record_type_of c.in-15.is) (λ never. never) (omega arith)
    (pair_there octets (omega arith) (omega arith) c.requires (c.is_name_near-in-15.ensures.name h)
    (c.is_name_near-in-15.ensures.steps h)))
