use Rattle.std.proofs.lemmas.Result.{err_from_is_err_and}
use Rattle.dns_names_wire.proofs.FieldReads.{refused_then, refused_first}
use Rattle.dns_rdata_base.proofs.soa.SOADecodesFields.read_fields.Goals as goal

pub returns-in_err-rname-clause-fields : goal.returns-in_err-rname-clause-fields
returns-in_err-rname-clause-fields c =
    let p = err_from_is_err_and c.from_residual-in_err-rname.result c.from_residual-in_err-rname.ensures.1 in
    rw (p.1, p.2) (refused_then c.in_ok-mname.ensures.field tt (refused_first c.in_err-rname.ensures.field))

pub returns-in_err-serial-clause-fields : goal.returns-in_err-serial-clause-fields
returns-in_err-serial-clause-fields c =
    let p = err_from_is_err_and c.from_residual-in_err-serial.result c.from_residual-in_err-serial.ensures.1 in
    rw (p.1, p.2) (refused_then c.in_ok-mname.ensures.field tt (refused_then c.in_ok-rname.ensures.field tt c.in_err-serial.ensures.fields))
