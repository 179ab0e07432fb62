use Rattle.std.proofs.Common.{[], ◌∷◌, ap, ◌∙◌, arith, length}
use Rattle.dns_fields.specs.declared.Kind.TheVariants.{Name, Parameters}
use Rattle.dns_check.proofs.CheckedFirst.{number_there}
use Rattle.dns_rdata_service.proofs.{Splits.is_err, ParameterReads.svcb_inside, ParameterReads.svcb_no_name, ParameterReads.svcb_read, ParameterReads.svcb_row, ParameterReads.svcb_after}
use Rattle.dns_rdata_service.proofs.svcb.SVCBDecodesRow.read_row.Goals as goal

pub returns-in_err-read_u16-clause-reads : goal.returns-in_err-read_u16-clause-reads
returns-in_err-read_u16-clause-reads c =
    let h = c.in-Ok.ensures.there in
    absurd (number_there (Name ∷ Parameters ∷ []) h.took.fields.values c.in-Ok.found.0 h.took.fields.stands c.in_err-read_u16.ensures.lacking.1)

pub returns-in_err-target_name-clause-reads : goal.returns-in_err-target_name-clause-reads
returns-in_err-target_name-clause-reads c =
    rw (is_err _ _ c.from_residual-in_err-target_name.ensures.1)
    (svcb_no_name c.in-Ok.ensures.there c.in_ok-read_u16.ensures.taken c.in_err-target_name.ensures.lacking c.in_err-target_name.ensures.unchanged)

pub returns-in_err-read_slice-clause-reads : goal.returns-in_err-read_slice-clause-reads
returns-in_err-read_slice-clause-reads c =
    absurd (omega (
      arith,
      c.in_err-read_slice.ensures.lacking.1,
      c.in-Ok.ensures.inside.1,
      c.index.ensures.offset,
      ap length (c.in_ok-target_name.ensures.field.message ∙ c.in_ok-read_u16.ensures.taken.message),
    ))

pub returns-clause-reads : goal.returns-clause-reads
returns-clause-reads c =
    let h = c.in-Ok.ensures.there in
    rw c.unverified-svc_priority.ensures (svcb_row c.in_ok-svc_params.svc_params h (svcb_read h c.in_ok-read_u16.ensures.taken c.in_ok-target_name.ensures.field c.in_ok-read_slice.ensures.taken
    (omega (arith, c.index.ensures.offset)) (rw c.unverified-octets.ensures at c.in_ok-svc_params.ensures.made)))

pub returns-clause-after_read : goal.returns-clause-after_read
returns-clause-after_read c =
    let h = c.in-Ok.ensures.there in
    rw c.unverified-svc_priority.ensures (svcb_after h c.in_ok-svc_params.ensures.read (svcb_read h c.in_ok-read_u16.ensures.taken c.in_ok-target_name.ensures.field
    c.in_ok-read_slice.ensures.taken (omega (arith, c.index.ensures.offset)) (rw c.unverified-octets.ensures at c.in_ok-svc_params.ensures.made)))

pub overflow_sub-found : goal.overflow_sub-found
overflow_sub-found c =
    omega (arith, c.index.ensures.offset, svcb_inside c.in-Ok.ensures.there c.in_ok-read_u16.ensures.taken c.in_ok-target_name.ensures.field)
