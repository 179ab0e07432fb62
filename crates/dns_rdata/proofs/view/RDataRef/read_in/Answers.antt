use Rattle.std.proofs.Common.{◌≢◌, ◌∙◌, ap, refl}
use Rattle.dns_types.specs.declared.error.DecodeError.TheVariants as decode
use Rattle.dns_check.specs.Rows.{is_row}
use Rattle.dns_rdata.specs.ReadErrors.{IsReadError}
use Rattle.dns_rdata.proofs.Views.{rows_checked, starts_at, view_found, view_row, view_none, view_why}
use Rattle.dns_rdata.proofs.Steps.{never_followed, row_followed}
use Rattle.dns_rdata.proofs.view.RDataRef.read_in.Goals as goal

pub near-requires-clause-row : goal.near-requires-clause-row
near-requires-clause-row c = ap is_row c.in-Some.ensures.some ∙ rows_checked c.args.record_type

pub returns-in-Some-near-clause-found : goal.returns-in-Some-near-clause-found
returns-in-Some-near-clause-found c =
    view_found c.args.record_type c.args.length c.args.walk.now _ c.in-Some.parts.now c.in-Some-near.view
    (starts_at refl c.message.ensures c.index-start.ensures.offset) c.in-Some.ensures.some c.in-Some.ensures.read
    (rw c.unverified-len.ensures at c.in-Some-near.ensures.found)

pub read-requires : goal.read-requires
read-requires c = record { row = ap is_row c.in-Some.ensures.some ∙ rows_checked c.args.record_type }

pub returns-in-Ok-clause-found : goal.returns-in-Ok-clause-found
returns-in-Ok-clause-found c = view_found c.args.record_type c.args.length c.args.walk.now c.args.walk.now c.in-Some.parts.now c.in-Ok.view refl
    c.in-Some.ensures.some c.in-Some.ensures.read c.in-Ok.ensures.found

pub returns-in-Err-clause-refused : goal.returns-in-Err-clause-refused
returns-in-Err-clause-refused c =
    view_none c.args.record_type c.args.length c.args.walk.now c.args.walk.now c.in-Some.parts.now refl c.in-Some.ensures.some c.in-Err.ensures.refused

-- the error of the row is that of the type
why : (c : goal.In-Err) → IsReadError c.args.record_type c.args.length c.args.walk.now c.read.new.walk c.in-Err.e × (c.in-Err.e ≢ decode.Memory)
why c = view_why c.args.record_type c.args.length c.args.walk.now c.args.walk.now c.read.new.walk c.read.new.walk c.in-Err.e c.in-Some.parts.now refl
    c.in-Some.ensures.some c.in-Some.ensures.read refl c.in-Err.ensures.why

pub returns-in-Err-clause-why : goal.returns-in-Err-clause-why
returns-in-Err-clause-why c = (why c).0

pub returns-in-Err-clause-allocates_nothing : goal.returns-in-Err-clause-allocates_nothing
returns-in-Err-clause-allocates_nothing c = (why c).1

pub returns-in_default-clause-steps : goal.returns-in_default-clause-steps
returns-in_default-clause-steps c = never_followed c.args.record_type c.args.length c.args.walk.now c.args.left.now c.in_default.ensures.none

pub returns-in-Ok-clause-steps : goal.returns-in-Ok-clause-steps
returns-in-Ok-clause-steps c =
    row_followed c.args.record_type c.in-Some.parts.now c.args.length c.args.walk.now _ _ c.in-Some.ensures.some
    (rw c.in_default-near.ensures.unchanged at c.read.ensures.steps)

pub returns-in-Err-clause-steps : goal.returns-in-Err-clause-steps
returns-in-Err-clause-steps c =
    row_followed c.args.record_type c.in-Some.parts.now c.args.length c.args.walk.now _ _ c.in-Some.ensures.some
    (rw c.in_default-near.ensures.unchanged at c.read.ensures.steps)

pub returns-in-Some-near-clause-steps : goal.returns-in-Some-near-clause-steps
returns-in-Some-near-clause-steps c =
    row_followed c.args.record_type c.in-Some.parts.now c.args.length c.args.walk.now _ _ c.in-Some.ensures.some
    (rw (c.message.ensures, c.index-start.ensures.offset, c.unverified-len.ensures) at c.in-Some-near.ensures.steps)

pub invariant_of-result : goal.invariant_of-result
invariant_of-result c = record { row = view_row c.in-Some.ensures.some c.in-Some-near.ensures.found }

pub invariant_of-result-in-Ok : goal.invariant_of-result-in-Ok
invariant_of-result-in-Ok c = record { row = view_row c.in-Some.ensures.some c.in-Ok.ensures.found }
