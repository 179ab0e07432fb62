use Rattle.std.proofs.Common.{◌≡◌, ◌≢◌, ◌∙◌, ◌-◌, ap, arith, Bor, List, ℕ}
use Rattle.dns_types.specs.declared.error.DecodeError.TheVariants as decode
use Rattle.dns_names_wire.specs.State.{Reading}
use Rattle.dns_rdata.specs.ReadErrors.{IsReadError}
use Rattle.dns_rdata.proofs.Views.{rows_checked, starts_at, moved, view_found, view_row, view_none, view_why}
use Rattle.dns_check.specs.Rows.{is_row}
use Rattle.dns_rdata.proofs.view.RDataRef.read_row.Goals as goal

pub read-outcome-requires : goal.read-outcome-requires
read-outcome-requires c = record { row = ap is_row c.requires.parts ∙ rows_checked c.args.record_type }

pub returns-in-Ok-clause-found : goal.returns-in-Ok-clause-found
returns-in-Ok-clause-found c = view_found c.args.record_type c.args.length c.args.decoder.now c.at-walk.result c.args.parts.now c.in-Ok.view
    (starts_at c.at-walk.ensures c.message.ensures c.index-start.ensures.offset) c.requires.parts c.requires.read c.in-Ok.ensures.found

pub returns-in-Err-clause-refused : goal.returns-in-Err-clause-refused
returns-in-Err-clause-refused c = view_none c.args.record_type c.args.length c.args.decoder.now c.at-walk.result c.args.parts.now
    (starts_at c.at-walk.ensures c.message.ensures c.index-start.ensures.offset) c.requires.parts c.in-Err.ensures.refused

-- the walk ends where the decoder is, and the error of the row is that of the type
why : (c : goal.In-Err) → IsReadError c.args.record_type c.args.length c.args.decoder.now c.read_slice-taken.new.self c.in-Err.e × (c.in-Err.e ≢ decode.Memory)
why c =
    let old = c.args.decoder.now in
    let walk = c.read-outcome.new.walk in
    let offset = c.index-start.ensures.offset in
    let same : c.at-walk.result ≡ old = starts_at c.at-walk.ensures c.message.ensures offset in
    let behind = c.in-Err.ensures.behind in
    let slice = c.read_slice-taken in
    let there : slice.new.self ≡ walk = moved slice.result (λ (o : Bor (List ℕ)). o.now) (c.index.result - c.index-start.result) old walk slice.new.self
    (behind.message ∙ ap (λ (r : Reading). r.message) same)
    (omega (arith, c.index.ensures.offset, offset, behind.index, ap (λ (r : Reading). r.index) same)) c.index.ensures.inside slice.ensures.taken slice.ensures.lacking in
    view_why c.args.record_type c.args.length old c.at-walk.result walk slice.new.self c.in-Err.e c.args.parts.now same c.requires.parts c.requires.read
    there c.in-Err.ensures.why

pub returns-in-Err-clause-why : goal.returns-in-Err-clause-why
returns-in-Err-clause-why c = (why c).0

pub returns-in-Err-clause-allocates_nothing : goal.returns-in-Err-clause-allocates_nothing
returns-in-Err-clause-allocates_nothing c = (why c).1

pub invariant_of-result : goal.invariant_of-result
invariant_of-result c = record { row = view_row c.requires.parts c.in-Ok.ensures.found }
