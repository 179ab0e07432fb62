use Rattle.std.proofs.Common.{◌≡◌, ◌≤◌, ◌∙◌, ◌+◌, ◌-◌, ap, refl, arith, length, Bor, List, ℕ, Ok}
use Rattle.dns_names_wire.specs.State.{Reading}
use Rattle.dns_check.specs.Rows.{is_row}
use Rattle.dns_check.proofs.RowTests.{row_tested}
use Rattle.dns_rdata.proofs.Views.{RowGives, rows_checked, starts_at, moved, walked, row_as, row_own, row_whole, row_elsewhere, row_refused, row_no_memory}
use Rattle.dns_rdata.proofs.view.RDataRef.own_result.Goals as goal

-- the quick way took the fields, and the decoder is at their end
near_row : (c : goal.After-read_slice-taken) → RowGives c.args.record_type c.args.length (Ok tt) c.args.decoder.now c.read_slice-taken.new.self
near_row c =
    let old = c.args.decoder.now in
    let offset = c.index-start.ensures.offset in
    let same = starts_at {old = old} refl c.message.ensures offset in
    let s = rw c.unverified-len.ensures at (c.if-is_near.ensures.near refl).took in
    let slice = c.read_slice-taken in
    let there = moved slice.result (λ (o : Bor (List ℕ)). o.now) c.args.length old
    (record { message = c.message.result.now; index = c.index-start.result + c.args.length }) slice.new.self c.message.ensures (omega (arith, offset))
    (rw c.unverified-len.ensures at (c.if-is_near.ensures.near refl).inside) (rw c.unverified-len.ensures at slice.ensures.taken) (rw c.unverified-len.ensures at slice.ensures.lacking) in
    row_as c.args.record_type c.args.length (Ok tt) c.in-Some.parts.now old _ _ slice.new.self same c.in-Some.ensures.some there s

pub is_near-requires-clause-row : goal.is_near-requires-clause-row
is_near-requires-clause-row c = row_tested c.in-Some.parts.now (ap is_row c.in-Some.ensures.some ∙ rows_checked c.args.record_type)

pub returns-then-is_near-clause-own : goal.returns-then-is_near-clause-own
returns-then-is_near-clause-own c = row_own c.args.record_type c.args.length c.args.decoder.now c.read_slice-taken.new.self (Ok tt) c.in-Some.ensures.read (near_row c)

pub returns-then-is_near-clause-whole : goal.returns-then-is_near-clause-whole
returns-then-is_near-clause-whole c = λ here.
    let within = rw (c.unverified-len.ensures, c.message.ensures, c.index-start.ensures.offset) at (c.if-is_near.ensures.near refl).inside in
    row_whole c.args.record_type c.args.length c.args.decoder.now c.read_slice-taken.new.self (Ok tt) c.in-Some.ensures.read c.index-start.ensures.octets
    (omega arith) (omega (arith, within, here)) (near_row c) here

pub returns-then-is_near-clause-elsewhere : goal.returns-then-is_near-clause-elsewhere
returns-then-is_near-clause-elsewhere c =
    row_elsewhere c.args.record_type c.args.length c.args.decoder.now c.read_slice-taken.new.self (Ok tt) (near_row c)

-- the walk ends where the decoder is
record Ends (c : goal.After-read_slice-taken-2) : Type 0 where
  row : RowGives c.args.record_type c.args.length c.skip_row-own.result c.args.decoder.now c.read_slice-taken-2.new.self
  within : c.read_slice-taken-2.new.self.index ≤ length c.args.decoder.now.message

ends : (c : goal.After-read_slice-taken-2) → Ends c
ends c =
    let old = c.args.decoder.now in
    let walk = c.skip_row-own.new.walk in
    let offset = c.index-start.ensures.offset in
    let same : c.at-walk.result ≡ old = starts_at c.at-walk.ensures c.message-2.ensures offset in
    let s = rw c.unverified-len.ensures at c.skip_row-own.ensures.skips in
    let behind = walked c.in-Some.parts.now c.args.length c.skip_row-own.result c.at-walk.result walk s in
    let message : walk.message ≡ old.message = behind.message ∙ ap (λ (r : Reading). r.message) same in
    let slice = c.read_slice-taken-2 in
    let there : slice.new.self ≡ walk = moved slice.result (λ (o : Bor (List ℕ)). o.now) (c.index.result - c.index-start.result) old walk slice.new.self message
    (omega (arith, c.index.ensures.offset, offset, behind.index, ap (λ (r : Reading). r.index) same)) c.index.ensures.inside slice.ensures.taken slice.ensures.lacking in
    record {
      row = row_as c.args.record_type c.args.length c.skip_row-own.result c.in-Some.parts.now old c.at-walk.result walk slice.new.self same c.in-Some.ensures.some there s;
      within = omega (arith, c.index.ensures.inside, ap length message, ap (λ (r : Reading). r.index) there);
    }

pub skip_row-own-requires-clause-row : goal.skip_row-own-requires-clause-row
skip_row-own-requires-clause-row c = row_tested c.in-Some.parts.now (ap is_row c.in-Some.ensures.some ∙ rows_checked c.args.record_type)

pub returns-clause-own : goal.returns-clause-own
returns-clause-own c = row_own _ _ _ _ _ c.in-Some.ensures.read (ends c).row

pub returns-clause-whole : goal.returns-clause-whole
returns-clause-whole c = row_whole _ _ _ _ _ c.in-Some.ensures.read c.index-start.ensures.octets (omega arith) (ends c).within (ends c).row

pub returns-clause-elsewhere : goal.returns-clause-elsewhere
returns-clause-elsewhere c = row_elsewhere _ _ _ _ _ (ends c).row

pub returns-clause-refused : goal.returns-clause-refused
returns-clause-refused c = row_refused _ _ _ _ _ (ends c).row

pub returns-clause-allocates_nothing : goal.returns-clause-allocates_nothing
returns-clause-allocates_nothing c = row_no_memory _ _ _ _ _ (ends c).row
