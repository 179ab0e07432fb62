use Rattle.std.proofs.Common.{◌≡◌, ◌∙◌, ap, arith, List, ℕ}
use Rattle.std.proofs.lemmas.Bool.Decides.{nat_tests}
use Rattle.dns_names_wire.specs.State.{Reading}
use Rattle.dns_check.proofs.Fronts.{covered_at, octets_last, rest_last, name_last, other_last}
use Rattle.dns_check.proofs.fields.is_last_near.Goals as goal

at_start : {d : Reading} {i p : ℕ} {m : List ℕ} → i ≡ d.index → d ≡ record { message = m; index = p } → i ≡ p
at_start {d} {i} {p} {m} index is = index ∙ ap (λ (r : Reading). r.index) is

pub is_other_near-requires : goal.is_other_near-requires
is_other_near-requires c =
    let at = at_start c.index.ensures.offset c.at.ensures in
    record {
      covered = covered_at c.args.row.now c.args.first _ c.requires.row.covered (omega (arith, c.requires.last));
      within = omega (arith, c.if-octets-there-2.true, c.requires.within, at);
      short = c.requires.short;
      before = omega arith;
    }

pub returns-then-octets-count-clause-near : goal.returns-then-octets-count-clause-near
returns-then-octets-count-clause-near c = λ e.
    let at = at_start c.index.ensures.offset c.at.ensures in
    octets_last c.args.first c.args.octets _ c.requires.row c.requires.front c.requires.last (rw c.at.ensures at c.index.ensures.octets)
    _ c.in-Octets.is c.if-octets-count.true (grind (arith, nat_tests, e, at, c.requires.within))

pub returns-then-octets-len-clause-near : goal.returns-then-octets-len-clause-near
returns-then-octets-len-clause-near c = λ e.
    let at = at_start c.index.ensures.offset c.at.ensures in
    rest_last c.args.first c.args.octets _ c.requires.row c.requires.front c.requires.last (rw c.at.ensures at c.index.ensures.octets)
    c.in-Rest.is c.if-octets-len.true (grind (arith, nat_tests, e, at, c.requires.within))

pub returns-then-octets-there-clause-near : goal.returns-then-octets-there-clause-near
returns-then-octets-there-clause-near c = λ e.
    let at = at_start c.index.ensures.offset c.at.ensures in
    name_last c.args.first c.args.octets _ c.requires.row c.requires.front c.requires.last (rw c.at.ensures at c.index.ensures.octets)
    c.in-Name.is (omega (arith, c.if-octets-there.true, c.requires.within, at)) (c.is_name_near.ensures.name e) (c.is_name_near.ensures.steps e)

pub returns-then-octets-there-2-clause-near : goal.returns-then-octets-there-2-clause-near
returns-then-octets-there-2-clause-near c = λ e.
    let at = at_start c.index.ensures.offset c.at.ensures in
    other_last c.args.first c.args.octets _ c.requires.row c.requires.front c.requires.last (rw c.at.ensures at c.index.ensures.octets)
    c.in_default.not-Name (omega (arith, c.if-octets-there-2.true, c.requires.within, at)) (c.is_other_near.ensures e)
