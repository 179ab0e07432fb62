use Rattle.std.proofs.Common.{◌≡◌, ℕ, List, take, drop, inr, refl, sym, ◌∙◌, ap, subst}
use Rattle.std.proofs.lemmas.Option.{slice_get-get_or}
use Rattle.dns_check.specs.Checks.{IsRowError}
use Rattle.dns_registry.specs.{Formats.FormatRow, Formats.row_of_format, Typed.format_at, Typed.format_for, Typed.IsQuestionType}
use Rattle.dns_registry.specs.declared.rule.FieldRule.TheVariants as rules
use Rattle.dns_registry.proofs.Views.{typed_view, rejects, not_typed, none_typed, moved_to}
use Rattle.dns_registry.proofs.typed.TypedRef.read.Goals as goal

-- the format is that of the octets
same_format : (m : List ℕ) (p n k : ℕ) (octets unread : List ℕ) → octets ≡ take k unread → unread ≡ drop p m → k ≡ n → octets ≡ take n (drop p m)
same_format m p n k octets unread o u s = cc

pub returns-in-Err-clause-refused : goal.returns-in-Err-clause-refused
returns-in-Err-clause-refused c =
    let same : row_of_format c.format_for_type-format.result ≡ format_at c.args.walk.now.message c.args.walk.now.index c.args.length c.args.record_type =
    c.format_for_type-format.ensures.row c.args.record_type (sym c.from-number.ensures)
    ∙ ap (format_for c.args.record_type) (same_format c.args.walk.now.message c.args.walk.now.index c.args.length _ _ _ c.front_of.ensures
    c.unread-unread.ensures c.unverified.ensures) in
    none_typed c.args.walk.now.message c.args.walk.now.index c.args.length c.args.record_type (row_of_format c.format_for_type-format.result) same
    c.in-Err.ensures.refused.none

pub returns-in-Err-clause-why : goal.returns-in-Err-clause-why
returns-in-Err-clause-why c =
    let same : row_of_format c.format_for_type-format.result ≡ format_at c.args.walk.now.message c.args.walk.now.index c.args.length c.args.record_type =
    c.format_for_type-format.ensures.row c.args.record_type (sym c.from-number.ensures)
    ∙ ap (format_for c.args.record_type) (same_format c.args.walk.now.message c.args.walk.now.index c.args.length _ _ _ c.front_of.ensures
    c.unread-unread.ensures c.unverified.ensures) in
    inr (subst (λ (row : FormatRow). IsRowError row.parts c.args.length c.args.walk.now c.in-Err.e c.view_by.new.walk) same c.in-Err.ensures.why)

pub returns-in-None-clause-found : goal.returns-in-None-clause-found
returns-in-None-clause-found c =
    let same : row_of_format c.format_for_type-format.result ≡ format_at c.args.walk.now.message c.args.walk.now.index c.args.length c.args.record_type =
    c.format_for_type-format.ensures.row c.args.record_type (sym c.from-number.ensures)
    ∙ ap (format_for c.args.record_type) (same_format c.args.walk.now.message c.args.walk.now.index c.args.length _ _ _ c.front_of.ensures c.unread-unread.ensures c.unverified.ensures) in
    typed_view c.args.walk.now.message c.args.walk.now.index c.args.length c.args.record_type (row_of_format c.format_for_type-format.result) same c.in-Ok.view
    c.in-Ok.ensures.found.0 (λ q. let asked = c.is_question_type.ensures.1 (subst IsQuestionType (sym c.from-number.ensures) q) in let not = c.if-is_question_type.false in absurd cc) c.in-Ok.ensures.found.1 c.in-None.ensures.none _ refl refl

pub returns-in-Some-clause-refused : goal.returns-in-Some-clause-refused
returns-in-Some-clause-refused c =
    let same : row_of_format c.format_for_type-format.result ≡ format_at c.args.walk.now.message c.args.walk.now.index c.args.length c.args.record_type =
    c.format_for_type-format.ensures.row c.args.record_type (sym c.from-number.ensures)
    ∙ ap (format_for c.args.record_type) (same_format c.args.walk.now.message c.args.walk.now.index c.args.length _ _ _ c.front_of.ensures c.unread-unread.ensures c.unverified.ensures) in
    not_typed c.args.walk.now.message c.args.walk.now.index c.args.length c.args.record_type (row_of_format c.format_for_type-format.result) same c.in-Ok.view
    c.in-Ok.ensures.found.0 c.in-Some.index _ (slice_get-get_or c.format_for_type-format.result.rules.now c.in-Some.index rules.Free c.in-Some.ensures.inside)
    c.in-Some.ensures.fails

pub returns-in-Some-clause-why : goal.returns-in-Some-clause-why
returns-in-Some-clause-why c =
    let same : row_of_format c.format_for_type-format.result ≡ format_at c.args.walk.now.message c.args.walk.now.index c.args.length c.args.record_type =
    c.format_for_type-format.ensures.row c.args.record_type (sym c.from-number.ensures)
    ∙ ap (format_for c.args.record_type) (same_format c.args.walk.now.message c.args.walk.now.index c.args.length _ _ _ c.front_of.ensures c.unread-unread.ensures c.unverified.ensures) in
    inr (
      rejects c.args.walk.now.message c.args.walk.now.index c.args.length c.args.record_type (row_of_format c.format_for_type-format.result) same c.in-Ok.view
          c.in-Ok.ensures.found.0 c.in-Some.index _ (slice_get-get_or c.format_for_type-format.result.rules.now c.in-Some.index rules.Free c.in-Some.ensures.inside)
          c.in-Some.ensures.before c.in-Some.ensures.fails,
      moved_to c.args.walk.now c.view_by.new.walk c.args.length c.in-Ok.ensures.behind.message c.in-Ok.ensures.after,
    )
