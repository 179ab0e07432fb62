use Rattle.std.proofs.Common.{◌≡◌, true, refl, rules, sym, ◌∷◌, [], ◌++◌, ◌∙◌, ap, List, ℕ}
use Rattle.std.proofs.Output.{has_written_append, has_written_of_eq}
use Rattle.std.specs.Fmt.{HasWritten}
use Rattle.dns_labels.specs.Text.{label_text, name_text}
use Rattle.dns_fields.specs.Labels.{DomainName}
use Rattle.dns_labels.proofs.NameTexts.{joined_more, joined_all}
use Rattle.dns_labels.proofs.text.NameText.write_labels.Goals as goal

pub loop-label-preserved : goal.loop-label-preserved
loop-label-preserved g c = λ p.
    let i = c.loop-label.invariant p in
    let put = g.W.Write.write_str_gives in
    let dot : HasWritten put c.loop-label.f (46 ∷ []) c.write_str.new.self = c.in_ok-write_str.ensures.writes i.1.plain refl in
    let next : HasWritten put c.write_str.new.self (label_text c.in-Some-label.label.now) c.write-in-loop-label.new.self = let plain = dot.plain in
    search rules in (
      _,
      has_written_append put _ _ _ _ _ (has_written_append put _ _ _ _ _ i.1 dot) next,
      joined_more i.0 c.in-Some-label.label.now
          c.loop-label.label-iterator c.next-in-loop-label.new.self _ c.in-Some-label.ensures.steps i.2,
    )

pub returns-in_ok-write_str-2 : goal.returns-in_ok-write_str-2
returns-in_ok-write_str-2 g c = λ p ok.
    let i = c.loop-label.invariant p in
    let put = g.W.Write.write_str_gives in
    let mark : c.args.self.now.fully_qualified ≡ true = ap (λ (x : DomainName). x.fully_qualified) (sym c.self.view_is) ∙ c.if-self.true in
    let e : i.0 ++ 46 ∷ [] ≡ name_text c.args.self.now =
    rw mark (ap (λ (t : List ℕ). t ++ 46 ∷ []) (joined_all i.0 c.loop-label.label-iterator _ c.in-None.ensures.steps.0 i.2)) in
    let dot : HasWritten put c.loop-label.f (46 ∷ []) c.write_str-then-self.new.self = c.in_ok-write_str-2.ensures.writes i.1.plain refl in
    has_written_of_eq put _ _ _ _ e (has_written_append put _ _ _ _ _ i.1 dot)
