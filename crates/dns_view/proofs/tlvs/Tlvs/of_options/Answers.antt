use Rattle.std.proofs.Common.{[], refl, sym, ◌∙◌}
use Rattle.std.proofs.lemmas.List.{append-nil}
use Rattle.dns_fields.specs.Tlvs.{tlvs}
use Rattle.dns_view.proofs.TlvSteps.{complete_of, no_octets}
use Rattle.dns_view.proofs.tlvs.Tlvs.of_options.Goals as goal

pub returns-then-are_complete-clause-complete : goal.returns-then-are_complete-clause-complete
returns-then-are_complete-clause-complete c = λ xs f e. c.of.ensures xs [] f (e ∙ sym (append-nil (tlvs xs))) no_octets

pub returns-else-are_complete-clause-truncated : goal.returns-else-are_complete-clause-truncated
returns-else-are_complete-clause-truncated c = λ none. c.of-else-are_complete.ensures [] [] tt refl no_octets

pub returns-else-are_complete-clause-complete : goal.returns-else-are_complete-clause-complete
returns-else-are_complete-clause-complete c = λ xs f e. absurd (c.are_complete.ensures.no c.if-are_complete.false (complete_of xs c.args.octets.now f e))
