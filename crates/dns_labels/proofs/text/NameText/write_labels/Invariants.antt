use Rattle.std.proofs.Common.{◌≡◌, ℕ, List, ◌∷◌, ◌++◌}
use Rattle.std.specs.{Fmt.HasWritten, Fmt.IsPlainFormatter, Prelude.flat_map}
use Rattle.dns_labels.specs.Text.{label_text, joined_text}
use Rattle.dns_labels.proofs.text.NameText.write_labels.Given as goal

-- the labels so far were written, and those that the iterator has left are the others
abbrev pub invariant-loop-label : goal.invariant-loop-label
invariant-loop-label g l = IsPlainFormatter l.fn.f → (text : List ℕ) × HasWritten g.W.Write.write_str_gives l.fn.f text l.f
    × (text ++ flat_map (λ other. 46 ∷ label_text other) l.label-iterator ≡ joined_text l.fn.self.labels)
