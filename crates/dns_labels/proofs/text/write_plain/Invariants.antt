use Rattle.std.proofs.Common.{◌≡◌, ◌≤◌, ◌∷◌, ◌++◌, length}
use Rattle.std.specs.Prelude.{flat_map}
use Rattle.dns_labels.specs.{Labels.labels_of, Text.label_text, Text.joined_text}
use Rattle.dns_labels.proofs.text.write_plain.Given as goal

-- the labels so far were written, and those that the iterator has left are the others
abbrev pub invariant-loop-label : goal.invariant-loop-label
invariant-loop-label l = (length l.text ≤ 253)
    × (l.text ++ flat_map (λ other. 46 ∷ label_text other) l.label-iterator ≡ joined_text (labels_of l.fn.octets))
