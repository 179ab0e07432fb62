use Rattle.std.proofs.Common.{◌≡◌, ◌++◌, take}
use Rattle.dns_labels.specs.Text.{label_text}
use Rattle.dns_labels.proofs.buffer.NameBuffer.extend_plain.Given as goal

-- the octets so far stand behind those that were there, and are their own text
abbrev pub invariant-loop-octet : goal.invariant-loop-octet
invariant-loop-octet l = (l.self-inside.octets.items ≡ l.fn.self ++ take l.octet-index l.part)
    × (label_text (take l.octet-index l.part) ≡ take l.octet-index l.part)
