use Rattle.std.proofs.Common.{◌≡◌, ◌≤◌, false, length}
use Rattle.std.specs.{Str.IsUtf8, String.string_bytes}
use Rattle.dns_tokens.specs.Lists.{segments_from, segments_of}
use Rattle.dns_tokens.proofs.text.segments.escaped_segment.Given as goal

-- what the rest gives behind the segment that is open
abbrev pub invariant-runs : goal.invariant-runs
invariant-runs l = (segments_from false (string_bytes l.segment) l.rest ≡ segments_of l.text) × IsUtf8 l.rest × (length l.rest ≤ length l.text)

abbrev pub decreases-runs : goal.decreases-runs
decreases-runs l = length l.rest
