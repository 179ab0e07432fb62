-- The kinds of octets that a run is cut off by.
use Rattle.std.specs.Prelude.{ℕ, Bool, not}
use Rattle.dns_tokens.specs.{declared.text.spans.Kind.Kind, Octets.is_blank, Octets.is_line_end, Octets.is_gap, Octets.ends_run}
use Rattle.dns_tokens.specs.Octets.{is_special, is_digit, is_list_special}
use Rattle.dns_tokens.specs.declared.text.spans.Kind.TheVariants as kind

abbrev pub is_of : Kind → ℕ → Bool
is_of kind.Blank = is_blank
is_of kind.Gap = is_gap
is_of kind.Digit = is_digit
is_of kind.Line = λ c. not (is_line_end c)
is_of kind.Run = λ c. not (ends_run c)
is_of kind.Plain = λ c. not (is_special c)
is_of kind.Segment = λ c. not (is_list_special c)
