-- The letters of a text of a zone file (RFC 1035, 5.1).
use Rattle.std.specs.Prelude.{◌≡◌, ℕ, ◌+◌, ◌-◌, ◌*◌, ◌<◌, ◌==◌, ◌&&◌, nat_le, Bool, true, false, if◌then◌else◌, List, [], ◌∷◌, take}

-- An octet of a text without an escape, which may have a meaning of its own; or one from `\X` or `\DDD`, which has no
-- meaning of its own.
pub data Letter : Type 0 where
  plain : ℕ → Letter
  kept : ℕ → Letter

abbrev pub is_digit : ℕ → Bool
is_digit c = nat_le 48 c && nat_le c 57

-- where a reader is: between two letters, after a `\`, or after one or two digits of a number
pub data EscapeState : Type 0 where
  between : EscapeState
  backslash : EscapeState
  one_digit : ℕ → EscapeState
  two_digits : ℕ → EscapeState

-- The letters of a text: `\` and three digits are the octet of that number, `\` and a character that is no digit that
-- character.
abbrev pub letters_from : EscapeState → List ℕ → List Letter
letters_from state [] = []
letters_from between (c ∷ text) = if c == 92 then letters_from backslash text else plain c ∷ letters_from between text
letters_from backslash (c ∷ text) =
    if is_digit c then letters_from (one_digit (c - 48)) text else kept c ∷ letters_from between text
letters_from (one_digit n) (c ∷ text) = letters_from (two_digits (10 * n + (c - 48))) text
letters_from (two_digits n) (c ∷ text) = kept (10 * n + (c - 48)) ∷ letters_from between text

abbrev pub letters : List ℕ → List Letter
letters text = letters_from between text

abbrev pub octet_of : Letter → ℕ
octet_of (plain c) = c
octet_of (kept c) = c

-- the character itself, in its own meaning
abbrev pub stands_for : ℕ → Letter → Bool
stands_for c (plain d) = d == c
stands_for c (kept d) = false

-- Each `\` has a meaning: after it come three digits of a number up to 255, or a character that is no digit.
abbrev pub escapes_from : EscapeState → List ℕ → Bool
escapes_from between [] = true
escapes_from state [] = false
escapes_from between (c ∷ text) = if c == 92 then escapes_from backslash text else escapes_from between text
escapes_from backslash (c ∷ text) =
    if is_digit c then escapes_from (one_digit (c - 48)) text else escapes_from between text
escapes_from (one_digit n) (c ∷ text) = if is_digit c then escapes_from (two_digits (10 * n + (c - 48))) text else false
escapes_from (two_digits n) (c ∷ text) =
    if is_digit c && nat_le (10 * n + (c - 48)) 255 then escapes_from between text else false

abbrev pub escapes_stand : List ℕ → Bool
escapes_stand text = escapes_from between text

-- The text begins with a `\` without a meaning: no octets at its front are whole letters.
pub record BeginsWithNone (text : List ℕ) : Type 0 where
  pub none : (n : ℕ) → 0 < n → escapes_stand (take n text) ≡ false
