-- Times of signatures (RFC 4034, 3.2).
use Rattle.std.specs.Prelude.{ℕ, ◌+◌, ◌-◌, ◌*◌, ◌/◌, ◌%◌, ◌^◌, ◌==◌, ◌&&◌, ◌||◌, nat_le, Bool, false, if◌then◌else◌, List, [], ◌∷◌, slice_index, length, take, drop, Option, Some, None, ◌≡◌, ◌⊎◌, ◌<◌, ◌≤◌}
use Rattle.std.specs.Str.Parse.{IsNumeral, digits_value}
use Rattle.dns_fields.specs.declared.Kind.{TheVariants.Number}
use Rattle.dns_zone_tokens.specs.{Forms.ZoneForm, Tokens.Token}

-- a year of 366 days
abbrev pub is_leap : ℕ → Bool
is_leap year = (year % 4 == 0) && (nat_le 1 (year % 100) || (year % 400 == 0))

-- the days of a month
abbrev pub month_days : ℕ → ℕ → ℕ
month_days year month =
    if month == 2 then (if is_leap year then 29 else 28)
    else if (month == 4) || (month == 6) || (month == 9) || (month == 11) then 30
    else 31

-- the days before each month of a year of 365 days
abbrev pub days_before_months : List ℕ
days_before_months = 0 ∷ 31 ∷ 59 ∷ 90 ∷ 120 ∷ 151 ∷ 181 ∷ 212 ∷ 243 ∷ 273 ∷ 304 ∷ 334 ∷ []

-- the days from the first day of year 1 to a day
abbrev pub days_to : ℕ → ℕ → ℕ → ℕ
days_to year month day =
    365 * (year - 1) + (year - 1) / 4 + (year - 1) / 400 - (year - 1) / 100 + slice_index days_before_months (month - 1)
    + (if nat_le 3 month && is_leap year then 1 else 0) + (day - 1)

-- there is such a day, and such a second of it
abbrev pub is_date : ℕ → ℕ → ℕ → Bool
is_date year month day = nat_le 1 year && nat_le 1 month && nat_le month 12 && nat_le 1 day && nat_le day (month_days year month)

abbrev pub is_time : ℕ → ℕ → ℕ → Bool
is_time hour minute second = nat_le hour 23 && nat_le minute 59 && nat_le second 59

-- The seconds from the first of January 1970 to a time, modulo 2 ^ 32, if there is such a time. That day is day 719162, and
-- 2288912640 is congruent to -719162 * 86400.
abbrev pub date_seconds : ℕ → ℕ → ℕ → ℕ → ℕ → ℕ → Option ℕ
date_seconds year month day hour minute second =
    if is_date year month day && is_time hour minute second
    then Some ((86400 * days_to year month day + (3600 * hour + 60 * minute + second) + 2288912640) % 4294967296)
    else None

-- so many octets of the text are the digits of a number
pub record IsPart (text : List ℕ) (start count n : ℕ) : Type 0 where
  pub digits : IsNumeral 10 (take count (drop start text))
  pub value : n ≡ digits_value 10 (take count (drop start text))
  pub small : n < 2 ^ 32

-- YYYYMMDDHHmmSS
pub record IsDate (n : ℕ) (text : List ℕ) : Type 0 where
  pub long : length text ≡ 14
  pub year : ℕ
  pub month : ℕ
  pub day : ℕ
  pub hour : ℕ
  pub minute : ℕ
  pub second : ℕ
  pub is_year : IsPart text 0 4 year
  pub is_month : IsPart text 4 2 month
  pub is_day : IsPart text 6 2 day
  pub is_hour : IsPart text 8 2 hour
  pub is_minute : IsPart text 10 2 minute
  pub is_second : IsPart text 12 2 second
  pub value : date_seconds year month day hour minute second ≡ Some n

-- at most ten digits, which are seconds since 1970, fewer than 2 ^ 32
pub record IsSeconds (n : ℕ) (text : List ℕ) : Type 0 where
  pub short : length text ≤ 10
  pub number : IsPart text 0 (length text) n

abbrev pub IsTimeText : ℕ → List ℕ → Type 0
IsTimeText n text = IsSeconds n text ⊎ IsDate n text

-- a time in seconds since 1970, modulo 2 ^ 32
abbrev pub time : ZoneForm (Number 4)
time = record { is = λ n token. (token.quoted ≡ false) × IsTimeText n token.octets }
