use Rattle.dns_zone_rows.proofs.TimeSteps.{if_none}
use Rattle.dns_zone_rows.proofs.times.seconds_of_date.Goals as goal

pub returns-in_err-year-clause-none : goal.returns-in_err-year-clause-none
returns-in_err-year-clause-none c = if_none c.from_residual.result (λ n is. c.in_err-year.ensures.none is.year is.is_year)

pub returns-in_err-month-clause-none : goal.returns-in_err-month-clause-none
returns-in_err-month-clause-none c = if_none c.from_residual-in_err-month.result (λ n is. c.in_err-month.ensures.none is.month is.is_month)

pub returns-in_err-day-clause-none : goal.returns-in_err-day-clause-none
returns-in_err-day-clause-none c = if_none c.from_residual-in_err-day.result (λ n is. c.in_err-day.ensures.none is.day is.is_day)

pub returns-in_err-hour-clause-none : goal.returns-in_err-hour-clause-none
returns-in_err-hour-clause-none c = if_none c.from_residual-in_err-hour.result (λ n is. c.in_err-hour.ensures.none is.hour is.is_hour)

pub returns-in_err-minute-clause-none : goal.returns-in_err-minute-clause-none
returns-in_err-minute-clause-none c = if_none c.from_residual-in_err-minute.result (λ n is. c.in_err-minute.ensures.none is.minute is.is_minute)

pub returns-in_err-second-clause-none : goal.returns-in_err-second-clause-none
returns-in_err-second-clause-none c = if_none c.from_residual-in_err-second.result (λ n is. c.in_err-second.ensures.none is.second is.is_second)
