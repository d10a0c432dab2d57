use Rattle.std.proofs.Common.{◌≡◌, ℤ, ◌≤ℤ◌, pos, negsuc, unsigned_abs, refl, arith}
use Rattle.std.proofs.lemmas.Int.{by_lt_z}
use Rattle.jiff.specs.Words.{epoch_day}
use Rattle.jiff.proofs.SpanFacts.{signed_arith}
use Rattle.jiff_core.specs.declared.civil.date.Date.{Date}
use Rattle.jiff_core.proofs.CalendarLemmas.{day_count-epoch, days_from_civil-day_count, day_count-lt_year}
use Rattle.jiff_core.proofs.DateLemmas.{civil}

-- 1970-01-01 is day 0
pub epoch_day-first : (d : Date) → d.year ≡ pos 1970 → d.month ≡ 1 → d.day ≡ 1 → epoch_day d ≡ pos 0
epoch_day-first d year month day =
    rw (year, month, day) (omega (arith, signed_arith, day_count-epoch, days_from_civil-day_count (pos 1970) 1 1))

unsigned-back : (z : ℤ) → pos 0 ≤ℤ z → z ≡ pos (unsigned_abs z)
unsigned-back (pos n) h = refl
unsigned-back (negsuc n) h = absurd (omega (arith, signed_arith))

-- a day that isn't before it is of its year or a later one
year-since : (d : Date) → pos 0 ≤ℤ epoch_day d → pos 1970 ≤ℤ d.year
year-since d since =
    by_lt_z d.year (pos 1970)
    (λ lt. absurd (omega (arith, signed_arith, day_count-epoch, days_from_civil-day_count d.year d.month d.day, day_count-lt_year d.year d.month d.day (pos 1970) 1 1 (civil d) (omega arith) lt)))
    (λ le. le)

-- so its year has no sign
pub year-unsigned : (d : Date) → pos 0 ≤ℤ epoch_day d → d.year ≡ pos (unsigned_abs d.year)
year-unsigned d since = unsigned-back d.year (omega (arith, signed_arith, year-since d since))
