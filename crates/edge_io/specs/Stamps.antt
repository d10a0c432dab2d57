-- The text of a moment in UTC: RFC 3339, section 5.6, with whole seconds.
use Rattle.std.specs.Prelude.{◌≡◌, ◌==◌, ◌<◌, ◌+◌, ◌/◌, ◌%◌, ◌++◌, ◌∷◌, [], ℕ, Bool, true, false, ◌&&◌, if◌then◌else◌, List, pos, codes, flat_map}
use Rattle.std.specs.Char.{is_ascii_digit}
use Rattle.kj_value.specs.Text.{escaped_byte}
use Rattle.jiff.specs.Words.{epoch_day}
use Rattle.jiff_core.specs.declared.civil.date.Date.{Date}

-- a text that JSON spells as it stands
abbrev pub IsPlain : List ℕ → Type 0
IsPlain text = flat_map escaped_byte text ≡ text

-- the byte of the digit 0
abbrev pub zero_digit : ℕ
zero_digit = 48

-- a digit where the form has one, and else the form's own byte
abbrev pub fits_byte : ℕ → ℕ → Bool
fits_byte form byte = if form == zero_digit then is_ascii_digit byte else byte == form

-- as many bytes as the form has, each of which fits there
abbrev pub fits_form : List ℕ → List ℕ → Bool
fits_form [] [] = true
fits_form (f ∷ fs) (b ∷ bs) = fits_byte f b && fits_form fs bs
fits_form [] (b ∷ bs) = false
fits_form (f ∷ fs) [] = false

-- the text is of the form YYYY-MM-DDTHH:MM:SSZ, in digits
abbrev pub HasStampForm : List ℕ → Type 0
HasStampForm text = fits_form (codes "0000-00-00T00:00:00Z") text ≡ true

abbrev pub day_seconds : ℕ
day_seconds = 86_400

abbrev pub hour_seconds : ℕ
hour_seconds = 3_600

abbrev pub minute_seconds : ℕ
minute_seconds = 60

-- 2DIGIT
abbrev pub two_digits : ℕ → List ℕ
two_digits n = (zero_digit + n / 10) ∷ (zero_digit + n % 10) ∷ []

-- 4DIGIT
abbrev pub four_digits : ℕ → List ℕ
four_digits n = two_digits (n / 100) ++ two_digits (n % 100)

-- date-fullyear "-" date-month "-" date-mday
abbrev pub full_date : ℕ → ℕ → ℕ → List ℕ
full_date year month day = four_digits year ++ codes "-" ++ two_digits month ++ codes "-" ++ two_digits day

-- time-hour ":" time-minute ":" time-second, of a second of the day
abbrev pub partial_time : ℕ → List ℕ
partial_time second = two_digits (second / hour_seconds) ++ codes ":" ++ two_digits (second % hour_seconds / minute_seconds) ++ codes ":" ++ two_digits (second % minute_seconds)

-- the text is the date and time of that second since 1970-01-01T00:00:00Z
pub record IsDateTime (seconds : ℕ) (text : List ℕ) : Type 0 where
  pub date : Date
  pub year : ℕ
  pub same_day : epoch_day date ≡ pos (seconds / day_seconds)
  pub same_year : date.year ≡ pos year
  pub four_digits_do : year < 10_000
  pub written : text ≡ full_date year date.month date.day ++ codes "T" ++ partial_time (seconds % day_seconds) ++ codes "Z"
