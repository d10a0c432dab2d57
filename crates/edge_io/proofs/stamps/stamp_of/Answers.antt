use Rattle.std.proofs.Common.{refl}
use Rattle.std.specs.Cmp.Derive.{both_true}
use Rattle.edge_io.proofs.Plain.{is_digit, stamp_plain}
use Rattle.edge_io.proofs.stamps.stamp_of.Goals as goal

pub returns-clause-date : goal.returns-clause-date
returns-clause-date c = record {
  date = c.date_of-date.result;
  year = c.year_of-year.result;
  same_day = c.date_of-date.ensures;
  same_year = c.year_of-year.ensures.same;
  four_digits_do = c.year_of-year.ensures.fits;
  written = rw (c.tens.ensures.value, c.ones.ensures.value, c.tens-2.ensures.value, c.ones-2.ensures.value, c.tens-3.ensures.value, c.ones-3.ensures.value, c.tens-4.ensures.value, c.ones-4.ensures.value, c.tens-5.ensures.value, c.ones-5.ensures.value, c.tens-6.ensures.value, c.ones-6.ensures.value, c.tens-7.ensures.value, c.ones-7.ensures.value, c.to_plain-date.ensures) refl;
}

pub returns-clause-form : goal.returns-clause-form
returns-clause-form c = both_true (is_digit _ c.tens.ensures.digit) (both_true (is_digit _ c.ones.ensures.digit) (both_true (is_digit _ c.tens-2.ensures.digit) (both_true (is_digit _ c.ones-2.ensures.digit) (both_true refl (both_true (is_digit _ c.tens-3.ensures.digit) (both_true (is_digit _ c.ones-3.ensures.digit) (both_true refl (both_true (is_digit _ c.tens-4.ensures.digit) (both_true (is_digit _ c.ones-4.ensures.digit) (both_true refl (both_true (is_digit _ c.tens-5.ensures.digit) (both_true (is_digit _ c.ones-5.ensures.digit) (both_true refl (both_true (is_digit _ c.tens-6.ensures.digit) (both_true (is_digit _ c.ones-6.ensures.digit) (both_true refl (both_true (is_digit _ c.tens-7.ensures.digit) (both_true (is_digit _ c.ones-7.ensures.digit) (both_true refl refl)))))))))))))))))))

pub returns-clause-plain : goal.returns-clause-plain
returns-clause-plain c = stamp_plain _ (returns-clause-form c)
