use Rattle.std.proofs.Common.{arith, ◌≡◌, ◌≤◌, ◌-◌, ◌∙◌, sym, length, take, drop, [], true, refl, get_or, ap}
use Rattle.std.specs.Char.{is_ascii_digit}
use Rattle.std.specs.Str.Parse.{digits_value}
use Rattle.std.proofs.lemmas.List.{drop_all, take_all}
use Rattle.http_routes.proofs.Values.{limit_long, limit_bad, limit_good, value_more, bound_more, bound_fits, pass_more, digit_small}
use Rattle.http_routes.proofs.query.limit_in.Goals as goal

pub returns-then-value-gt-MOST_LIMIT_DIGITS : goal.returns-then-value-gt-MOST_LIMIT_DIGITS
returns-then-value-gt-MOST_LIMIT_DIGITS c = limit_long _ c.if-value-gt-MOST_LIMIT_DIGITS.true

pub returns-then-not-is_ascii_digit : goal.returns-then-not-is_ascii_digit
returns-then-not-is_ascii_digit c =
    limit_bad _ _ c.loop-b.invariant.digits c.loop-b-test.true (sym c.is_ascii_digit.ensures.value ∙ c.if-not-is_ascii_digit.true)

pub overflow_mul-n : goal.overflow_mul-n
overflow_mul-n c = let f = bound_fits c.loop-b.b-index c.loop-b.n c.loop-b.invariant.bound (omega arith) in omega arith

pub overflow_add-n : goal.overflow_add-n
overflow_add-n c =
    let f = bound_fits c.loop-b.b-index c.loop-b.n c.loop-b.invariant.bound (omega arith) in
    let d : get_or c.args.value.now c.loop-b.b-index 0 - 48 ≤ 9 = digit_small _ (sym c.is_ascii_digit.ensures.value ∙ c.if-not-is_ascii_digit.false) in
    omega (arith, c.from.ensures)

pub loop-b-preserved : goal.loop-b-preserved
loop-b-preserved c =
    let digit : is_ascii_digit (get_or c.args.value.now c.loop-b.b-index 0) ≡ true = sym c.is_ascii_digit.ensures.value ∙ c.if-not-is_ascii_digit.false in
    let d : get_or c.args.value.now c.loop-b.b-index 0 - 48 ≤ 9 = digit_small _ digit in
    record {
      digits = c.loop-b.invariant.digits ∙ pass_more _ _ c.loop-b-test.true digit;
      is = value_more _ _ _ _ c.loop-b.invariant.is c.loop-b-test.true digit c.from.ensures;
      bound = bound_more _ _ _ c.loop-b.invariant.bound (omega (arith, c.from.ensures));
    }

pub returns : goal.returns
returns c =
    let end : c.loop-b.b-index ≡ length c.args.value.now = omega arith in
    let none : drop c.loop-b.b-index c.args.value.now ≡ [] = drop_all c.loop-b.b-index c.args.value.now (omega arith) in
    let all : take c.loop-b.b-index c.args.value.now ≡ c.args.value.now = take_all c.loop-b.b-index c.args.value.now (omega arith) in
    (limit_good c.args.value.now (omega arith) (c.loop-b.invariant.digits ∙ rw none refl), c.loop-b.invariant.is ∙ ap (digits_value 10) all)
