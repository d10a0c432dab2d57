use Rattle.std.proofs.Common.{◌≡◌, ℕ, None, Some, ap, sym, ◌∙◌, arith, drop}
use Rattle.kube_meta.specs.Plan.{Bound, After}
use Rattle.migrate_core.specs.Rows.{first_behind}
use Rattle.migrate_core.proofs.Spans.{rising, rest, rest_some, drop_next, ends_early, ends_last, ends_there}
use Rattle.migrate_core.proofs.records.range_end.Goals as goal

pub loop-nth-preserved : goal.loop-nth-preserved
loop-nth-preserved g c =
    let next = rest_some c.loop-nth.bound (g.R.Records.rows c.args.records.now) c.in-Some.row (rising (g.R.Records.rows c.args.records.now) c.in-Some.ensures.order)
    (sym c.first_behind.ensures.next ∙ c.in-Some.is) in
    drop_next (rest c.args.cursor.now (g.R.Records.rows c.args.records.now)) (rest (After c.in-Some.row.key) (g.R.Records.rows c.args.records.now)) c.in-Some.row.key c.loop-nth._nth
    (c.loop-nth.invariant ∙ next)
    ∙ ap (λ (b : Bound). rest b (g.R.Records.rows c.args.records.now)) (sym c.after-bound.ensures)

pub returns-in_default : goal.returns-in_default
returns-in_default g c =
    c.end.ensures
    ∙ ends_early c.args.cursor.now c.loop-nth.bound (g.R.Records.rows c.args.records.now) c.loop-nth._nth (omega arith) c.loop-nth.invariant
    (sym c.first_behind.ensures.next ∙ c.in_default.is)

pub returns-in_default-first_behind : goal.returns-in_default-first_behind
returns-in_default-first_behind g c =
    c.end-in_default-first_behind.ensures
    ∙ ends_early c.args.cursor.now c.loop-nth.bound (g.R.Records.rows c.args.records.now) c.loop-nth._nth (omega arith) c.loop-nth.invariant
    (sym c.first_behind-2.ensures.next ∙ c.in_default-first_behind.is)

pub returns-in_default-first_behind-2 : goal.returns-in_default-first_behind-2
returns-in_default-first_behind-2 g c =
    let all : c.loop-nth._nth ≡ 31 = omega arith in
    let so_far : drop 31 (rest c.args.cursor.now (g.R.Records.rows c.args.records.now)) ≡ rest c.loop-nth.bound (g.R.Records.rows c.args.records.now) =
    ap (λ (n : ℕ). drop n (rest c.args.cursor.now (g.R.Records.rows c.args.records.now))) (sym all) ∙ c.loop-nth.invariant in
    let none : first_behind (After c.in-Some-first_behind.last.key) (g.R.Records.rows c.args.records.now) ≡ None =
    ap (λ (b : Bound). first_behind b (g.R.Records.rows c.args.records.now)) (sym c.after-end.ensures) ∙ sym c.first_behind-3.ensures.next ∙ c.in_default-first_behind-2.is in
    c.end-in_default-first_behind-2.ensures
    ∙ ends_last c.args.cursor.now c.loop-nth.bound (g.R.Records.rows c.args.records.now) c.in-Some-first_behind.last (rising (g.R.Records.rows c.args.records.now) c.in-Some-first_behind.ensures.order) so_far
    (sym c.first_behind-2.ensures.next ∙ c.in-Some-first_behind.is) none

pub returns : goal.returns
returns g c =
    let all : c.loop-nth._nth ≡ 31 = omega arith in
    let so_far : drop 31 (rest c.args.cursor.now (g.R.Records.rows c.args.records.now)) ≡ rest c.loop-nth.bound (g.R.Records.rows c.args.records.now) =
    ap (λ (n : ℕ). drop n (rest c.args.cursor.now (g.R.Records.rows c.args.records.now))) (sym all) ∙ c.loop-nth.invariant in
    let more : first_behind (After c.in-Some-first_behind.last.key) (g.R.Records.rows c.args.records.now) ≡ Some c.in-Some-first_behind-2._more =
    ap (λ (b : Bound). first_behind b (g.R.Records.rows c.args.records.now)) (sym c.after-end.ensures) ∙ sym c.first_behind-3.ensures.next ∙ c.in-Some-first_behind-2.is in
    c.after-end.ensures
    ∙ ends_there c.args.cursor.now c.loop-nth.bound (g.R.Records.rows c.args.records.now) c.in-Some-first_behind.last c.in-Some-first_behind-2._more
    (rising (g.R.Records.rows c.args.records.now) c.in-Some-first_behind.ensures.order) so_far (sym c.first_behind-2.ensures.next ∙ c.in-Some-first_behind.is) more
