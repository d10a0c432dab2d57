use Rattle.std.proofs.Common.{rules, ◌≡◌, ℕ, ◌<◌, Some, true, false, nat_eq, ap, sym, ◌∙◌, subst, arith, eq-eqb}
use Rattle.std.proofs.lemmas.Bool.Decides.{nat_tests}
use Rattle.kube_meta.specs.Plan.{Bound, After, passed}
use Rattle.migrate_core.specs.Rows.{first_behind, elsewhere}
use Rattle.migrate_core.proofs.Spans.{rising, left, none_left, past_end, found, passes, fewer_left}
use Rattle.migrate_core.proofs.records.first_elsewhere.Goals as goal

other : (b c : ℕ) → (b ≡ c → ⊥) → nat_eq b c ≡ false
other b c ne = grind (arith, nat_tests)

pub returns-then-not-passed : goal.returns-then-not-passed
returns-then-not-passed g c =
    let is : first_behind c.loop-row.after (g.R.Records.rows c.args.records.now) ≡ Some c.in-Some.row = sym c.first_behind.ensures.next ∙ c.in-Some.is in
    let out : passed c.args.range.now.upto c.in-Some.row.key ≡ false = search rules in
    sym (past_end c.loop-row.after c.args.range.now.upto c.args.target (g.R.Records.rows c.args.records.now) c.in-Some.row
    (rising (g.R.Records.rows c.args.records.now) c.in-Some.ensures.order) is out)
    ∙ c.loop-row.invariant

pub returns-then-row-target : goal.returns-then-row-target
returns-then-row-target g c =
    let is : first_behind c.loop-row.after (g.R.Records.rows c.args.records.now) ≡ Some c.in-Some.row = sym c.first_behind.ensures.next ∙ c.in-Some.is in
    let inside : passed c.args.range.now.upto c.in-Some.row.key ≡ true = search rules in
    let elsewhere_at : nat_eq c.in-Some.row.at c.args.target ≡ false = other c.in-Some.row.at c.args.target c.if-row-target.true in
    sym (found c.loop-row.after c.args.range.now.upto c.args.target (g.R.Records.rows c.args.records.now) c.in-Some.row is inside elsewhere_at)
    ∙ c.loop-row.invariant

pub loop-row-smaller : goal.loop-row-smaller
loop-row-smaller g c =
    let is : first_behind c.loop-row.after (g.R.Records.rows c.args.records.now) ≡ Some c.in-Some.row = sym c.first_behind.ensures.next ∙ c.in-Some.is in
    let fewer : left (After c.in-Some.row.key) (g.R.Records.rows c.args.records.now) < left c.loop-row.after (g.R.Records.rows c.args.records.now) =
    fewer_left c.loop-row.after (g.R.Records.rows c.args.records.now) c.in-Some.row (rising (g.R.Records.rows c.args.records.now) c.in-Some.ensures.order) is in
    subst (λ (b : Bound). left b (g.R.Records.rows c.args.records.now) < left c.loop-row.after (g.R.Records.rows c.args.records.now)) (sym c.after-after.ensures) fewer

pub loop-row-preserved : goal.loop-row-preserved
loop-row-preserved g c =
    let is : first_behind c.loop-row.after (g.R.Records.rows c.args.records.now) ≡ Some c.in-Some.row = sym c.first_behind.ensures.next ∙ c.in-Some.is in
    let there : nat_eq c.in-Some.row.at c.args.target ≡ true = eq-eqb c.in-Some.row.at c.args.target c.if-row-target.false in
    ap (λ (b : Bound). elsewhere (record { after = b; upto = c.args.range.now.upto }) c.args.target (g.R.Records.rows c.args.records.now)) c.after-after.ensures
    ∙ passes c.loop-row.after c.args.range.now.upto c.args.target (g.R.Records.rows c.args.records.now) c.in-Some.row
    (rising (g.R.Records.rows c.args.records.now) c.in-Some.ensures.order) is there
    ∙ c.loop-row.invariant

pub returns : goal.returns
returns g c =
    sym (none_left c.loop-row.after c.args.range.now.upto c.args.target (g.R.Records.rows c.args.records.now) (sym c.first_behind.ensures.next ∙ c.in_default.is))
    ∙ c.loop-row.invariant
