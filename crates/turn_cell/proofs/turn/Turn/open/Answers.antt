use Rattle.std.proofs.Common.{◌≡◌, ℕ, ◌<◌, ◌++◌, List, [], ◌∷◌, length, replicate, Option, Some, Result, Ok, Err, ap, sym, subst, ◌∙◌, arith}
use Rattle.std.specs.Result.{MatchResult}
use Rattle.std.proofs.lemmas.Result.{IfOk-at_ok}
use Rattle.atomic_table.specs.Table.{opening}
use Rattle.turn_cell.specs.Turns.{is_settled, carried_at, is_numbered}
use Rattle.turn_cell.specs.Views.{opening_view}
use Rattle.turn_cell.specs.Rule.{Kept}
use Rattle.turn_cell.proofs.Keeps.{starts}
use Rattle.turn_cell.proofs.turn.Turn.open.Goals as goal

-- what a changed error leaves of a result
was_ok : {T E : Type 0} (F : Type 0) (r : Result T E) (y : T) → MatchResult r (λ x. ◌≡◌ {A = Result T F} (Ok y) (Ok x)) (λ e. ⊥) → r ≡ Ok y
was_ok F (Ok x) y e = cc (e)
was_ok F (Err d) y e = absurd e

one_item : (X : Type 0) (x : X) (ys zs : List X) → zs ≡ ys ++ x ∷ [] → ys ≡ [] → zs ≡ x ∷ []
one_item X x ys zs e none = e ∙ ap (λ (l : List X). l ++ x ∷ []) none

pub push_reserved-requires : goal.push_reserved-requires
push_reserved-requires g c =
    omega (arith, c.in_ok-slots.ensures.len, c.in_ok-slots.ensures.capacity)

pub new-requires : goal.new-requires
new-requires g c =
    let x = c.args.value in
    let items : c.push_reserved.new.self.items ≡ Some x ∷ [] = one_item (Option g.row.T.Denot) _ _ _ c.push_reserved.ensures.items c.in_ok-slots.ensures.items in
    let told : c.of-about.result.value ≡ x = c.of-about.ensures in
    subst (λ (z : List (Option g.row.T.Denot) × g.row.T.Denot). Kept g.T.Standing.stands g.T.Standing.base (opening (0 ∷ 0 ∷ 0 ∷ 1 ∷ replicate 32 0) z.0 (opening_view (g.T.Standing.base z.1))))
    (λ i. (sym items i, sym told i)) (starts g.T.Standing.stands g.T.Standing.base x (replicate 32 0) c.requires)

pub invariant_of-result : goal.invariant_of-result
invariant_of-result g c =
    let made = IfOk-at_ok _ (was_ok _ _ _ c.in_ok-table.ensures.cases) c.new.ensures.ok in
    let items : c.push_reserved.new.self.items ≡ Some c.args.value ∷ [] = one_item (Option g.row.T.Denot) _ _ _ c.push_reserved.ensures.items c.in_ok-slots.ensures.items in
    record { sized = (made.0, made.1 ∙ ap length items) }

pub invariant_of-result-2 : goal.invariant_of-result-2
invariant_of-result-2 g c =
    let made = IfOk-at_ok _ (was_ok _ _ _ c.in_ok-table.ensures.cases) c.new.ensures.ok in
    let me = made.4 in record {
      settled = ap (λ m. is_settled m.0.stage) me;
      carries = ap (λ m. m.1) me ∙ sym (ap (λ m. carried_at m.0.stage) me);
      numbered = ap (λ m. is_numbered m.0.number) me;
      live = subst (λ (n : ℕ). 0 < n) (sym (ap (λ m. m.0.share.top) me)) (omega arith);
    }

pub returns : goal.returns
returns g c =
    let made = IfOk-at_ok _ (was_ok _ _ _ c.in_ok-table.ensures.cases) c.new.ensures.ok in
    (made.2, ap (λ m. m.0) made.4 ∙ ap (λ x. opening_view (g.T.Standing.base x)) c.of-about.ensures)
