-- What a worker's turn leaves of a core whose claim is lost.
use Rattle.std.proofs.Common.{◌≡◌, ℕ, List, Option, None, Some, ap, sym, refl, ◌∙◌}
use Rattle.std.specs.Prelude.{map}
use Rattle.migrate_core.specs.View.{MigrationsView}
use Rattle.migrate_core.specs.Moves as moves
use Rattle.migrate_core.specs.Rows.{elsewhere}
use Rattle.migrate_core.specs.declared.records.Row.{Row}
use Rattle.migrate_core.specs.declared.ends.Advance.TheVariants as advance
use Rattle.api_core.specs.declared.ends.TurnEnd.{TurnEnd}
use Rattle.api_core.specs.declared.ends.TurnEnd.TheVariants as turn
use Rattle.api_core.specs.Steps.{item_row}
use Rattle.api_core.specs.View.{CoreView}
use Rattle.api_core.specs.Changes.{after_turn}
use Rattle.api_core.specs.CoreOf.{CoreOf}

-- one that tells that the claim is lost had none
lost : (o : Option moves.Work) (rows : List Row) → advance.Lost ≡ moves.advance_end o rows → o ≡ None
lost None rows is = refl
lost (Some w) rows is = by (elsewhere w.span w.target rows) is
  where
    by : (r : Option Row) → advance.Lost ≡ moves.next_step r → Some w ≡ None
    by None is = cc
    by (Some r) is = cc

-- without work a turn does the same by any claim
idle : (end : TurnEnd) (claim : Option ℕ) (c : CoreView) → moves.work_of claim c.migrations ≡ None → after_turn end None None c ≡ after_turn end claim None c
idle turn.Idle claim c none = refl
idle turn.Claimed claim c none = refl
idle (turn.Prepare k rv) claim c none = refl
idle (turn.Touched rv) claim c none = refl
idle turn.Moved claim c none = refl
idle turn.RangeDone claim c none =
    ap (λ (o : Option moves.Work). record c { migrations = moves.after_advance o (map item_row c.store.items) c.migrations }) (sym none)
idle (turn.Finished rv) claim c none = refl

-- what the turn without a claim leaves is what the whole turn leaves
pub began : {V : Type 0} (now x : CoreOf V) (claim : Option ℕ) (end : TurnEnd) (ms : MigrationsView) (after : CoreOf V) → x ≡ now
    → advance.Lost ≡ moves.advance_end (moves.work_of claim x.view.migrations) (map item_row x.view.store.items)
    → ms ≡ moves.after_advance (moves.work_of claim x.view.migrations) (map item_row x.view.store.items) x.view.migrations
    → after ≡ record x { view = after_turn end None None (record x.view { migrations = ms }) }
    → after ≡ record now { view = after_turn end claim None now.view }
began {V} now x claim end ms after is answer plan made =
    let none = lost (moves.work_of claim x.view.migrations) (map item_row x.view.store.items) answer in
    let same : ms ≡ x.view.migrations = plan ∙ ap (λ (o : Option moves.Work). moves.after_advance o (map item_row x.view.store.items) x.view.migrations) none in
    made
    ∙ ap (λ (v : MigrationsView). record x { view = after_turn end None None (record x.view { migrations = v }) }) same
    ∙ ap (λ (c : CoreView). record x { view = c }) (idle end claim x.view none)
    ∙ ap (λ (z : CoreOf V). record z { view = after_turn end claim None z.view }) is
