use Rattle.std.proofs.Common.{◌≡◌, [], ◌∷◌, ℕ, Some, None, rules, sym, subst, ap, ◌∙◌}
use Rattle.atomic_table.specs.Table.{rest}
use Rattle.std.proofs.Common.{◌<◌}
use Rattle.turn_cell.specs.declared.view.View.{View}
use Rattle.turn_cell.specs.Turns.{carried_at}
use Rattle.turn_cell.proofs.Keeps.{passes_on}
use Rattle.turn_cell.proofs.turn.Turn.give.Goals as goal

pub fetch_add-served-requires : goal.fetch_add-served-requires
fetch_add-served-requires g c =
    let p = c.args.pass.now in
    let now = c.exchange-emptied.ensures.3 in
    let had : p.seat.me.1 ≡ (0, None) ∷ [] = p.carries ∙ ap carried_at c.requires.holds.2 in
    let carried : c.exchange-emptied.new.seat.me.1 ≡ (0, Some c.args.value) ∷ [] = ap (λ m. m.1) now ∙ ap (λ cs. (0, Some c.args.value) ∷ rest cs) had in (
      search rules,
      search rules,
      passes_on g.T.Standing.stands g.T.Standing.base _ _ _ c.args.value c.requires.holds.0 c.requires.holds.1 carried (ap (λ m. m.0.stage) now ∙ c.requires.holds.2)
          (subst (λ (n : ℕ). 0 < n) (sym (ap (λ m. m.0.share.top) now)) p.live) (subst (λ (v : View g.row.T-Base.Denot). g.T.Standing.stands c.args.value v.seen) (sym (ap (λ m. m.0) now)) c.requires.stands.0)
          (ap (λ m. m.0.base) now ∙ c.requires.stands.1),
    )
