-- What an advance that gives a key to prepare leaves: the key is in the claim's span, and nothing has changed.
use Rattle.std.specs.Prelude.{◌≡◌, ℕ, Bool, true, false, not, ◌&&◌, List, [], ◌∷◌, Option, None, Some, nat_eq, if◌then◌else◌}
use Rattle.std.proofs.Common.{refl, ap, sym, ◌∙◌}
use Rattle.kube_meta.specs.Key.{KeyView}
use Rattle.kube_meta.specs.Plan.{Span, in_span}
use Rattle.migrate_core.specs.declared.ends.Advance.TheVariants.{Prepare}
use Rattle.migrate_core.specs.declared.records.Row.{Row}
use Rattle.migrate_core.specs.Rows.{elsewhere}
use Rattle.migrate_core.specs.View.{MigrationsView}
use Rattle.migrate_core.specs.Moves.{Work, IsInWork, next_step, advance_end, after_step, after_advance}

pub elsewhere-in_span : (r : Span) (v : ℕ) (es : List Row) (f : Row) → elsewhere r v es ≡ Some f → in_span r f.key ≡ true
elsewhere-in_span r v [] f h = cc
elsewhere-in_span r v (e ∷ es) f h = by (in_span r e.key) refl (nat_eq e.at v) h (elsewhere-in_span r v es f)
  where
    by : (a : Bool) → in_span r e.key ≡ a → (b : Bool) → (if a && not b then Some e else elsewhere r v es) ≡ Some f → (elsewhere r v es ≡ Some f → in_span r f.key ≡ true)
        → in_span r f.key ≡ true
    by true is true h more = more h
    by true is false h more =
        let same : e ≡ f = cc in
        ap (λ (g : Row). in_span r g.key) (sym same) ∙ is
    by false is b h more = more h

pub prepared-in_work : (w : Option Work) (rows : List Row) (k : KeyView) (n : ℕ) → advance_end w rows ≡ Prepare k n → IsInWork k w
prepared-in_work None rows k n h = cc
prepared-in_work (Some w) rows k n h = by (elsewhere w.span w.target rows) refl h
  where
    by : (o : Option Row) → elsewhere w.span w.target rows ≡ o → next_step o ≡ Prepare k n → in_span w.span k ≡ true
    by None is h = cc
    by (Some e) is h =
        let same : e.key ≡ k = cc in
        ap (λ (l : KeyView). in_span w.span l) (sym same) ∙ elsewhere-in_span w.span w.target rows e is

pub after_advance-prepared : (w : Option Work) (rows : List Row) (k : KeyView) (n : ℕ) (v : MigrationsView) → advance_end w rows ≡ Prepare k n → after_advance w rows v ≡ v
after_advance-prepared None rows k n v h = refl
after_advance-prepared (Some w) rows k n v h = by (elsewhere w.span w.target rows) h
  where
    by : (o : Option Row) → next_step o ≡ Prepare k n → after_step w.claim o v ≡ v
    by None h = cc
    by (Some e) h = refl
