use Rattle.std.proofs.Common.{List, Option, ap, sym, refl, ◌∙◌, arith, add-one, Bor}
use Rattle.std.specs.Prelude.{slice_get, option_copied, find as first, not}
use Rattle.kube_meta.specs.Key.{KeyView}
use Rattle.kube_meta.specs.Page.{bound_after}
use Rattle.kube_meta.specs.Plan.{passed}
use Rattle.record_store.specs.Rows.{row_key}
use Rattle.record_store.specs.declared.row.Row.{Row}
use Rattle.record_store.proofs.Places.{hit_of, miss_of, first_of_all}
use Rattle.record_store.proofs.index.Index.next_from.Goals as goal
use Rattle.record_store.proofs.index.Index.next_from.Goals.{in-Some+in-Ok, in-Some+in-Err, in-None}

pub overflow_add-from : goal.overflow_add-from
overflow_add-from c =
    let h = hit_of row_key c.in-Some.key.now _ _ _ _ _ c.ns.ensures.value c.name.ensures.value refl c.in-Ok.ensures.place in
    omega (arith, h.within, c.in-Ok.ensures.counted)

-- the first row behind a key, if there is one
abbrev after : List Row → Option KeyView → Option Row
after rows k = first (λ r. not (passed (bound_after k) r.key)) rows

pub returns : goal.returns
returns c =
    let rows = c.args.self.now.rows in
    elim c.match-after.branch [
      | in-Some+in-Ok w ↦
          let h = hit_of row_key w.in-Some.key.now _ _ _ _ _ w.ns.ensures.value w.name.ensures.value refl w.in-Ok.ensures.place in
          c.get.ensures ∙ ap (slice_get rows) (w.from-is ∙ add-one w.in-Ok.i) ∙ h.later w.in-Ok.ensures.order ∙ ap (λ (o : Option (Bor KeyView)). after rows (option_copied o)) (sym w.in-Some.is)
      | in-Some+in-Err w ↦
          let h = miss_of row_key w.in-Some.key.now _ _ _ _ _ w.ns.ensures.value w.name.ensures.value refl w.in-Err.ensures.place in
          c.get.ensures ∙ ap (slice_get rows) w.from-is ∙ h.later ∙ ap (λ (o : Option (Bor KeyView)). after rows (option_copied o)) (sym w.in-Some.is)
      | in-None w ↦
          c.get.ensures ∙ ap (slice_get rows) w.from-is ∙ first_of_all row_key rows ∙ ap (λ (o : Option (Bor KeyView)). after rows (option_copied o)) (sym w.in-None.is)
    ]
