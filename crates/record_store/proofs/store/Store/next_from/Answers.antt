use Rattle.std.proofs.Common.{Option, Some, None, ap, sym, ◌∙◌, Bor, not}
use Rattle.std.specs.Prelude.{option_copied, option_map, find as first}
use Rattle.kube_meta.specs.Key.{KeyView}
use Rattle.kube_meta.specs.Page.{bound_after}
use Rattle.kube_meta.specs.Plan.{passed}
use Rattle.record_store.specs.declared.row.Row.{Row}
use Rattle.record_store.specs.declared.row.Record.{Record}
use Rattle.record_store.specs.View.{StoreView}
use Rattle.record_store.proofs.Answered.{nexted, told_item}
use Rattle.record_store.proofs.store.Store.next_from.Goals as goal

pub returns-in-Some : goal.returns-in-Some
returns-in-Some c =
    let found = ap (λ (o : Option (Bor Row)). option_copied o) (sym c.in-Some.is) ∙ c.next_from.ensures in
    let both = ap (λ (k : KeyView). let t : KeyView × Record = (k, c.in-Some.row.now.record) in Some t) c.spot.ensures in
    both ∙ nexted c.self.inside.region c.self.inside.index.rows (λ k. not (passed (bound_after (option_copied c.args.after)) k)) (Some c.in-Some.row.now) c.self.invariant.shares.kept found
    ∙ ap (λ (v : StoreView). option_map told_item (first (λ x. not (passed (bound_after (option_copied c.args.after)) x.key)) v.items)) c.self.view_is

pub returns-in-None : goal.returns-in-None
returns-in-None c =
    let found = ap (λ (o : Option (Bor Row)). option_copied o) (sym c.in-None.is) ∙ c.next_from.ensures in
    nexted c.self.inside.region c.self.inside.index.rows (λ k. not (passed (bound_after (option_copied c.args.after)) k)) None c.self.invariant.shares.kept found
    ∙ ap (λ (v : StoreView). option_map told_item (first (λ x. not (passed (bound_after (option_copied c.args.after)) x.key)) v.items)) c.self.view_is
