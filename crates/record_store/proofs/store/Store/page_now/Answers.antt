use Rattle.std.proofs.Common.{◌≡◌, ◌-◌, ℕ, List, length, take, drop, ap, sym, map, ◌∙◌, arith}
use Rattle.std.proofs.lemmas.List.{length-drop, length-take, take-take}
use Rattle.std.specs.Prelude.{◌&&◌, not, option_copied}
use Rattle.kube_meta.specs.Page.{bound_after, in_namespace, listed, page_of}
use Rattle.kube_meta.specs.Plan.{passed}
use Rattle.record_store.specs.View.{Item, StoreView, item_key}
use Rattle.record_store.specs.Inside.{item_of}
use Rattle.record_store.proofs.Paged.{filter-seen}
use Rattle.record_store.proofs.Steps.{paged}
use Rattle.record_store.proofs.store.Store.page_now.Goals as goal

pub returns : goal.returns
returns c =
    let f = item_of c.self.inside.region in
    let rows = c.self.inside.index.rows in
    let s = c.stretch-from.result in
    let part = take (c.stretch-from.result.to - c.stretch-from.result.from) (drop c.stretch-from.result.from c.self.inside.index.rows) in
    let long : length (take (c.stretch-from.result.to - c.stretch-from.result.from) (drop c.stretch-from.result.from c.self.inside.index.rows)) ≡ c.stretch-from.result.to - c.stretch-from.result.from =
    omega (arith, length-take (c.stretch-from.result.to - c.stretch-from.result.from) (drop c.stretch-from.result.from c.self.inside.index.rows), length-drop c.stretch-from.result.from c.self.inside.index.rows, c.stretch-from.ensures.within) in
    let shown = paged f c.args.rv c.args.limit c.shown-count.result part (λ z. let a = c.shown-count.ensures.all z in omega (arith, a, long)) (λ h. let a = c.shown-count.ensures.few (omega (arith, h, long)) in omega (arith, a, long))
    (λ z h. c.shown-count.ensures.some z (omega (arith, h, long))) in
    let seen =
    ap (map f) (sym c.stretch-from.ensures.rows)
    ∙ sym (filter-seen f (λ x. in_namespace (option_copied c.args.ns) (item_key x) && not (passed (bound_after (option_copied c.args.after)) (item_key x))) rows)
    ∙ ap (λ (v : StoreView). listed item_key (option_copied c.args.ns) (option_copied c.args.after) v.items) c.self.view_is in
    record {
      items =
          c.in_ok-items.ensures ∙ ap (map f) (sym (take-take c.shown-count.result (s.to - s.from) (drop s.from rows) c.shown-count.ensures.within)) ∙ shown.items
          ∙ ap (λ (xs : List Item). (page_of c.args.rv c.args.limit xs).items) seen;
      remaining = ap (λ (m : ℕ). m - c.shown-count.result) (sym long) ∙ shown.remaining ∙ ap (λ (xs : List Item). (page_of c.args.rv c.args.limit xs).remaining) seen;
    }
