use Rattle.std.proofs.Common.{◌≡◌, ◌≤◌, List, ap, sym, subst, refl, map, ◌∙◌, arith}
use Rattle.std.specs.Prelude.{IfOk, option_copied}
use Rattle.kube_meta.specs.Page.{listed, page_of}
use Rattle.record_store.specs.ByKey.{KeysRise}
use Rattle.record_store.specs.Rows.{row_key}
use Rattle.record_store.specs.declared.row.Row.{Row}
use Rattle.record_store.specs.View.{Item, StoreView, item_key, items_at}
use Rattle.record_store.specs.Inside.{AreKept, IsKept, item_of}
use Rattle.record_store.specs.Copies.{ShowsCopies}
use Rattle.record_store.specs.declared.page.Pick.{Pick}
use Rattle.record_store.specs.declared.record.StorePage.{StorePage}
use Rattle.record_store.specs.inner.Picked.{Shown, merged, no_rows, pick_key, rows_in, standing, superseded, with_more}
use Rattle.record_store.proofs.Paged.{present_seen, page_seen, picks_kept}
use Rattle.record_store.proofs.Pieces.{rows-weigh}
use Rattle.record_store.proofs.Steps.{each-shown, page-items, page-behind}
use Rattle.record_store.proofs.store.Store.page_at.Goals as goal

pub returns-then-self-rv-clause-page : goal.returns-then-self-rv-clause-page
returns-then-self-rv-clause-page c =
    let present =
    subst (λ (v : StoreView). items_at c.args.rv v ≡ v.items) c.self.view_is
    (present_seen c.self.inside.limits c.self.inside.index c.self.inside.window c.self.inside.region c.self.inside.live c.self.inside.last c.args.rv c.self.invariant (omega arith)) in
    subst (λ (xs : List Item). IfOk c.page_now.result (λ (page : StorePage). ShowsCopies page (page_of c.args.rv c.args.limit (listed item_key (option_copied c.args.ns) (option_copied c.args.after) xs)))) (sym present) c.page_now.ensures

pub returns-then-self-rv-clause-present : goal.returns-then-self-rv-clause-present
returns-then-self-rv-clause-present c =
    subst (λ (v : StoreView). v.last ≤ c.args.rv → items_at c.args.rv v ≡ v.items) c.self.view_is (present_seen c.self.inside.limits c.self.inside.index c.self.inside.window c.self.inside.region c.self.inside.live c.self.inside.last c.args.rv c.self.invariant)

pub listed-requires-clause-order : goal.listed-requires-clause-order
listed-requires-clause-order c = subst (λ (ps : List Pick). KeysRise (map pick_key ps)) (sym c.as_slice.ensures.value) c.in_ok-olds.ensures.order

pub listed-requires-clause-few : goal.listed-requires-clause-few
listed-requires-clause-few c =
    let weigh = rows-weigh c.self.inside.region c.self.inside.index.rows c.self.invariant.shares.kept in
    let lives = c.self.invariant.lives in
    let light = c.self.invariant.light in
    let small = c.self.invariant.small in
    omega (arith, weigh, lives, light, small)

pub copies-requires : goal.copies-requires
copies-requires c =
    let all = listed row_key (option_copied c.args.ns) (option_copied c.args.after) (merged row_key (standing c.args.rv c.self.inside.index.rows) (superseded c.args.rv c.self.inside.window.items)) in
    let shown =
    c.in_ok-listing.ensures
    ∙ ap (λ (zs : List Row). with_more c.args.limit no_rows (listed row_key (option_copied c.args.ns) (option_copied c.args.after) (merged row_key (standing c.args.rv c.self.inside.index.rows) zs))) (ap rows_in c.as_slice.ensures.value ∙ c.in_ok-olds.ensures.rows) in
    let kept = picks_kept c.self.inside.region c.self.inside.index c.self.inside.window c.args.rv (option_copied c.args.ns) (option_copied c.args.after) all refl c.self.invariant.shares.kept c.self.invariant.shares.past_kept in
    subst (AreKept c.self.inside.region) (sym (ap rows_in c.as_slice-2.ensures.value ∙ ap (λ (p : Shown). p.rows) shown)) (each-shown (IsKept c.self.inside.region) c.args.limit all kept)

pub returns-clause-page : goal.returns-clause-page
returns-clause-page c =
    let all = listed row_key (option_copied c.args.ns) (option_copied c.args.after) (merged row_key (standing c.args.rv c.self.inside.index.rows) (superseded c.args.rv c.self.inside.window.items)) in
    let shown =
    c.in_ok-listing.ensures
    ∙ ap (λ (zs : List Row). with_more c.args.limit no_rows (listed row_key (option_copied c.args.ns) (option_copied c.args.after) (merged row_key (standing c.args.rv c.self.inside.index.rows) zs))) (ap rows_in c.as_slice.ensures.value ∙ c.in_ok-olds.ensures.rows) in
    let f = item_of c.self.inside.region in
    let seen = page_seen c.self.inside.limits c.self.inside.index c.self.inside.window c.self.inside.region c.self.inside.last c.args.rv (option_copied c.args.ns) (option_copied c.args.after) all refl ∙ ap (λ (v : StoreView). listed item_key (option_copied c.args.ns) (option_copied c.args.after) (items_at c.args.rv v)) c.self.view_is in
    record {
      items =
          c.in_ok-items.ensures ∙ ap (map f) (ap rows_in c.as_slice-2.ensures.value ∙ ap (λ (p : Shown). p.rows) shown) ∙ page-items f c.args.rv c.args.limit all
          ∙ ap (λ (xs : List Item). (page_of c.args.rv c.args.limit xs).items) seen;
      remaining = ap (λ (p : Shown). p.behind) shown ∙ page-behind f c.args.rv c.args.limit all ∙ ap (λ (xs : List Item). (page_of c.args.rv c.args.limit xs).remaining) seen;
    }

pub returns-clause-present : goal.returns-clause-present
returns-clause-present c =
    subst (λ (v : StoreView). v.last ≤ c.args.rv → items_at c.args.rv v ≡ v.items) c.self.view_is (present_seen c.self.inside.limits c.self.inside.index c.self.inside.window c.self.inside.region c.self.inside.live c.self.inside.last c.args.rv c.self.invariant)

pub returns-in_err-olds-clause-present : goal.returns-in_err-olds-clause-present
returns-in_err-olds-clause-present c =
    subst (λ (v : StoreView). v.last ≤ c.args.rv → items_at c.args.rv v ≡ v.items) c.self.view_is (present_seen c.self.inside.limits c.self.inside.index c.self.inside.window c.self.inside.region c.self.inside.live c.self.inside.last c.args.rv c.self.invariant)

pub returns-in_err-listing-clause-present : goal.returns-in_err-listing-clause-present
returns-in_err-listing-clause-present c =
    subst (λ (v : StoreView). v.last ≤ c.args.rv → items_at c.args.rv v ≡ v.items) c.self.view_is (present_seen c.self.inside.limits c.self.inside.index c.self.inside.window c.self.inside.region c.self.inside.live c.self.inside.last c.args.rv c.self.invariant)

pub returns-in_err-items-clause-present : goal.returns-in_err-items-clause-present
returns-in_err-items-clause-present c =
    subst (λ (v : StoreView). v.last ≤ c.args.rv → items_at c.args.rv v ≡ v.items) c.self.view_is (present_seen c.self.inside.limits c.self.inside.index c.self.inside.window c.self.inside.region c.self.inside.live c.self.inside.last c.args.rv c.self.invariant)
