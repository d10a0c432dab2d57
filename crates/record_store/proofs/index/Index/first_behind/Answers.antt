use Rattle.std.proofs.Common.{ℕ, Option, ap, sym, ◌∙◌, arith, drop, Bor}
use Rattle.std.specs.Prelude.{option_copied}
use Rattle.kube_meta.specs.Key.{KeyView}
use Rattle.record_store.specs.ByKey.{all_behind, place_behind}
use Rattle.record_store.specs.Rows.{row_key}
use Rattle.record_store.proofs.Places.{IsBegin, begins, none-behind}
use Rattle.record_store.proofs.index.Index.first_behind.Goals as goal

pub place_behind-requires : goal.place_behind-requires
place_behind-requires c =
    let h = begins row_key c.in-Some.key.now _ _ c.args.self.now.rows c.seek.result c.ns.ensures.value c.name.ensures.value c.seek.ensures.order c.seek.ensures.place in
    omega (arith, h.within, c.seek.ensures.counted)

its_begin : (c : goal.After-place_behind) → IsBegin row_key c.in-Some.key.now c.args.self.now.rows (place_behind c.seek.result)
its_begin c = begins row_key c.in-Some.key.now _ _ c.args.self.now.rows c.seek.result c.ns.ensures.value c.name.ensures.value c.seek.ensures.order c.seek.ensures.place

pub returns-in-Some-clause-within : goal.returns-in-Some-clause-within
returns-in-Some-clause-within c = let h = its_begin c in omega (arith, h.within, c.place_behind.ensures)

pub returns-in-Some-clause-rows : goal.returns-in-Some-clause-rows
returns-in-Some-clause-rows c =
    let h = its_begin c in
    ap (λ (n : ℕ). drop n c.args.self.now.rows) c.place_behind.ensures ∙ h.rows ∙ ap (λ (o : Option (Bor KeyView)). all_behind row_key (option_copied o) c.args.self.now.rows) (sym c.in-Some.is)

pub returns-in-None-clause-rows : goal.returns-in-None-clause-rows
returns-in-None-clause-rows c = none-behind row_key c.args.self.now.rows ∙ ap (λ (o : Option (Bor KeyView)). all_behind row_key (option_copied o) c.args.self.now.rows) (sym c.in-None.is)
