use Rattle.std.proofs.Common.{◌∙◌, List, subst, arith}
use Rattle.std.specs.Prelude.{string_bytes}
use Rattle.api_core.specs.declared.seen.Seen.{Seen}
use Rattle.call_texts.specs.Cached.{WasSeen}
use Rattle.call_texts.specs.Listing.{AddsItems}
use Rattle.call_texts.proofs.Paging.{added-item, each-at, got-at, take-all}
use Rattle.call_texts.proofs.context.Context.add_items.Goals as goal

pub loop-i-preserved : goal.loop-i-preserved
loop-i-preserved g c =
    let m = g.V.Versions.meaning c.args.self.now.versions.now in
    let here = got-at c.args.items.now c.loop-i.i c.index-items-i.result c.loop-i-test.true c.index-items-i.is in
    let before = c.loop-i.invariant.rises in
    let now = c.in_ok-add_item.ensures.rises in
    record {
      added = λ log were cached.
          let was = each-at (WasSeen m log) c.loop-i.i c.args.items.now c.index-items-i.result here were in
          let (j, shows, adds) = c.in_ok-add_item.ensures.added log was (c.loop-i.invariant.cached log were cached) in
          added-item m c.args.self.now.boot c.args.v c.loop-i.i (string_bytes c.args.text.now) (string_bytes c.loop-i.text) (string_bytes c.add_item.new.text) c.args.items.now c.index-items-i.result j
          c.loop-i-test.true here (c.loop-i.invariant.added log were cached) shows adds;
      cached = λ log were cached.
          let was = each-at (WasSeen m log) c.loop-i.i c.args.items.now c.index-items-i.result here were in
          c.add_item.ensures.cached log was (c.loop-i.invariant.cached log were cached);
      most = c.add_item.ensures.most ∙ c.loop-i.invariant.most;
      rises = omega (arith, before, now);
    }

pub returns-in_err-add_item-clause-cached : goal.returns-in_err-add_item-clause-cached
returns-in_err-add_item-clause-cached g c = λ log were cached.
    let m = g.V.Versions.meaning c.args.self.now.versions.now in
    let here = got-at c.args.items.now c.loop-i.i c.index-items-i.result c.loop-i-test.true c.index-items-i.is in
    let was = each-at (WasSeen m log) c.loop-i.i c.args.items.now c.index-items-i.result here were in
    c.add_item.ensures.cached log was (c.loop-i.invariant.cached log were cached)

pub returns-clause-added : goal.returns-clause-added
returns-clause-added g c = λ log were cached.
    let m = g.V.Versions.meaning c.args.self.now.versions.now in
    subst (λ (ss : List Seen). AddsItems m c.args.self.now.boot c.args.v (string_bytes c.args.text.now) ss (string_bytes c.loop-i.text)) (take-all c.loop-i.i c.args.items.now c.loop-i-test.false)
    (c.loop-i.invariant.added log were cached)
