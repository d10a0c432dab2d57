use Rattle.std.proofs.Common.{map, refl, ap, ◌∙◌, List, arith}
use Rattle.std.proofs.lemmas.List.{take_all}
use Rattle.kj_value.specs.Texts.{bytes_of}
use Rattle.hub_cells.specs.LevelDepth.{inners_depth}
use Rattle.hub_cells.specs.SeenFit.{inners_of}
use Rattle.hub_cells.specs.declared.fitted.Inner.{Inner}
use Rattle.hub_cells.specs.laws.Inside.{inner_depth}
use Rattle.hub_fills.specs.Fills.{fill_of, fills_within}
use Rattle.hub_fills.specs.inner.UnderLaws.{levels_under}
use Rattle.hub_fills.proofs.Growing.{fills_step, level_filled, level_within}
use Rattle.hub_fills.proofs.choosing.+choosing.Goals as goal

pub inner_fills-loop-o-preserved : goal.inner_fills-loop-o-preserved
inner_fills-loop-o-preserved t c =
    let l = c.loop-o in
    fills_step (map bytes_of c.args.path.now) (map bytes_of c.as_slice.result.now) c.args.fits.now l.deeper.items c.push.new.self.items c.in_ok-fills.fills c.args.inners.now l.o-index c.o-item.result c.loop-o-test.true c.o-item.is (ap (map bytes_of) c.as_slice.ensures.value ∙ c.in_ok-below.ensures) c.in_ok-push.ensures.items c.in_ok-fills.ensures l.invariant

pub level_fills-returns : goal.level_fills-returns
level_fills-returns t c =
    let ms = levels_under (map bytes_of c.args.path.now) c.args.fits.now in
    c.new.ensures ∙ level_filled ms c.args.f.now.level _ _ (c.in_ok-values.ensures ∙ ap (map (fill_of ms)) c.cells.ensures.cells) (c.in_ok-inner.ensures ∙ ap (fills_within ms) c.inner.ensures.inner)

pub inner_fills-returns : goal.inner_fills-returns
inner_fills-returns t c =
    c.loop-o.invariant
    ∙ ap (λ (is : List Inner). fills_within (levels_under (map bytes_of c.args.path.now) c.args.fits.now) (inners_of is)) (take_all c.loop-o.o-index c.args.inners.now c.loop-o-test.false)

pub level_fills-inner_fills-requires : goal.level_fills-inner_fills-requires
level_fills-inner_fills-requires t c =
    let same = ap inners_depth c.inner.ensures.inner in
    let deep = level_within c.args.f.now.level in
    (omega (arith, same, deep, c.decreases), c.requires)

pub inner_fills-level_fills-requires : goal.inner_fills-level_fills-requires
inner_fills-level_fills-requires t c =
    let deep = inner_depth c.args.inners.now (inners_of c.args.inners.now) c.loop-o.o-index c.o-item.result refl c.loop-o-test.true c.o-item.is in
    (omega (arith, deep, c.decreases), c.requires)
