use Rattle.std.proofs.Common.{List, Some, drop, ap, sym, ◌∙◌, arith}
use Rattle.std.proofs.lemmas.List.{drop_all}
use Rattle.kj_value.specs.Seen.{json}
use Rattle.kj_value.specs.declared.value.JVal.{JVal}
use Rattle.hub_cells.specs.SeenFit.{inners_of}
use Rattle.hub_cells.specs.declared.fitted.Inner.{Inner}
use Rattle.hub_fills.specs.SeenFills.{within_of}
use Rattle.keep_laws.specs.Body.{object_in}
use Rattle.keep_bodies.specs.inner.Filling.{put_object, fill_level, fill_inners}
use Rattle.keep_bodies.proofs.Lacking.{inners_fill_all, put_is}
use Rattle.keep_bodies.proofs.completing.+filling.Goals as goal

pub fill_inners-returns-then-i-fills : goal.fill_inners-returns-then-i-fills
fill_inners-returns-then-i-fills t c =
    sym (inners_fill_all c.args.inners.now c.args.fills.now c.loop-i.i c.loop-i.x (omega (arith, c.if-i-fills.true))) ∙ c.loop-i.invariant

pub put_filled-returns : goal.put_filled-returns
put_filled-returns t c =
    put_is c.args.o.now.hub.bytes _ (fill_level c.args.o.now.fitted.level c.args.fills.now) c.args.v c.in-Obj.y c.in_ok-full-in-Obj.full c.args.x.now c.set.new.self c.in-Obj.is (c.in_ok-name-in-Obj.ensures ∙ c.as_str.ensures) c.in_ok-full-in-Obj.ensures c.in_ok-set-in-Obj.ensures.ok

pub fill_inners-returns : goal.fill_inners-returns
fill_inners-returns t c =
    ap (λ (is : List Inner). fill_inners (inners_of is) (within_of (drop c.loop-i.i c.args.fills.now)) c.loop-i.x) (sym (drop_all c.loop-i.i c.args.inners.now c.loop-i-test.false)) ∙ c.loop-i.invariant

pub put_filled-returns-in-Null : goal.put_filled-returns-in-Null
put_filled-returns-in-Null t c =
    ap (λ (v : JVal). put_object c.args.o.now.hub.bytes (fill_level c.args.o.now.fitted.level c.args.fills.now) (object_in (Some (json v))) c.args.x.now) (sym c.in-Null.is)

pub put_filled-returns-in-Bool : goal.put_filled-returns-in-Bool
put_filled-returns-in-Bool t c =
    ap (λ (v : JVal). put_object c.args.o.now.hub.bytes (fill_level c.args.o.now.fitted.level c.args.fills.now) (object_in (Some (json v))) c.args.x.now) (sym c.in-Bool.is)

pub put_filled-returns-in-Int : goal.put_filled-returns-in-Int
put_filled-returns-in-Int t c =
    ap (λ (v : JVal). put_object c.args.o.now.hub.bytes (fill_level c.args.o.now.fitted.level c.args.fills.now) (object_in (Some (json v))) c.args.x.now) (sym c.in-Int.is)

pub put_filled-returns-in-Text : goal.put_filled-returns-in-Text
put_filled-returns-in-Text t c =
    ap (λ (v : JVal). put_object c.args.o.now.hub.bytes (fill_level c.args.o.now.fitted.level c.args.fills.now) (object_in (Some (json v))) c.args.x.now) (sym c.in-Text.is)

pub put_filled-returns-in-List : goal.put_filled-returns-in-List
put_filled-returns-in-List t c =
    ap (λ (v : JVal). put_object c.args.o.now.hub.bytes (fill_level c.args.o.now.fitted.level c.args.fills.now) (object_in (Some (json v))) c.args.x.now) (sym c.in-List.is)
