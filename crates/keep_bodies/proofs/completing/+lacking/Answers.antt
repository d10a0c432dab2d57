use Rattle.std.proofs.Common.{List, Option, drop, ap, sym, ◌∙◌, arith}
use Rattle.std.proofs.lemmas.List.{drop_all}
use Rattle.kj_value.specs.Fields.{Pairs, field}
use Rattle.hub_cells.specs.Level.{Name}
use Rattle.hub_cells.specs.SeenFit.{inners_of}
use Rattle.hub_cells.specs.declared.fitted.Inner.{Inner}
use Rattle.hub_fills.specs.SeenFills.{within_of}
use Rattle.keep_laws.specs.Body.{object_in}
use Rattle.keep_bodies.specs.inner.Filling.{object_lacks, lacks, inners_lack}
use Rattle.keep_bodies.proofs.Lacking.{inners_lack_all}
use Rattle.keep_bodies.proofs.completing.+lacking.Goals as goal

pub inners_lack-returns-then-i-fills : goal.inners_lack-returns-then-i-fills
inners_lack-returns-then-i-fills t c =
    sym (inners_lack_all c.args.inners.now c.args.fills.now c.loop-i.i c.args.x.now (omega (arith, c.if-i-fills.true))) ∙ c.loop-i.invariant

pub inners_lack-returns : goal.inners_lack-returns
inners_lack-returns t c =
    ap (λ (is : List Inner). inners_lack (inners_of is) (within_of (drop c.loop-i.i c.args.fills.now)) c.args.x.now) (sym (drop_all c.loop-i.i c.args.inners.now c.loop-i-test.false)) ∙ c.loop-i.invariant

pub inner_lacks-returns-in-None : goal.inner_lacks-returns-in-None
inner_lacks-returns-in-None t c =
    ap (λ (o : Option Pairs). object_lacks (lacks c.args.o.now.fitted.level c.args.fills.now) o) (c.in-None.ensures ∙ ap (λ (n : Name). object_in (field n c.args.x.now)) c.as_str.ensures)

pub inner_lacks-returns-in-Some : goal.inner_lacks-returns-in-Some
inner_lacks-returns-in-Some t c =
    c.level_lacks.ensures
    ∙ ap (λ (o : Option Pairs). object_lacks (lacks c.args.o.now.fitted.level c.args.fills.now) o) (c.in-Some.ensures ∙ ap (λ (n : Name). object_in (field n c.args.x.now)) c.as_str.ensures)
