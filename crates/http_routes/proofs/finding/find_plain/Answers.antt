use Rattle.std.proofs.Common.{◌∙◌, ◌+◌, refl, sym}
use Rattle.std.proofs.lemmas.List.{take_rest}
use Rattle.http_routes.specs.Paths.{segments}
use Rattle.http_routes.specs.Routes.{path_in}
use Rattle.http_routes.proofs.Nothing.{nothing_long}
use Rattle.http_routes.proofs.Plain.{walk_byte, walk_slash, walk_over, slash_left, finds_mark, finds_end}
use Rattle.http_routes.proofs.finding.find_plain.Goals as goal
use Rattle.http_routes.proofs.finding.find_plain.Goals.{then-is_stop+else-target-i-eq37+else-target-i-eq63+else-count-eq-MOST_SEGMENTS, else-is_stop}

pub loop-i-preserved : goal.loop-i-preserved
loop-i-preserved g c =
    elim c.if-is_stop.branch [
      | then-is_stop+else-target-i-eq37+else-target-i-eq63+else-count-eq-MOST_SEGMENTS w ↦ walk_slash c.args.target.now c.loop-i.parts c.loop-i.count c.loop-i.start c.loop-i.i c.loop-i.invariant _ _ _ _ w.parts-is w.count-is w.start-is c.loop-i-test.true
          (slash_left _ (sym c.is_stop.ensures ∙ w.if-is_stop.true) w.if-target-i-eq37.false w.if-target-i-eq63.false) refl w.if-count-eq-MOST_SEGMENTS.false
      | else-is_stop w ↦ rw (w.parts-is, w.count-is, w.start-is) (walk_byte c.args.target.now c.loop-i.parts c.loop-i.count c.loop-i.start c.loop-i.i c.loop-i.invariant c.loop-i-test.true (sym c.is_stop.ensures ∙ w.if-is_stop.false))
    ]

pub returns-then-target-i-eq63 : goal.returns-then-target-i-eq63
returns-then-target-i-eq63 g c =
    finds_mark c.args.target.now c.loop-i.parts c.loop-i.count c.loop-i.start c.loop-i.i c.loop-i.invariant (g.V.Versions.meaning c.args.versions.now) _ _ c.named.result c.as_found.result c.as_found.ensures c.named.ensures.names c.named.ensures.fits
    c.loop-i-test.true c.if-target-i-eq63.true refl (take_rest c.args.target.now (c.loop-i.i + 1))

pub returns-then-count-eq-MOST_SEGMENTS : goal.returns-then-count-eq-MOST_SEGMENTS
returns-then-count-eq-MOST_SEGMENTS g c =
    nothing_long (g.V.Versions.meaning c.args.versions.now) (segments (path_in c.args.target.now))
    (walk_over c.args.target.now c.loop-i.parts c.loop-i.count c.loop-i.start c.loop-i.i c.loop-i.invariant c.loop-i-test.true (slash_left _ (sym c.is_stop.ensures ∙ c.if-is_stop.true) c.if-target-i-eq37.false c.if-target-i-eq63.false) c.if-count-eq-MOST_SEGMENTS.true)

pub returns : goal.returns
returns g c =
    finds_end c.args.target.now c.loop-i.parts c.loop-i.count c.loop-i.start c.loop-i.i c.loop-i.invariant (g.V.Versions.meaning c.args.versions.now) _ _ c.named-2.result c.as_found-2.result c.as_found-2.ensures c.named-2.ensures.names c.named-2.ensures.fits
    c.loop-i-test.false (take_rest c.args.target.now c.loop-i.start) refl
