use Rattle.std.proofs.Common.{refl}
use Rattle.form_urlencoded.specs.Parse.{pairs_left}
use Rattle.http_routes.specs.Queries.{pairs_of}
use Rattle.http_routes.proofs.Values.{one_more, no_more}
use Rattle.http_routes.proofs.query.pairs.Goals as goal

pub loop-pair-init : goal.loop-pair-init
unfolding pairs_of
loop-pair-init c = rw (c.new-pairs.ensures.items, c.parse-left.ensures.value) refl

pub loop-pair-preserved : goal.loop-pair-preserved
loop-pair-preserved c =
    let y = c.in-Some.ensures.steps.0 in
    let texts = rw c.in_ok-pair.was at y.3 in
    one_more c.loop-pair.pairs.items c.push.new.self.items c.in_ok-pair.field-0 (pairs_left c.loop-pair.left) (pairs_left c.next.new.self) (pairs_of c.args.query.now)
    c.loop-pair.invariant c.in_ok-push.ensures.items (y.0, y.1, y.2, texts.0, texts.1)

pub returns : goal.returns
returns c = no_more c.loop-pair.pairs.items (pairs_left c.loop-pair.left) (pairs_of c.args.query.now) c.loop-pair.invariant c.in_default.ensures.steps.0
