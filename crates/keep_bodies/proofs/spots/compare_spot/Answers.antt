use Rattle.keep_bodies.proofs.Standing.{before_object, by_part, by_object, after_part}
use Rattle.keep_bodies.proofs.spots.compare_spot.Goals as goal

pub returns-then-inside : goal.returns-then-inside
returns-then-inside c =
    before_object c.args.e.now c.args.depth c.args.inside c.args.name.now c.in-None.ensures c.if-inside.true

pub returns-else-inside : goal.returns-else-inside
returns-else-inside c =
    by_part c.args.e.now c.args.depth c.args.inside c.args.name.now c.first_name.result.now c.cmp.result c.in-None.ensures c.if-inside.false c.cmp.ensures c.first_name.ensures

pub returns-then-inside-2 : goal.returns-then-inside-2
returns-then-inside-2 c =
    by_object c.args.e.now c.args.depth c.args.inside c.args.name.now c.as_str.result.now c.in-Some.first.now.bytes c.cmp-then-inside-2.result c.in-Some.ensures c.if-inside-2.true c.cmp-then-inside-2.ensures c.as_str.ensures

pub returns-else-inside-2 : goal.returns-else-inside-2
returns-else-inside-2 c =
    after_part c.args.e.now c.args.depth c.args.inside c.args.name.now c.in-Some.first.now.bytes c.in-Some.ensures c.if-inside-2.false
