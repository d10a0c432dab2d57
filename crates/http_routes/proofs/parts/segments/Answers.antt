use Rattle.std.proofs.Common.{map, arith}
use Rattle.std.specs.Cow.{cow_slice_items}
use Rattle.std.proofs.lemmas.List.{length-map}
use Rattle.http_routes.proofs.Pieces.{too_many}
use Rattle.http_routes.proofs.parts.segments.Goals as goal

pub returns : goal.returns
returns c =
    let n = length-map c.loop-rest.parts.items cow_slice_items in
    too_many c.args.path.now c.loop-rest.rest.now (map cow_slice_items c.loop-rest.parts.items) c.loop-rest.invariant (omega (arith, n, c.len.ensures, c.loop-rest-test.false, c.loop-rest.parts.ok))
