use Rattle.place.proofs.Pieces.{too_many}
use Rattle.place.proofs.paths.names_in.Goals as goal

pub returns-in-Some : goal.returns-in-Some
returns-in-Some c n is =
    too_many c.args.path.now _ _ _ _ _ c.in_ok-before.rest.now c.in_ok-apis.rest.now c.in_ok-group.rest.now c.in_ok-version.plural.now c.in-Some.field-0.1.now _ _ _ _ _
    c.in_ok-before.ensures c.in_ok-apis.ensures c.in_ok-group.ensures c.in_ok-version.ensures c.in-Some.ensures is.pieces
