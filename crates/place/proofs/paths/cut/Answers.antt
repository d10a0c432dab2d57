use Rattle.place.proofs.Pieces.{cut_is}
use Rattle.place.proofs.paths.cut.Goals as goal

pub returns : goal.returns
returns c = cut_is c.args.path.now c.split_once.result c.split_once.ensures.cases
