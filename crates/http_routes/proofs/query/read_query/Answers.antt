use Rattle.http_routes.specs.Views.{action_of}
use Rattle.http_routes.proofs.Nothing.{empty_of}
use Rattle.http_routes.proofs.Values.{reads_nothing}
use Rattle.http_routes.proofs.query.read_query.Goals as goal

pub returns-then-is_empty : goal.returns-then-is_empty
returns-then-is_empty c = reads_nothing (action_of c.args.action) c.args.query.now (empty_of c.args.query.now c.if-is_empty.ensures)
