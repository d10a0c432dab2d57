use Rattle.std.proofs.Common.{sym}
use Rattle.http_routes.specs.Queries.{pairs_of}
use Rattle.http_routes.specs.Views.{action_of, resource_of, route_of}
use Rattle.http_routes.proofs.Served.{served_asked}
use Rattle.http_routes.proofs.routing.served.Goals as goal

pub returns : goal.returns
returns g c =
    served_asked route_of (g.V.Versions.meaning c.args.versions.now) (resource_of c.args.resource) (action_of c.in-Some.action) c.args.method.now (pairs_of c.args.query.now) c.args.body.now c.asked.result
    (sym (rw c.methods_of.ensures.row at c.in-Some.ensures.cell)) c.asked.ensures
