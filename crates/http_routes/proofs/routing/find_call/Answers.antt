use Rattle.http_routes.specs.Views.{resource_of, route_of}
use Rattle.http_routes.proofs.Served.{routes_served}
use Rattle.http_routes.proofs.routing.find_call.Goals as goal

pub returns-in-Named : goal.returns-in-Named
returns-in-Named g c =
    routes_served route_of (g.V.Versions.meaning c.args.versions.now) c.args.method.now c.args.target.now c.args.body.now (resource_of c.in-Named.resource) c.served.result
    c.in-Named.ensures.0 (rw c.in-Named.ensures.2 c.served.ensures)
