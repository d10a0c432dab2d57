use Rattle.http_routes.specs.Views.{resource_of, route_of}
use Rattle.http_routes.proofs.Served.{routes_served}
use Rattle.http_routes.proofs.routing.find_escaped.Goals as goal

pub returns : goal.returns
returns g c =
    let found = rw (c.in-Some.is, c.cut_target.ensures.path) at c.in_ok-parts.ensures in
    let lent = rw c.as_slice.ensures.value at c.in_ok-parts-2.ensures in
    let named = rw (c.as_slice-2.ensures.value, lent, found) at c.in-Some-named.ensures.names in
    routes_served route_of (g.V.Versions.meaning c.args.versions.now) c.args.method.now c.args.target.now c.args.body.now (resource_of c.in-Some-named.resource) c.served.result
    named (rw (← c.cut_target.ensures.query) c.served.ensures)
