use Rattle.std.proofs.Common.{◌∙◌, ℕ, List, ◌++◌, codes, ap}
use Rattle.std.specs.Prelude.{decimal}
use Rattle.drill_requests.specs.Bodies.{hub_body}
use Rattle.drill_requests.proofs.bodies.hub_body.Goals as goal

pub returns : goal.returns
unfolding hub_body
returns c =
    c.in_ok-format.ensures.ok
    ∙ ap (λ (f : List ℕ). codes "{\"apiVersion\":\"example.com/v1\",\"host\":\"h" ++ (decimal c.args.object ++ (codes "\",\"kind\":\"CronTab\",\"metadata\":{\"name\":\"o" ++ (decimal c.args.object
    ++ (codes "\"},\"port\":\"" ++ (f ++ (decimal c.args.value ++ (codes "\",\"timeoutMillis\":" ++ (decimal c.args.value ++ codes "}"))))))))) c.port_front-front.ensures
