use Rattle.http_routes.proofs.Plain.{Walked}
use Rattle.http_routes.proofs.finding.find_plain.Given as goal

abbrev pub invariant-loop-i : goal.invariant-loop-i
invariant-loop-i g l = Walked l.target l.parts l.count l.start l.i
