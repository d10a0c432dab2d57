use Rattle.std.proofs.Common.{◌≡◌, take, drop}
use Rattle.http_routes.specs.Paths.{pieces}
use Rattle.http_routes.proofs.Pieces.{under_first}
use Rattle.http_routes.proofs.parts.cut.Given as goal

-- what came before belongs to the first segment
abbrev pub invariant-loop-i : goal.invariant-loop-i
invariant-loop-i l = pieces l.path ≡ under_first (take l.i l.path) (pieces (drop l.i l.path))
