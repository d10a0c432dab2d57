use Rattle.std.proofs.Common.{◌∙◌, List, ℕ, ◌∷◌, ◌+◌, take, sym, ap, arith}
use Rattle.std.proofs.lemmas.List.{take_rest}
use Rattle.std.proofs.lemmas.Grind.{common_steps}
use Rattle.http_routes.specs.Paths.{pieces}
use Rattle.http_routes.proofs.Pieces.{under_first-nil, past_byte, at_slash, at_end}
use Rattle.http_routes.proofs.parts.cut.Goals as goal

pub loop-i-init : goal.loop-i-init
loop-i-init c = sym (under_first-nil c.args.path.now)

pub loop-i-preserved : goal.loop-i-preserved
loop-i-preserved c =
    past_byte c.args.path.now c.loop-i.i 0 c.loop-i-test.true c.if-path-i-eq47.false c.loop-i.invariant

pub returns-then-path-i-eq47 : goal.returns-then-path-i-eq47
returns-then-path-i-eq47 c = (
  at_slash c.args.path.now c.loop-i.i 0 c.loop-i-test.true c.if-path-i-eq47.true c.loop-i.invariant
      ∙ ap (λ (ys : List ℕ). take c.loop-i.i c.args.path.now ∷ pieces ys) (sym (take_rest c.args.path.now (c.loop-i.i + 1))),
  grind (arith, common_steps),
)

pub returns : goal.returns
returns c = at_end c.args.path.now c.loop-i.i c.loop-i-test.false c.loop-i.invariant
