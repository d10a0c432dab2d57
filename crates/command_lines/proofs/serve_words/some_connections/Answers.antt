use Rattle.std.proofs.Common.{◌≡◌, ◌∙◌, sym, arith}
use Rattle.std.proofs.lemmas.Fmt.{decimal_injective}
use Rattle.command_lines.proofs.serve_words.some_connections.Goals as goal

pub returns-then-connections-eq0 : goal.returns-then-connections-eq0
returns-then-connections-eq0 c = λ d spells.
    let same : c.in-Some.connections ≡ spells.0 = decimal_injective c.in-Some.connections spells.0 (omega (arith, c.in-Some.ensures.1)) (omega (arith, spells.4)) (sym c.in-Some.ensures.0 ∙ spells.2) in
    omega (arith, same, spells.3, c.if-connections-eq0.true)
