use Rattle.std.proofs.Common.{◌≡◌, ◌∙◌, sym, arith}
use Rattle.std.proofs.lemmas.Fmt.{decimal_injective}
use Rattle.command_lines.proofs.numbers.number_up_to.Goals as goal

pub returns-in-None : goal.returns-in-None
returns-in-None c = λ n spells. c.in-None.ensures n (omega (arith, spells.1)) (sym spells.0)

pub returns-else-number-most : goal.returns-else-number-most
returns-else-number-most c = λ n spells.
    let same : c.in-Some.number ≡ n = decimal_injective c.in-Some.number n c.in-Some.ensures.0 (omega (arith, spells.1)) (c.in-Some.ensures.1 ∙ spells.0) in
    omega (arith, same, spells.1, c.if-number-most.false)
