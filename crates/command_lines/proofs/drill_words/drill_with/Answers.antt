use Rattle.command_lines.proofs.LineWords.{same_drill}
use Rattle.command_lines.proofs.drill_words.drill_with.Goals as goal

pub returns-in-Some-number_up_to-clause-only : goal.returns-in-Some-number_up_to-clause-only
returns-in-Some-number_up_to-clause-only c = λ line h.
    same_drill c.args.start.now c.args.count.now c.in-Some.start c.in-Some-number_up_to.count line c.in-Some.ensures.0 c.in-Some.ensures.1 c.in-Some-number_up_to.ensures.0 c.in-Some-number_up_to.ensures.1 h
