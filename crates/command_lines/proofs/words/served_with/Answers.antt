use Rattle.std.proofs.Common.{◌≡◌, ◌∙◌, ◌∷◌, map, true, false, sym}
use Rattle.std.specs.Prelude.{string_bytes}
use Rattle.command_lines.proofs.LineWords.{drill_is, drill_only, options_are, options_only}
use Rattle.command_lines.proofs.words.served_with.Goals as goal

pub returns-then-is_drill-clause-is : goal.returns-then-is_drill-clause-is
returns-then-is_drill-clause-is c = drill_is c.drill_of.result c.args.word.now (map string_bytes c.args.rest.now) (c.is_drill.ensures.0 c.if-is_drill.true) c.drill_of.ensures.is

pub returns-then-is_drill-clause-only : goal.returns-then-is_drill-clause-only
returns-then-is_drill-clause-only c = drill_only c.drill_of.result c.args.word.now (map string_bytes c.args.rest.now) (c.is_drill.ensures.0 c.if-is_drill.true) c.drill_of.ensures.only

pub returns-else-is_drill-clause-is : goal.returns-else-is_drill-clause-is
returns-else-is_drill-clause-is c = options_are c.optioned.result (c.args.word.now ∷ map string_bytes c.args.rest.now) c.optioned.ensures.is

pub returns-else-is_drill-clause-only : goal.returns-else-is_drill-clause-only
returns-else-is_drill-clause-only c =
    options_only c.optioned.result c.args.word.now (map string_bytes c.args.rest.now)
    (λ e. let both : true ≡ false = sym (c.is_drill.ensures.1 e) ∙ c.if-is_drill.false in cc) c.optioned.ensures.only
