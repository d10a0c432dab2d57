use Rattle.std.proofs.Common.{◌≡◌, ◌∙◌, false, true, sym, subst, codes}
use Rattle.clap.specs.Words.{found_of, rows_of}
use Rattle.command_lines.specs.Given.{IsCommand, remote_in}
use Rattle.command_lines.specs.Lines.{Values, remote_word}
use Rattle.command_lines.proofs.LineMatches.{found_options, renamed}
use Rattle.command_lines.proofs.matching.named.Goals as goal

pub returns-in-Some : goal.returns-in-Some
returns-in-Some c = renamed c.args.name.now (remote_word (remote_in c.in-Some.work)) (rows_of (found_of c.args.matches.now)) c.addressed.result c.in-Some.ensures c.addressed.ensures

pub returns-then-is_drill : goal.returns-then-is_drill
returns-then-is_drill c = renamed c.args.name.now (codes "drill") (rows_of (found_of c.args.matches.now)) c.drilled.result (c.is_drill.ensures.0 c.if-is_drill.true) c.drilled.ensures

pub returns-else-is_drill : goal.returns-else-is_drill
returns-else-is_drill c =
    found_options c.args.name.now (rows_of (found_of c.args.matches.now)) c.command_named.result
    (λ e. let both : true ≡ false = sym (c.is_drill.ensures.1 e) ∙ c.if-is_drill.false in cc) c.in-None.ensures
    (subst (λ (v : Values). IsCommand c.args.name.now v c.command_named.result) c.given.ensures c.command_named.ensures)
